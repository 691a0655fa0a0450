use Rattle.std.proofs.Common.{FitsSigned, refl, inl, inr, rules}
use Rattle.std.specs.Int.{w64}
use Rattle.std.proofs.lemmas.Int.{to_z-of_z}
use Rattle.sg_top.proofs.Replies.{far-form, pole-form, factor-form, far-refusal, pole-refusal, factor-refusal, stop-keeps, stop-heavy}
use Rattle.sg_top.proofs.poles.pole_reply.Goals as goal

pub far_text-requires : goal.far_text-requires
far_text-requires c =
    let known = rw c.in-FarPole.is at c.requires in
    far-form known.0 known.1 c.in-FarPole.item c.in-FarPole.depth c.in-FarPole.part known.2 known.3.1.1

pub zero_text-requires : goal.zero_text-requires
zero_text-requires c =
    let known = rw c.in-Pole.is at c.requires in
    pole-form known.0 known.1 c.in-Pole.item c.in-Pole.depth c.in-Pole.at c.in-Pole.part known.2 known.3.1.1

pub zero_text-requires-in-ZeroFactor : goal.zero_text-requires-in-ZeroFactor
zero_text-requires-in-ZeroFactor c =
    let known = rw c.in-ZeroFactor.is at c.requires in
    factor-form known.0 known.1 c.in-ZeroFactor.item c.in-ZeroFactor.depth c.in-ZeroFactor.at c.in-ZeroFactor.part known.2 known.3.1.1

pub stopped-requires : goal.stopped-requires
stopped-requires c =
    let known = rw c.in-Stop.is at c.requires in
    stop-keeps c.in-Stop.stop known.0 known.1 known.3.1

pub returns-in_ok-text-in-FarPole : goal.returns-in_ok-text-in-FarPole
returns-in_ok-text-in-FarPole c = λ a es cause.
    let known = rw c.in-FarPole.is at cause in
    rw c.refused.ensures
    (inl (refl, far-refusal a es c.in-FarPole.item c.in-FarPole.depth c.in-FarPole.part c.in_ok-text-in-FarPole.text.items known.1.1 c.in_ok-text-in-FarPole.ensures))

pub returns-in_ok-text-in-Pole : goal.returns-in_ok-text-in-Pole
returns-in_ok-text-in-Pole c = λ a es cause.
    let fits : FitsSigned w64 c.in-Pole.at = search rules in
    let known = rw c.in-Pole.is at cause in
    rw c.refused-in-Pole.ensures
    (inl (
      refl,
      pole-refusal a es c.in-Pole.item c.in-Pole.depth c.in-Pole.at c.in-Pole.part c.in_ok-text-in-Pole.text.items known.1.1
          (simp to_z-of_z at c.in_ok-text-in-Pole.ensures),
    ))

pub returns-in_ok-text-in-ZeroFactor : goal.returns-in_ok-text-in-ZeroFactor
returns-in_ok-text-in-ZeroFactor c = λ a es cause.
    let fits : FitsSigned w64 c.in-ZeroFactor.at = search rules in
    let known = rw c.in-ZeroFactor.is at cause in
    rw c.refused-in-ZeroFactor.ensures
    (inl (
      refl,
      factor-refusal a es c.in-ZeroFactor.item c.in-ZeroFactor.depth c.in-ZeroFactor.at c.in-ZeroFactor.part c.in_ok-text-in-ZeroFactor.text.items known.1.1
          (simp to_z-of_z at c.in_ok-text-in-ZeroFactor.ensures),
    ))

pub returns-in_ok-reply-in-Stop : goal.returns-in_ok-reply-in-Stop
returns-in_ok-reply-in-Stop c = λ a es cause.
    let known = rw c.in-Stop.is at cause in
    inr (c.in_ok-reply-in-Stop.ensures.line, stop-heavy c.in-Stop.stop a es c.in_ok-reply-in-Stop.ensures.no_memory known.1)
