use Rattle.std.proofs.Common.{rules, ◌≡◌, ℕ, ◌<◌, ◌≤◌, refl, sym, ◌∙◌, subst, ap, map, length, All, arith, List, ℤ, Option, Some, IfSome, FitsSigned}
use Rattle.std.specs.Int.{w128}
use Rattle.std.proofs.lemmas.Int.{to_z-of_z}
use Rattle.sg_algebra.proofs.Value.{Value}
use Rattle.sg_algebra.proofs.Lists.{length_map}
use Rattle.sg_spread.specs.Shifts.{Meets}
use Rattle.sg_poly.proofs.Dividers.{monic_some}
use Rattle.sg_relations.specs.declared.factors.Factor.{Factor}
use Rattle.sg_relations.specs.Factors.{AreUnmet, IsShift, IsStep, IsMeeting}
use Rattle.sg_relations.proofs.FactorSteps.{unit_step, move_step, split_step}
use Rattle.sg_relations.proofs.factors.step.Goals as goal

short : (n : ℕ) → n < 2 → n ≤ 1
short n l = omega (arith, l)

long : (n : ℕ) → 2 ≤ n → 1 < n
long n h = omega (arith, h)

pub returns-then-coeffs-lt2-clause-value : goal.returns-then-coeffs-lt2-clause-value
returns-then-coeffs-lt2-clause-value g c =
    unit_step g.F.Field.val c.args.shifts (length c.args.w.exps) c.args.w c.args.waiting.now c.args.standing.now c.requires.monic c.requires.proper c.requires.pairwise c.requires.own refl c.requires.waiting_width c.requires.standing_width
    (subst (λ (n : ℕ). n ≤ 1) (ap length c.coeffs.ensures.value ∙ sym (length_map g.F.Field.val c.args.w.base)) (short (length c.coeffs.result.now) c.if-coeffs-lt2.true))

pub meeting-requires-clause-some : goal.meeting-requires-clause-some
meeting-requires-clause-some g c = monic_some (map g.F.Field.val c.args.w.base) c.requires.own

found_at : {K : Type 0} {d : ℕ} (v : K → Value d) (found : Option (ℕ × ℤ)) (S S' : List (Factor K)) (w : List K) (j : ℕ) (m : ℤ) → found ≡ Some (j, m) → S' ≡ S → IfSome found (λ p. IsMeeting v S' w p.0 p.1) → IsMeeting v S w j m
found_at v found S S' w j m e same h = subst (λ (S : List (Factor _)). IsMeeting v S w j m) same (rw e at h)

pub split-requires-clause-met : goal.split-requires-clause-met
split-requires-clause-met g c =
    let fits : FitsSigned w128 c.in-Some.m = search rules in
    let met : IsMeeting g.F.Field.val c.args.standing.now c.args.w.base c.in-Some.j c.in-Some.m = found_at g.F.Field.val c.in_ok-found.found c.args.standing.now c.as_slice.result.now c.args.w.base c.in-Some.j c.in-Some.m c.in-Some.is c.as_slice.ensures c.in_ok-found.ensures.met in
    subst (λ (m : ℤ). Meets (map g.F.Field.val c.args.w.base) (map g.F.Field.val c.remove-b.result.base) m) (sym (to_z-of_z w128 c.in-Some.m fits))
    (subst (λ (x : Factor g.row.F.Denot). Meets (map g.F.Field.val c.args.w.base) (map g.F.Field.val x.base) c.in-Some.m) (sym c.remove-b.ensures.item) (met.met c.remove-b.result))

pub returns-in_ok-push-in-None-clause-value : goal.returns-in_ok-push-in-None-clause-value
returns-in_ok-push-in-None-clause-value g c =
    subst (λ (S : List (Factor g.row.F.Denot)). IsStep g.F.Field.val c.args.shifts (length c.args.w.exps) c.args.w c.args.waiting.now c.args.standing.now c.args.waiting.now S) (sym c.in_ok-push-in-None.ensures.ok)
    (move_step g.F.Field.val c.args.shifts (length c.args.w.exps) c.args.w c.args.waiting.now c.args.standing.now c.requires.monic c.requires.proper c.requires.pairwise c.requires.own refl c.requires.waiting_width c.requires.standing_width
    (subst (λ (n : ℕ). 1 < n) (ap length c.coeffs.ensures.value ∙ sym (length_map g.F.Field.val c.args.w.base)) (long (length c.coeffs.result.now) c.if-coeffs-lt2.false)) c.coeffs.ensures.ends
    (subst (λ (S : List (Factor g.row.F.Denot)). All (λ x. AreUnmet g.F.Field.val c.args.shifts c.args.w.base x) S) c.as_slice.ensures (rw c.in-None.is at c.in_ok-found.ensures.none)))

pub returns-in_ok-split-in-Some-clause-value : goal.returns-in_ok-split-in-Some-clause-value
returns-in_ok-split-in-Some-clause-value g c =
    let fits : FitsSigned w128 c.in-Some.m = search rules in
    let met : IsMeeting g.F.Field.val c.args.standing.now c.args.w.base c.in-Some.j c.in-Some.m = found_at g.F.Field.val c.in_ok-found.found c.args.standing.now c.as_slice.result.now c.args.w.base c.in-Some.j c.in-Some.m c.in-Some.is c.as_slice.ensures c.in_ok-found.ensures.met in
    subst (λ (S : List (Factor g.row.F.Denot)). IsStep g.F.Field.val c.args.shifts (length c.args.w.exps) c.args.w c.args.waiting.now c.args.standing.now c.split.new.waiting S) (sym c.remove-b.ensures.new)
    (split_step g.F.Field.val c.args.shifts (length c.args.w.exps) c.args.w c.args.waiting.now c.args.standing.now c.requires.monic c.requires.proper c.requires.pairwise c.requires.own refl c.requires.waiting_width c.requires.standing_width
    c.in-Some.j c.remove-b.result c.split.new.waiting met.inside c.remove-b.ensures.item
    (c.in_ok-split-in-Some.ensures.value c.args.shifts (subst (IsShift c.args.shifts) (sym (to_z-of_z w128 c.in-Some.m fits)) (rw c.in-Some.is at c.in_ok-found.ensures.shift))))
