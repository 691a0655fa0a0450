use Rattle.std.proofs.Common.{rules, FitsSigned}
use Rattle.std.specs.Int.{w128}
use Rattle.std.proofs.lemmas.Int.{to_z-of_z}
use Rattle.sg_roots.proofs.Sizes.{same_sign-symm, same_sign-trans}
use Rattle.sg_roots.proofs.pieces.moved.Goals as goal

pub returns-then-have_same_sign-clause-same : goal.returns-then-have_same_sign-clause-same
returns-then-have_same_sign-clause-same c =
    let fl : FitsSigned w128 c.args.low = search rules in
    let fs : FitsSigned w128 c.in_ok-sign.sign = search rules in
    let ft : FitsSigned w128 c.in_ok-sign_at.field-0 = search rules in
    let first = simp to_z-of_z at c.in_ok-sign.ensures.value in
    let both = simp to_z-of_z at (c.have_same_sign.ensures.0 (search rules)) in
    same_sign-trans _ _ _ (same_sign-symm _ _ first) (same_sign-trans _ _ _ both c.in_ok-sign_at.ensures.value)
