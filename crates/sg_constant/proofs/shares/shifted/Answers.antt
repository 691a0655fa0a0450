use Rattle.std.proofs.Common.{map, rules, FitsSigned, ap, sym, ◌∙◌}
use Rattle.std.specs.Int.{w128}
use Rattle.std.proofs.lemmas.Int.{to_z-of_z}
use Rattle.sg_algebra.proofs.Polynomial.{constant, ◌*ᵖ◌}
use Rattle.sg_first_order_theory.proofs.Next.{moved_polynomial-poly}
use Rattle.sg_constant.proofs.shares.shifted.Goals as goal

pub returns-clause-value : goal.returns-clause-value
returns-clause-value g c =
    let fits : FitsSigned w128 c.args.m = search rules in
    let shifted = simp to_z-of_z at c.in_ok-q.ensures.value in
    c.in_ok-r.ensures.value ∙ ap (λ x. constant (g.F.Field.val c.args.c.now) *ᵖ x) (shifted ∙ sym (moved_polynomial-poly c.args.m (map g.F.Field.val c.args.p.now)))
