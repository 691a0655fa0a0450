use Rattle.std.proofs.Common.{map, rules, FitsSigned, ap, ap₂, sym, ◌∙◌}
use Rattle.std.specs.Int.{w128}
use Rattle.std.proofs.lemmas.Int.{to_z-of_z}
use Rattle.sg_algebra.proofs.Polynomial.{constant, ◌*ᵖ◌}
use Rattle.sg_first_order_theory.proofs.Next.{moved_polynomial, moved_polynomial-poly}
use Rattle.sg_constant.specs.Shares.{polys, over}
use Rattle.sg_constant.proofs.shares.image.Goals as goal

pub returns-clause-value : goal.returns-clause-value
returns-clause-value g c =
    let v = g.F.Field.val in
    let fits : FitsSigned w128 c.args.m = search rules in
    let shifted = simp to_z-of_z at c.in_ok-lower.ensures.value in
    let uppers = simp to_z-of_z at c.in_ok-uppers.ensures.value in
    ap₂ over (uppers ∙ ap (λ l. map (λ x. constant (v c.args.c.now) *ᵖ moved_polynomial c.args.m x) (polys v l)) c.as_slice.ensures)
    (shifted ∙ sym (moved_polynomial-poly c.args.m (map v c.args.s.now.lower)))
