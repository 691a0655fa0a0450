use Rattle.std.proofs.Common.{◌≤◌, ◌*◌, unsigned_abs, ◌∙◌, sym, subst, FitsSigned, rules}
use Rattle.std.proofs.lemmas.Int.{to_z-of_z}
use Rattle.std.specs.Int.{w128}
use Rattle.sg_plain.proofs.Sizes.{product-size}
use Rattle.sg_plain.proofs.products.weighted.Goals as goal

pub returns-clause-small : goal.returns-clause-small
returns-clause-small c = λ b h.
    let fits : FitsSigned w128 c.multiplied.result = search rules in
    let fits-w : FitsSigned w128 c.args.w = search rules in
    let fits-v : FitsSigned w128 c.args.v = search rules in
    let v = simp to_z-of_z at c.multiplied.ensures in
    subst (λ z. unsigned_abs z ≤ 4096 * b) (sym (to_z-of_z w128 c.multiplied.result fits ∙ v)) (product-size c.args.w c.args.v 4096 b c.requires.weight h)
