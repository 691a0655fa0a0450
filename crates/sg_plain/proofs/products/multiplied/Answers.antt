use Rattle.std.proofs.Common.{FitsSigned, ◌*ℤ◌, ap₂, ◌∙◌, arith, rules}
use Rattle.std.proofs.lemmas.Int.{to_z-of_z, fits_signed_mul}
use Rattle.std.specs.Int.{w128}
use mir.Val.{to_z, of_z}
use Rattle.sg_plain.proofs.products.multiplied.Goals as goal

pub returns : goal.returns
returns c =
    let fits : FitsSigned w128 (c.args.a *ℤ c.args.b) = fits_signed_mul w128 c.args.a c.args.b 67108864 316912650057057350374175801344
    c.requires.left c.requires.right (omega arith) in
    let fits-a : FitsSigned w128 c.args.a = search rules in
    let fits-b : FitsSigned w128 c.args.b = search rules in
    ap₂ (λ u v. to_z w128 (of_z w128 (u *ℤ v))) (to_z-of_z w128 c.args.a fits-a) (to_z-of_z w128 c.args.b fits-b) ∙ to_z-of_z w128 (c.args.a *ℤ c.args.b) fits
