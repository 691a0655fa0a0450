use Rattle.std.proofs.Common.{rules, ◌∙◌, ap, ℤ, ◌*ℤ◌, FitsSigned, to_z, of_z, arith}
use Rattle.std.specs.Int.{w128}
use Rattle.std.proofs.lemmas.Int.{to_z-of_z}
use Rattle.sg_poly.specs.Polynomials.{polynomial}
use Rattle.sg_relations.proofs.Combined.{up_more}
use Rattle.sg_relations.proofs.ratio.product.Goals as goal

pub loop-i-preserved : goal.loop-i-preserved
loop-i-preserved g c =
    let own : FitsSigned w128 c.get-exponent.result.now = search rules in
    let e : FitsSigned w128 c.in_ok-e.e = search rules in
    up_more g.F.Field.val (to_z w128 (of_z w128 c.args.sign)) c.in_ok-e.e c.get-exponent.result.now c.args.factors.now c.loop-i.i c.get-factor.result.now (polynomial g.F.Field.val c.loop-i.product) (polynomial g.F.Field.val c.in_ok-product-2.product) (omega arith) c.requires
    c.get-factor.ensures c.get-exponent.ensures (c.in_ok-e.ensures.value ∙ ap (λ (z : ℤ). to_z w128 (of_z w128 c.args.sign) *ℤ z) (to_z-of_z w128 c.get-exponent.result.now own)) c.loop-i.invariant (simp to_z-of_z at c.in_ok-product-2.ensures.value)
