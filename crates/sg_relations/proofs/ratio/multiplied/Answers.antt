use Rattle.std.proofs.Common.{rules, ◌≡◌, ◌∙◌, ◌-◌, ℤ, refl, subst, FitsSigned, arith}
use Rattle.std.specs.Int.{w128}
use Rattle.std.proofs.lemmas.Int.{to_z-of_z}
use Rattle.sg_algebra.proofs.Ring.{pow}
use Rattle.sg_algebra.proofs.Polynomial.{PolynomialR, ◌*ᵖ◌}
use Rattle.sg_poly.specs.Polynomials.{polynomial}
use Rattle.sg_relations_theory.proofs.Generators.{up_part}
use Rattle.sg_relations.proofs.Combined.{power_more, power_end}
use Rattle.sg_relations.proofs.ratio.multiplied.Goals as goal

pub loop-left-preserved : goal.loop-left-preserved
loop-left-preserved g c = power_more (polynomial g.F.Field.val c.args.base.now) (polynomial g.F.Field.val c.loop-left.product) (polynomial g.F.Field.val c.in_ok-product.product) c.loop-left.left (c.loop-left.left - 1) c.loop-left-test.true refl c.in_ok-product.ensures.value ∙ c.loop-left.invariant

pub returns-clause-value : goal.returns-clause-value
returns-clause-value g c =
    let fits : FitsSigned w128 c.args.e = search rules in
    power_end (polynomial g.F.Field.val c.args.base.now) (polynomial g.F.Field.val c.loop-left.product) (pow (PolynomialR g.F.Field.vars) (polynomial g.F.Field.val c.args.base.now) (up_part c.args.e) *ᵖ polynomial g.F.Field.val c.args.p) c.loop-left.left (omega arith)
    (subst (λ (e : ℤ). pow (PolynomialR g.F.Field.vars) (polynomial g.F.Field.val c.args.base.now) c.loop-left.left *ᵖ polynomial g.F.Field.val c.loop-left.product ≡ pow (PolynomialR g.F.Field.vars) (polynomial g.F.Field.val c.args.base.now) (up_part e) *ᵖ polynomial g.F.Field.val c.args.p)
    (to_z-of_z w128 c.args.e fits) c.loop-left.invariant)
