use Rattle.std.proofs.Common.{◌≡◌, ◌∙◌, ap, rules, FitsSigned}
use Rattle.std.specs.Int.{w128}
use Rattle.std.proofs.lemmas.Int.{to_z-of_z}
use Rattle.sg_algebra.specs.Fraction.{whole}
use Rattle.sg_algebra.proofs.Rational.{whole_value}
use Rattle.sg_num.specs.Value.{fraction}
use Rattle.sg_num.proofs.WholeSteps.{multiple_num}
use Rattle.sg_num.proofs.clear.multiplied.Goals as goal

pub returns-clause-value : goal.returns-clause-value
returns-clause-value c =
    let fits : FitsSigned w128 c.num.result = search rules in
    let w : fraction c.whole.result ≡ whole c.args.l = search rules in
    ap (whole_value 0) (to_z-of_z w128 c.num.result fits ∙ c.num.ensures) ∙ multiple_num c.args.l c.whole.result c.args.r c.in_ok-product.product w c.requires c.in_ok-product.ensures.value
