use Rattle.std.proofs.Common.{◌≡◌, ◌∙◌, rules, FitsSigned}
use Rattle.std.specs.Int.{w128}
use Rattle.std.proofs.lemmas.Int.{to_z-of_z}
use Rattle.sg_algebra.specs.Fraction.{whole}
use Rattle.sg_num.specs.Value.{fraction}
use Rattle.sg_num.proofs.WholeSteps.{sum_num}
use Rattle.sg_num.proofs.whole.whole_sum.Goals as goal

pub returns-clause-value : goal.returns-clause-value
returns-clause-value c =
    let fits : FitsSigned w128 c.num.result = search rules in
    let a : fraction c.whole.result ≡ whole c.args.a = search rules in
    let b : fraction c.whole-2.result ≡ whole c.args.b = search rules in
    to_z-of_z w128 c.num.result fits ∙ c.num.ensures ∙ sum_num c.args.a c.args.b c.whole.result c.whole-2.result c.in_ok-sum.sum a b c.in_ok-sum.ensures.value
