use Rattle.sg_algebra.proofs.Divisor.{gcd_one_right}
use Rattle.sg_algebra.proofs.Rational.{fraction_value-whole}
use Rattle.sg_algebra.proofs.Value.{fraction_value}
use Rattle.std.proofs.Common.{rules, ◌∙◌, ap, FitsSigned}
use Rattle.std.specs.Int.{w128}
use Rattle.std.proofs.lemmas.Int.{to_z-of_z}
use Rattle.sg_num.proofs.rat.Rat.whole.Goals as goal

pub invariant_of-result : goal.invariant_of-result
invariant_of-result c = search (rules, gcd_one_right)

pub returns-clause-as_number : goal.returns-clause-as_number
returns-clause-as_number c =
    let fits : FitsSigned w128 c.args.n = search rules in
    ap (λ z. fraction_value z 1) (to_z-of_z w128 c.args.n fits) ∙ fraction_value-whole c.args.n
