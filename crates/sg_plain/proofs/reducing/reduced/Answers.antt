use Rattle.std.proofs.Common.{unsigned_abs, sym, subst, rules, FitsSigned}
use Rattle.std.proofs.lemmas.Int.{to_z-of_z}
use Rattle.std.specs.Int.{w128}
use Rattle.sg_plain.specs.Lowest.{IsReduced}
use Rattle.sg_plain.proofs.Lowest.{multiples-at, denominator-at, lowest-at}
use Rattle.sg_plain.proofs.reducing.reduced.Goals as goal

pub quotients-requires-clause-exact : goal.quotients-requires-clause-exact
quotients-requires-clause-exact c =
    let fits : FitsSigned w128 c.divisor-by.result = search rules in
    let fits-d : FitsSigned w128 c.args.denominator = search rules in
    let e = simp to_z-of_z at c.divisor-by.ensures.value in
    rw (to_z-of_z w128 c.divisor-by.result fits) (multiples-at c.args.numbers.now (unsigned_abs c.args.denominator) c.divisor-by.result e)

pub exact_quotient-requires-clause-exact : goal.exact_quotient-requires-clause-exact
exact_quotient-requires-clause-exact c =
    let fits : FitsSigned w128 c.divisor-by.result = search rules in
    let fits-d : FitsSigned w128 c.args.denominator = search rules in
    let e = simp to_z-of_z at c.divisor-by.ensures.value in
    rw (to_z-of_z w128 c.divisor-by.result fits, to_z-of_z w128 c.args.denominator fits-d)
    (denominator-at c.args.numbers.now c.args.denominator c.divisor-by.result e)

pub returns : goal.returns
returns c =
    let fits : FitsSigned w128 c.divisor-by.result = search rules in
    let fits-d : FitsSigned w128 c.args.denominator = search rules in
    let fits-q : FitsSigned w128 c.exact_quotient.result = search rules in
    let e = simp to_z-of_z at c.divisor-by.ensures.value in
    let numbers = simp to_z-of_z at c.in_ok-numbers.ensures in
    let value = simp to_z-of_z at c.exact_quotient.ensures.value in
    let sign = simp to_z-of_z at c.exact_quotient.ensures.sign in
    subst (λ z. IsReduced c.args.numbers.now c.args.denominator c.in_ok-numbers.numbers z) (sym (to_z-of_z w128 c.exact_quotient.result fits-q))
    (lowest-at c.args.numbers.now c.in_ok-numbers.numbers c.args.denominator c.exact_quotient.result c.divisor-by.result e c.divisor-by.ensures.some
    numbers value (sign c.requires))
