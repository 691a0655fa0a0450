use Rattle.std.proofs.Common.{◌∙◌, ap, ◌*ℤ◌, unsigned_abs, rules, FitsSigned}
use Rattle.std.specs.Int.{w128}
use Rattle.std.proofs.lemmas.Int.{quot_is}
use Rattle.std.proofs.lemmas.Nat.Gcd.{mod-eq-zero_of_dvd}
use Rattle.sg_num.proofs.WholeSteps.{whole_quotient}
use Rattle.sg_parts.proofs.Quotients.{quotient_fits}
use Rattle.sg_parts.proofs.normal.exact.Goals as goal

pub returns : goal.returns
returns c =
    let fa : FitsSigned w128 c.args.a = search rules in
    let fb : FitsSigned w128 c.args.b = search rules in
    let rest = mod-eq-zero_of_dvd (unsigned_abs c.args.b) c.requires.divides in
    ap (λ q. q *ℤ c.args.b) (quot_is w128 c.args.a c.args.b fa fb (quotient_fits c.args.a c.args.b c.requires.some c.requires.small rest))
    ∙ whole_quotient c.args.a c.args.b rest
