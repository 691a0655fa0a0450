use Rattle.std.proofs.Common.{◌≡◌, ◌%◌, unsigned_abs, subst, rules, FitsSigned}
use Rattle.std.proofs.lemmas.Int.{to_z-of_z}
use Rattle.std.specs.Int.{w128}
use Rattle.sg_algebra.specs.Coefficients.{Each}
use Rattle.sg_plain.proofs.reducing.+push_quotients.Goals as goal

pub push_quotients-requires : goal.push_quotients-requires
push_quotients-requires t c =
    let fits : FitsSigned w128 c.args.by = search rules in
    let each = subst (Each (λ v. unsigned_abs v % unsigned_abs c.args.by ≡ 0)) c.in-Some.ensures.cases.0 c.requires.exact in
    (search rules, (search rules, rw (to_z-of_z w128 c.args.by fits) each.1))
