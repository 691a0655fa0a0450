use Rattle.std.proofs.Common.{rules, ◌≡◌, ◌∙◌, sym, subst, to_z, of_z, FitsSigned}
use Rattle.std.specs.Int.{w128}
use Rattle.std.proofs.lemmas.Int.{to_z-of_z}
use Rattle.sg_parts.specs.Planes.{VanishesAt}
use Rattle.sg_parts.proofs.AllRows.{likely}
use Rattle.sg_parts.proofs.roots.is_common_zero.Goals as goal

pub returns-else-may_be_root : goal.returns-else-may_be_root
returns-else-may_be_root c =
    let m = to_z w128 (of_z w128 c.from-point.result) in
    let fits : FitsSigned w128 c.from-point.result = search rules in
    let from : c.from-point.result ≡ c.args.m = search rules in
    let same : m ≡ c.args.m = to_z-of_z w128 c.from-point.result fits ∙ from in
    (λ t. absurd (search (rules, t)), λ v. likely c.args.plane.now c.args.low m c.may_be_root.result c.requires.low c.may_be_root.ensures.zero c.may_be_root.ensures.divisor (subst (λ x. VanishesAt c.args.plane.now x) (sym same) v))
