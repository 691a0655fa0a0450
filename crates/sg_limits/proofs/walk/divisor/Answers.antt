use Rattle.std.proofs.Common.{rules, ◌≡◌, FitsSigned, to_z, of_z}
use Rattle.std.specs.Int.{w64}
use Rattle.std.proofs.lemmas.Int.{to_z-of_z}
use Rattle.std.proofs.lemmas.Result.{err_from_is_err_and}
use Rattle.sg_spec.specs.Parts.{divides}
use Rattle.sg_expr.specs.Tree.{tree_of}
use Rattle.sg_limits.proofs.Walking.{bare_naturals, far_part, nowhere_divisor, pole_divisor, stop_part}
use Rattle.sg_limits.proofs.walk.divisor.Goals as goal

pub zero_of-requires-clause-naturals : goal.zero_of-requires-clause-naturals
zero_of-requires-clause-naturals c = bare_naturals (tree_of c.args.e.now) c.requires.bare

pub returns-in_err-zero : goal.returns-in_err-zero
returns-in_err-zero c =
    let p = err_from_is_err_and c.from_residual.result c.from_residual.ensures.1 in
    rw (p.1, p.2) (stop_part c.args.place divides (tree_of c.args.e.now) c.args.found c.in_err-zero.field-0.0 c.in_err-zero.ensures.stop)

pub returns-in_ok-part-in-Far : goal.returns-in_ok-part-in-Far
returns-in_ok-part-in-Far c =
    rw c.far.ensures (far_part c.args.place (tree_of c.args.e.now) c.requires.bare divides c.args.found c.in_ok-part-in-Far.part (rw c.in-Far.is at c.in_ok-zero.ensures.zero) c.in_ok-part-in-Far.ensures)

pub returns-in-Nowhere : goal.returns-in-Nowhere
returns-in-Nowhere c =
    let fits : FitsSigned w64 c.args.place.limit = search rules in
    let limit : to_z w64 (of_z w64 c.args.place.limit) ≡ c.args.place.limit = to_z-of_z w64 c.args.place.limit fits in
    let zero = rw c.in-Nowhere.is at c.in_ok-zero.ensures.zero in
    nowhere_divisor c.args.place (tree_of c.args.e.now) c.requires.bare c.args.found (rw limit at zero)

pub returns-in_ok-pole-in-At : goal.returns-in_ok-pole-in-At
returns-in_ok-pole-in-At c =
    let fits : FitsSigned w64 c.args.place.limit = search rules in
    let limit : to_z w64 (of_z w64 c.args.place.limit) ≡ c.args.place.limit = to_z-of_z w64 c.args.place.limit fits in
    let zero = rw c.in-At.is at c.in_ok-zero.ensures.zero in
    let inside : FitsSigned w64 c.in-At.m = search rules in
    let at : to_z w64 (of_z w64 c.in-At.m) ≡ c.in-At.m = to_z-of_z w64 c.in-At.m inside in
    pole_divisor c.args.place (tree_of c.args.e.now) c.requires.bare c.args.found c.in-At.m (to_z w64 (of_z w64 c.in-At.m)) c.in_ok-pole-in-At.pole at (rw limit at zero) c.in_ok-pole-in-At.ensures
