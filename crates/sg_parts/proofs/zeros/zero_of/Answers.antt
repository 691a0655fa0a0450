use Rattle.std.specs.Int.{w64}
use Rattle.std.proofs.lemmas.Int.{to_z-of_z}
use Rattle.sg_spec.specs.Parts.{coefficients, numer}
use Rattle.sg_expr.specs.Tree.{tree_of}
use Rattle.sg_parts.proofs.Sames.{zero_same}
use Rattle.sg_parts.proofs.zeros.zero_of.Goals as goal

pub returns-clause-zero : goal.returns-clause-zero
returns-clause-zero c =
    let zero = rw (c.as_slice.ensures, to_z-of_z w64 c.args.limit c.ranges.limit) at c.plane_zero.ensures in
    zero_same c.in_ok-plane.plane (coefficients (numer (tree_of c.args.e.now))) c.args.limit c.in_ok-plane.ensures.plane c.plane_zero.result zero
