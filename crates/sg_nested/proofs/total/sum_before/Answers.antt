use Rattle.std.proofs.Common.{FitsSigned, w64}
use Rattle.std.proofs.lemmas.Int.{to_z-of_z}
use Rattle.sg_expr.specs.Tree.{tree_of}
use Rattle.sg_nested.proofs.Starting.{sum-known}
use Rattle.sg_nested.proofs.total.sum_before.Goals as goal

pub unreachable-requires : goal.unreachable-requires
unreachable-requires c =
    let fits : FitsSigned w64 c.args.lower = c.ranges.lower in
    sum-known (tree_of c.args.f.now) (tree_of c.in_ok-sum.sum) c.args.lower _ c.requires.summand.values (simp to_z-of_z at c.in_ok-sum.ensures) (rw c.in-None.is at c.in_ok-value_in.ensures.none)
