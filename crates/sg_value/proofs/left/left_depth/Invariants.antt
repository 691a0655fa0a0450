use Rattle.std.proofs.Common.{◌+◌, ◌≤◌}
use Rattle.sg_expr.specs.Tree.{tree_of}
use Rattle.sg_value.specs.Left.{left_depth}
use Rattle.sg_value.proofs.left.left_depth.Given as goal

abbrev pub decreases-loop-part : goal.decreases-loop-part
decreases-loop-part l = left_depth (tree_of l.part)

abbrev pub invariant-loop-part : goal.invariant-loop-part
invariant-loop-part l = l.count + left_depth (tree_of l.part) ≤ left_depth (tree_of l.fn.e)
