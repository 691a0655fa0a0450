use Rattle.std.proofs.Common.{◌≡◌}
use Rattle.sg_expr.specs.Tree.{tree_of}
use Rattle.sg_value.specs.Left.{left_part}
use Rattle.sg_value.proofs.left.left_part.Given as goal

abbrev pub invariant-loop-i : goal.invariant-loop-i
invariant-loop-i l = tree_of l.part ≡ left_part (tree_of l.fn.e) l._i
