use Rattle.sg_spec.specs.Worth.{IsFolded, HasWorth}
use Rattle.sg_expr.specs.Tree.{tree_of}
use Rattle.sg_build.specs.Letters.{letter}
use Rattle.sg_build.specs.Found.{join_of, start_of}
use Rattle.sg_build.proofs.values.+find_value.Given as goal

abbrev pub invariant-fold-loop-i : goal.invariant-fold-loop-i
invariant-fold-loop-i g l = IsFolded (join_of l.op) (start_of l.op) (HasWorth (letter g.K.Field.vars) (tree_of l.body)) l.from l.i (g.K.Field.val l.so_far)
