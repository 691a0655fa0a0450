-- The summation as what is done in a tower.
--   IsSuited     its summand is one of the facts
--   IsDone       the answer to it
use Rattle.std.specs.Prelude.{Option}
use Rattle.sg_expr.specs.Tree.{tree_of}
use Rattle.sg_expr.specs.declared.tree.Expr.{Expr}
use Rattle.sg_limits.specs.declared.inspection.Facts.{Facts}
use Rattle.sg_nested.specs.declared.nested.Summation.{Summation}
use Rattle.sg_nested.specs.Summands.{IsSummand, IsAnswer}

abbrev pub IsSuited : Summation → Facts → Type 0
IsSuited job facts = IsSummand facts (tree_of job.summand) job.lower

abbrev pub IsDone : Summation → Facts → Option Expr → Type 0
IsDone job facts out = IsAnswer facts (tree_of job.summand) job.lower out
