use Rattle.sg_spec.specs.Limits.{nodes}
use Rattle.sg_expr.specs.Tree.{tree_of}
use Rattle.sg_build.proofs.placing.+inverse.Given as goal

abbrev pub decreases-inverse : goal.decreases-inverse
decreases-inverse g l = nodes (tree_of l.e.now)
