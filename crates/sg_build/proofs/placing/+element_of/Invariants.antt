use Rattle.sg_spec.specs.Limits.{nodes}
use Rattle.sg_expr.specs.Tree.{tree_of}
use Rattle.sg_build.proofs.placing.+element_of.Given as goal

abbrev pub decreases-element_of : goal.decreases-element_of
decreases-element_of g l = nodes (tree_of l.e.now)
