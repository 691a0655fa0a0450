use Rattle.sg_expr.specs.Tree.{tree_of}
use Rattle.sg_spec.specs.Limits.{nodes}
use Rattle.sg_plain.proofs.reading.+value.Given as goal

abbrev pub decreases-value : goal.decreases-value
decreases-value l = nodes (tree_of l.e.now)
