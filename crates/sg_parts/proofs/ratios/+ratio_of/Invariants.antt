use Rattle.sg_spec.specs.Limits.{nodes}
use Rattle.sg_expr.specs.Tree.{tree_of}
use Rattle.sg_parts.proofs.ratios.+ratio_of.Given as goal

abbrev pub decreases-ratio_of : goal.decreases-ratio_of
decreases-ratio_of l = nodes (tree_of l.e.now)
