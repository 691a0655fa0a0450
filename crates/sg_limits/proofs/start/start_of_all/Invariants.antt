use Rattle.std.proofs.Common.{◌≡◌, map, drop}
use Rattle.sg_spec.specs.Generators.{start}
use Rattle.sg_expr.specs.Tree.{tree_of}
use Rattle.sg_limits.proofs.start.start_of_all.Given as goal

abbrev pub invariant-loop-e : goal.invariant-loop-e
invariant-loop-e l = start (map tree_of (drop l.e-index l.items)) l.start ≡ start (map tree_of l.items) l.a
