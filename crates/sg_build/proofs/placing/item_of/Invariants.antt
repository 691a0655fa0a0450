use Rattle.std.proofs.Common.{◌≡◌, ℕ, ◌<◌, map, get_or}
use Rattle.sg_spec.specs.Tree.{here}
use Rattle.sg_expr.specs.Tree.{tree_of}
use Rattle.sg_build.proofs.placing.item_of.Given as goal

abbrev pub invariant-loop-i : goal.invariant-loop-i
invariant-loop-i g l = (k : ℕ) → k < l.i → get_or (map tree_of l.gens) k here ≡ tree_of l.e → ⊥
