use Rattle.std.proofs.Common.{ℕ, ◌<◌, get_or, pos}
use Rattle.sg_roots.specs.Signs.{IsSmall}
use Rattle.sg_roots.proofs.pieces.are_small.Given as goal

abbrev pub invariant-loop-i : goal.invariant-loop-i
invariant-loop-i l = (k : ℕ) → k < l.i → IsSmall (get_or l.list k (pos 0))
