use Rattle.std.proofs.Common.{◌≡◌, ◌≤◌, ℕ, [], get_or, length}
use Rattle.sg_spec.specs.Parts.{trimmed}
use Rattle.sg_parts.proofs.roots.leading_place.Given as goal

abbrev pub invariant-loop-i : goal.invariant-loop-i
invariant-loop-i l = record {
  within : l.i ≤ length l.plane;
  none : (k : ℕ) → l.i ≤ k → trimmed (get_or l.plane k []) ≡ [];
}

abbrev pub decreases-loop-i : goal.decreases-loop-i
decreases-loop-i l = l.i
