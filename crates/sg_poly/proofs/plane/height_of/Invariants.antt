use Rattle.std.proofs.Common.{◌≡◌, ℕ, ◌≤◌, [], length, get_or}
use Rattle.sg_poly.proofs.plane.height_of.Given as goal

abbrev pub invariant-loop-n : goal.invariant-loop-n
invariant-loop-n l = record {
  within : l.n ≤ length l.rows;
  none : (k : ℕ) → l.n ≤ k → get_or l.rows k [] ≡ [];
}

abbrev pub decreases-loop-n : goal.decreases-loop-n
decreases-loop-n l = l.n
