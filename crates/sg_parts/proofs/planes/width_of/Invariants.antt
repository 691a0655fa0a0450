use Rattle.std.proofs.Common.{ℕ, ◌<◌, ◌≤◌, length, get_or, []}
use Rattle.sg_parts.proofs.planes.width_of.Given as goal

abbrev pub invariant-loop-row : goal.invariant-loop-row
invariant-loop-row l = (i : ℕ) → i < l.row-index → length (get_or l.plane i []) ≤ l.width
