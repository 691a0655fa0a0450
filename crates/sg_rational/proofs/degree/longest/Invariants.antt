use Rattle.std.proofs.Common.{◌<◌, ◌≤◌, ℕ, length, get_or, []}
use Rattle.sg_rational.proofs.degree.longest.Given as goal

abbrev pub invariant-loop-i : goal.invariant-loop-i
invariant-loop-i g l = (j : ℕ) → j < l.i → length (get_or l.list j []) ≤ l.n
