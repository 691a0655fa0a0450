use Rattle.std.proofs.Common.{◌≡◌, ℕ, ◌≤◌, length, get_or, pos}
use Rattle.sg_num.proofs.lengths.length_of.Given as goal

abbrev pub invariant-loop-n : goal.invariant-loop-n
invariant-loop-n l = record {
  within : l.n ≤ length l.list;
  zeros : (k : ℕ) → l.n ≤ k → get_or l.list k (pos 0) ≡ pos 0;
}

abbrev pub decreases-loop-n : goal.decreases-loop-n
decreases-loop-n l = l.n
