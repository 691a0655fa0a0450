use Rattle.std.proofs.Common.{◌≤◌, length}
use Rattle.sg_algebra.proofs.Rows.{ZerosFrom}
use Rattle.sg_poly.proofs.kernel.size_of.Given as goal

abbrev pub invariant-loop-n : goal.invariant-loop-n
invariant-loop-n g l = (l.n ≤ length l.list) × ZerosFrom g.F.Field.val l.n l.list

abbrev pub decreases-loop-n : goal.decreases-loop-n
decreases-loop-n g l = l.n
