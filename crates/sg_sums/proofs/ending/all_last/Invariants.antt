use Rattle.std.proofs.Common.{take}
use Rattle.sg_algebra.proofs.Place.{Pairwise}
use Rattle.sg_sums.specs.Polynomials.{IsNextRow}
use Rattle.sg_sums.proofs.ending.all_last.Given as goal

abbrev pub invariant-loop-i : goal.invariant-loop-i
invariant-loop-i g l = Pairwise (IsNextRow (g.T.Tower.reading g.T.K.Field.vars g.T.K.Field.val l.below) g.T.K.Field.val l.beta 0 l.rows) (take l.i l.inner) l.new
