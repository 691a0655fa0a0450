use Rattle.std.proofs.Common.{take}
use Rattle.sg_algebra.proofs.Place.{Pairwise}
use Rattle.sg_sums.specs.Polynomials.{IsNextRow}
use Rattle.sg_sums.proofs.powers.all_next.Given as goal

abbrev pub invariant-loop-i : goal.invariant-loop-i
invariant-loop-i g l = Pairwise (IsNextRow (g.T.Tower.reading g.T.K.Field.vars g.T.K.Field.val l.below) g.T.K.Field.val l.beta l.n l.rows) (take l.i l.inner) l.new
