use Rattle.std.proofs.Common.{drop, length, ◌-◌}
use Rattle.sg_tower.specs.Elements.{raised, IsShifted}
use Rattle.sg_sums.proofs.powers.shifted_poly.Given as goal

abbrev pub invariant-loop-i : goal.invariant-loop-i
invariant-loop-i g l = IsShifted (raised (g.T.Tower.reading g.T.K.Field.vars g.T.K.Field.val l.below) l.beta) (drop (length l.x - l.i) l.x) l.r
