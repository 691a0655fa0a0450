use Rattle.std.proofs.Common.{map, take}
use Rattle.sg_ratfun.specs.Fractions.{ratio}
use Rattle.sg_constant.specs.Shares.{polys, shares}
use Rattle.sg_constant.specs.Reductions.{IsReduction}
use Rattle.sg_constant.proofs.reducing.reduced.Given as goal

abbrev pub invariant-loop-i : goal.invariant-loop-i
invariant-loop-i g l = IsReduction (g.F.Field.val l.factors.a) l.n (map (ratio g.F.Field.val) (take l.i l.fs)) (polys g.F.Field.val l.wholes) (shares g.F.Field.val l.state.settled) (shares g.F.Field.val l.state.moved)
