use Rattle.std.proofs.Common.{◌≡◌, take}
use Rattle.sg_constant.specs.Shares.{polys}
use Rattle.sg_constant.proofs.shares.copies.Given as goal

abbrev pub invariant-loop-i : goal.invariant-loop-i
invariant-loop-i g l = polys g.F.Field.val l.copies ≡ polys g.F.Field.val (take l.i l.list)
