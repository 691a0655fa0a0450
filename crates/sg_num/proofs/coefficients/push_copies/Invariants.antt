use Rattle.std.proofs.Common.{◌≡◌, ◌++◌, map, take}
use Rattle.sg_num.proofs.coefficients.push_copies.Given as goal

abbrev pub invariant-loop-i : goal.invariant-loop-i
invariant-loop-i g l = map g.F.Field.val l.row ≡ map g.F.Field.val l.fn.row ++ map g.F.Field.val (take l.i l.list)
