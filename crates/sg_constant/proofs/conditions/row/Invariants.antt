use Rattle.std.proofs.Common.{◌≡◌, map, take}
use Rattle.sg_first_order_theory.proofs.System.{row_of}
use Rattle.sg_constant.proofs.conditions.row.Given as goal

abbrev pub invariant-loop-i : goal.invariant-loop-i
invariant-loop-i g l = map g.F.Field.val l.row ≡ row_of (map (map g.F.Field.val) (take l.i l.uppers)) l.t
