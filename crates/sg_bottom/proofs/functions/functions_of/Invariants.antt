use Rattle.std.proofs.Common.{take}
use Rattle.sg_bottom.specs.Functions.{AreFunctions}
use Rattle.sg_bottom.proofs.functions.functions_of.Given as goal

abbrev pub invariant-loop-i : goal.invariant-loop-i
invariant-loop-i g l = AreFunctions g.F.Field.val (take l.i l.fs) l.functions
