use Rattle.std.proofs.Common.{◌≡◌, pos}
use Rattle.sg_num.proofs.unit.common_unit.Given as goal

abbrev pub invariant-loop : goal.invariant-loop
invariant-loop l = l.c ≡ pos l.counter
