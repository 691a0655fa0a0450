use Rattle.std.proofs.Common.{◌≡◌, take}
use Rattle.sg_num.proofs.rational.RatField.probe.Given as goal

abbrev pub invariant-loop-i : goal.invariant-loop-i
invariant-loop-i l = l.values ≡ take l.i l.list
