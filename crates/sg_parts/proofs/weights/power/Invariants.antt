use Rattle.std.proofs.Common.{◌≡◌, ◌^◌, ◌<◌}
use Rattle.sg_parts.proofs.weights.power.Given as goal

abbrev pub invariant-loop-i : goal.invariant-loop-i
invariant-loop-i l = record {
  power : l.w ≡ l.a ^ l._i;
  fits : l.w < 2 ^ 127;
}
