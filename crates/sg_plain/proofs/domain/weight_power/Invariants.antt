use Rattle.std.proofs.Common.{◌≡◌, ◌^◌, min}
use Rattle.sg_plain.proofs.domain.weight_power.Given as goal

abbrev pub invariant-loop-done : goal.invariant-loop-done
invariant-loop-done l = l.power ≡ min 65537 (l.w ^ l._done)
