use Rattle.std.proofs.Common.{◌≡◌}
use Rattle.sg_algebra.proofs.Ring.{pow}
use Rattle.sg_algebra.proofs.Value.{◌*ᵛ◌}
use Rattle.sg_algebra.proofs.ValueField.{ValueR}
use Rattle.sg_num.specs.Value.{number}
use Rattle.sg_num.proofs.unit.times_power.Given as goal

abbrev pub invariant-loop : goal.invariant-loop
invariant-loop l = number l.product ≡ number l.fn.x *ᵛ pow (ValueR 0) (number l.c) l.counter
