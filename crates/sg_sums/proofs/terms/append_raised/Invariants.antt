use Rattle.std.proofs.Common.{◌≡◌, ◌++◌, map}
use Rattle.sg_sums.specs.Flattened.{with_power}
use Rattle.sg_sums.proofs.terms.append_raised.Given as goal

abbrev pub invariant-loop-item : goal.invariant-loop-item
invariant-loop-item g l = l.terms ≡ l.initial.terms ++ map (with_power l.n) l.yielded
