use Rattle.std.proofs.Common.{◌-◌, length, map}
use Rattle.sg_algebra.proofs.Ring.{pow}
use Rattle.sg_algebra.proofs.Value.{◌*ᵛ◌}
use Rattle.sg_algebra.proofs.ValueField.{ValueR}
use Rattle.sg_algebra.proofs.Polynomial.{coefficient}
use Rattle.sg_algebra.proofs.Rows.{Builds}
use Rattle.sg_num.specs.Value.{number}
use Rattle.sg_num.proofs.unit.in_unit.Given as goal

abbrev pub invariant-loop-i : goal.invariant-loop-i
invariant-loop-i l = Builds number (λ i. coefficient (map number l.list) i *ᵛ pow (ValueR 0) (number l.c) (length l.list - 1 - i)) l.i l.row
