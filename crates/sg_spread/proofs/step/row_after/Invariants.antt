use Rattle.std.proofs.Common.{◌-◌, map, length}
use Rattle.sg_algebra.proofs.Rows.{Builds}
use Rattle.sg_algebra.proofs.ValueField.{ValueR}
use Rattle.sg_num.specs.Value.{number}
use Rattle.sg_dispersion_theory.proofs.StepRow.{step_at}
use Rattle.sg_spread.proofs.step.row_after.Given as goal

abbrev pub invariant-loop-p : goal.invariant-loop-p
invariant-loop-p l = Builds number (step_at (ValueR 0) (length l.a - 1) (length l.b - 1) (map number l.a) (map number l.b) (map number l.row)) l.p l.new
