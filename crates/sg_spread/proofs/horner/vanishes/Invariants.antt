use Rattle.std.proofs.Common.{◌-◌, map, length, drop}
use Rattle.sg_algebra.proofs.ValueField.{ValueR}
use Rattle.sg_num.specs.Value.{number}
use Rattle.sg_dispersion_theory.proofs.Horner.{powers}
use Rattle.sg_dispersion_theory.proofs.StepRow.{Stands}
use Rattle.sg_spread.proofs.horner.vanishes.Given as goal

-- after t turns the row stands for the last t coefficients
abbrev pub invariant-loop-t : goal.invariant-loop-t
invariant-loop-t l =
    Stands (ValueR 0) (length l.a - 1) (length l.b - 1) (map number l.row)
    (powers (ValueR 0) (length l.a - 1) (length l.b - 1) (map number l.a) (map number l.b) (map number (drop (length l.list - l.t) l.list)))
