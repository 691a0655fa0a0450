use Rattle.std.proofs.Common.{◌∙◌, sym, arith}
use Rattle.sg_algebra.proofs.NullSpace.{axis_zero, axis_one}
use Rattle.sg_matrix.proofs.constants.unit_entry.Goals as goal

pub returns-in_ok-one-clause-value : goal.returns-in_ok-one-clause-value
returns-in_ok-one-clause-value g c = c.in_ok-one.ensures.value ∙ sym (axis_one c.args.i c.args.j (omega arith))

pub returns-in_ok-zero-clause-value : goal.returns-in_ok-zero-clause-value
returns-in_ok-zero-clause-value g c = c.in_ok-zero.ensures.value ∙ sym (axis_zero c.args.i c.args.j (λ e. omega (arith, e)))
