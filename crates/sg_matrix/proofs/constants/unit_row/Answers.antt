use Rattle.std.proofs.Common.{arith}
use Rattle.sg_algebra.proofs.Linear.{unit}
use Rattle.sg_algebra.proofs.NullSpace.{axis_zero}
use Rattle.sg_algebra.proofs.Rows.{builds_push, builds_all}
use Rattle.sg_matrix.proofs.constants.unit_row.Goals as goal

pub loop-j-preserved : goal.loop-j-preserved
loop-j-preserved g c = builds_push g.F.Field.val _ _ _ _ _ c.loop-j.invariant c.in_ok-unit_entry.ensures.value c.in_ok-push.ensures.ok

pub returns-clause-value : goal.returns-clause-value
returns-clause-value g c = builds_all g.F.Field.val (unit c.args.i) c.loop-j.j c.loop-j.r c.loop-j.invariant (λ k h. axis_zero c.args.i k (λ e. omega (arith, e, c.requires)))
