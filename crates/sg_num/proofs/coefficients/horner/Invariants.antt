use Rattle.std.proofs.Common.{◌≡◌, ◌≤◌, length, map, drop}
use Rattle.sg_algebra.proofs.ValueField.{ValueR}
use Rattle.sg_algebra.specs.Coefficients.{eval}
use Rattle.sg_num.proofs.coefficients.horner.Given as goal

abbrev pub invariant-loop-i : goal.invariant-loop-i
invariant-loop-i g l = (l.i ≤ length l.list) × (g.F.Field.val l.value ≡ eval (ValueR g.F.Field.vars) (map g.F.Field.val (drop l.i l.list)) (g.F.Field.val l.x))

abbrev pub decreases-loop-i : goal.decreases-loop-i
decreases-loop-i g l = l.i
