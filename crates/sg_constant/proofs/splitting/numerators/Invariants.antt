use Rattle.std.proofs.Common.{ℕ, map, take}
use Rattle.sg_algebra.specs.Coefficients.{Each}
use Rattle.sg_algebra.proofs.Degree.{Degree}
use Rattle.sg_algebra.proofs.ValueField.{ValueR}
use Rattle.sg_algebra.proofs.Polynomial.{poly}
use Rattle.sg_first_order_theory.proofs.Under.{Under}
use Rattle.sg_reduction_theory.proofs.Steps.{Adds}
use Rattle.sg_constant.specs.Shares.{polys}
use Rattle.sg_constant.proofs.splitting.numerators.Given as goal

abbrev pub invariant-loop-i : goal.invariant-loop-i
invariant-loop-i g l = record {
  adds : Adds (poly (map g.F.Field.val l.v)) (poly (map g.F.Field.val l.u)) (polys g.F.Field.val (take l.i l.uppers)) (polys g.F.Field.val l.left) (polys g.F.Field.val l.right);
  under : (m : ℕ) → Degree (ValueR g.F.Field.vars) m (map g.F.Field.val l.u) → Each (Under m) (polys g.F.Field.val l.left);
}
