use Rattle.std.proofs.Common.{◌≡◌, ◌≤◌, length, drop, map}
use Rattle.sg_algebra.specs.Coefficients.{eval}
use Rattle.sg_algebra.proofs.ValueField.{ValueR}
use Rattle.sg_num.specs.Value.{number}
use Rattle.sg_poly.specs.Plane.{row_at}
use Rattle.sg_poly.proofs.plane.Poly2.value.Given as goal

abbrev pub invariant-loop-i : goal.invariant-loop-i
invariant-loop-i l = record {
  within : l.i ≤ length l.rows;
  value : number l.value ≡ eval (ValueR 0) (map (λ row. row_at row (number l.at_n)) (drop l.i l.rows)) (number l.at_k);
}

abbrev pub decreases-loop-i : goal.decreases-loop-i
decreases-loop-i l = l.i
