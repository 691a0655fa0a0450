use Rattle.std.proofs.Common.{[], get_or}
use Rattle.sg_algebra.proofs.Tables.{Each}
use Rattle.sg_poly.specs.Plane.{IsFront}
use Rattle.sg_poly.proofs.plane.fronts.Given as goal

abbrev pub invariant-loop-i : goal.invariant-loop-i
invariant-loop-i l = Each (λ j r. IsFront (get_or l.rows j []) r) l.i l.new
