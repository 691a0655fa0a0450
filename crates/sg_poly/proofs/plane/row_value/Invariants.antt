use Rattle.std.proofs.Common.{◌≡◌, ◌≤◌, length, drop}
use Rattle.sg_num.specs.Value.{number}
use Rattle.sg_poly.specs.Plane.{row_at}
use Rattle.sg_poly.proofs.plane.row_value.Given as goal

abbrev pub invariant-loop-i : goal.invariant-loop-i
invariant-loop-i l = record {
  within : l.i ≤ length l.list;
  value : number l.value ≡ row_at (drop l.i l.list) (number l.x);
}

abbrev pub decreases-loop-i : goal.decreases-loop-i
decreases-loop-i l = l.i
