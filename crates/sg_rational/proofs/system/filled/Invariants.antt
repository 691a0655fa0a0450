use Rattle.std.proofs.Common.{◌≡◌, map, length}
use Rattle.sg_matrix.specs.Systems.{IsSystem}
use Rattle.sg_rational.specs.Systems.{IsFilled}
use Rattle.sg_rational.proofs.system.filled.Given as goal

abbrev pub invariant-loop-t : goal.invariant-loop-t
invariant-loop-t g l = record {
  width : l.system.width ≡ length l.columns;
  form : IsSystem g.F.Field.val l.system.width l.system.rows;
  value : IsFilled g.F.Field.val (map (map g.F.Field.val) l.columns) (length l.columns) l.t l.system.rows;
}
