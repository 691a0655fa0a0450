use Rattle.std.proofs.Common.{◌≡◌}
use Rattle.sg_matrix.specs.Systems.{IsSystem}
use Rattle.sg_matrix.proofs.Solutions.{IsHeld}
use Rattle.sg_matrix.proofs.null.null_basis.Given as goal

abbrev pub invariant-loop-i : goal.invariant-loop-i
invariant-loop-i g l = record { width : l.system.width ≡ l.width; form : IsSystem g.F.Field.val l.width l.system.rows; held : IsHeld g.F.Field.val l.rows l.i l.system.rows }
