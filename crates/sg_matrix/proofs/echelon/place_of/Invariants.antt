use Rattle.std.proofs.Common.{ℕ, ◌<◌}
use Rattle.sg_algebra.proofs.Linear.{row}
use Rattle.sg_matrix.specs.Systems.{LeadsAt}
use Rattle.sg_matrix.proofs.echelon.place_of.Given as goal

abbrev pub invariant-loop-i : goal.invariant-loop-i
invariant-loop-i g l = (i p : ℕ) → i < l.i → LeadsAt (row g.F.Field.val l.rows i) p → p < l.j
