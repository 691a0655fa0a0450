-- The rational functions of k as a ring with a shift: k goes to k + 1.
--   rational_functions d    with the constants of depth d
use Rattle.sg_algebra.proofs.ValueField.{ValueR}
use Rattle.sg_algebra.proofs.Embedding.{constant_valueH}
pub use Rattle.sg_algebra.proofs.ShiftValue.{moved_ne, shift_value, shift_valueH, shift_value-over, one_poly_ne, shift_value-constant}
use Rattle.sg_tower_theory.proofs.Difference.{Difference}
use Rattle.std.proofs.Common.{ℕ, suc}

abbrev pub rational_functions : (d : ℕ) → Difference (ValueR d) (ValueR (suc d))
rational_functions d = record { σ = shift_valueH d; κ = constant_valueH d; fixed = shift_value-constant d }
