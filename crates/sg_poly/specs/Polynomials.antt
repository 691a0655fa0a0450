-- The polynomial that a list of a field's elements stands for, where `v` says which value an element stands for.
--   polynomial v p       its coefficients are the values of the items p, the lowest first
--   polynomial_at v p x  its value at x
--   over_lead v p        the polynomial over its last coefficient
use Rattle.std.specs.Prelude.{ℕ, ◌-◌, List, length, map}
use Rattle.sg_algebra.specs.Coefficients.{eval}
use Rattle.sg_algebra.proofs.Value.{Value, inv_value}
use Rattle.sg_algebra.proofs.ValueField.{ValueR}
use Rattle.sg_algebra.proofs.Polynomial.{Polynomial, poly, constant, coefficient, ◌*ᵖ◌}

abbrev pub polynomial : {K : Type 0} {d : ℕ} → (K → Value d) → List K → Polynomial d
polynomial v p = poly (map v p)

abbrev pub polynomial_at : {K : Type 0} {d : ℕ} → (K → Value d) → List K → Value d → Value d
polynomial_at {K} {d} v p x = eval (ValueR d) (map v p) x

abbrev pub over_lead : {K : Type 0} {d : ℕ} → (K → Value d) → List K → Polynomial d
over_lead v p = constant (inv_value (coefficient (map v p) (length p - 1))) *ᵖ polynomial v p
