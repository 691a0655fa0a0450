-- The value of a fraction of polynomials, where `v` says which value a coefficient stands for.
--   quotient_of v p q    the quotient of the polynomials with the coefficients p and q
--   quotient_at v p q x    the quotient of the values of these at x
--   cross_sum v a b c e, cross_difference v a b c e    a e + c b and a e - c b, the numerators of the sum and the difference of a / b and c / e
--   ratio v r            the same of a pair
--   moved_ratio v m r    the same at k + m
use Rattle.std.specs.Prelude.{ℕ, suc, List, map}
use Rattle.sg_algebra.proofs.Shift.{moved}
use Rattle.sg_algebra.proofs.Value.{Value, over_value, ◌/ᵛ◌}
use Rattle.sg_algebra.proofs.ValueField.{ValueR}
use Rattle.sg_algebra.proofs.Polynomial.{Polynomial, ◌+ᵖ◌, ◌-ᵖ◌, ◌*ᵖ◌}
use Rattle.sg_poly.specs.Polynomials.{polynomial, polynomial_at}

abbrev pub quotient_of : {K : Type 0} {d : ℕ} → (K → Value d) → List K → List K → Value (suc d)
quotient_of v p q = over_value (map v p) (map v q)

abbrev pub quotient_at : {K : Type 0} {d : ℕ} → (K → Value d) → List K → List K → Value d → Value d
quotient_at v p q x = polynomial_at v p x /ᵛ polynomial_at v q x

abbrev pub cross_sum : {K : Type 0} {d : ℕ} → (K → Value d) → List K → List K → List K → List K → Polynomial d
cross_sum v a b c e = polynomial v a *ᵖ polynomial v e +ᵖ polynomial v c *ᵖ polynomial v b

abbrev pub cross_difference : {K : Type 0} {d : ℕ} → (K → Value d) → List K → List K → List K → List K → Polynomial d
cross_difference v a b c e = polynomial v a *ᵖ polynomial v e -ᵖ polynomial v c *ᵖ polynomial v b

abbrev pub ratio : {K : Type 0} {d : ℕ} → (K → Value d) → List K × List K → Value (suc d)
ratio v r = over_value (map v r.0) (map v r.1)

abbrev pub moved_ratio : {K : Type 0} {d : ℕ} → (K → Value d) → Value d → List K × List K → Value (suc d)
moved_ratio {K} {d} v m r = over_value (moved (ValueR d) m (map v r.0)) (moved (ValueR d) m (map v r.1))
