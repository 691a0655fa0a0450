-- Roots that are split off, step by step.
--   linear_some      k - m isn't 0
--   split_kept       what is split off goes over into the product
--   split_first      before anything is split off
--   factor_some      a factor of what isn't 0
use Rattle.std.proofs.Common.{◌≡◌, refl, sym, ◌∙◌, ap, List, [], ◌∷◌, ◌++◌, ℤ}
use Rattle.sg_algebra.proofs.Solver.{ring, by, scale, reads}
use Rattle.sg_algebra.proofs.Value.{neg_value, one_value}
use Rattle.sg_algebra.proofs.ValueField.{value_one_ne}
use Rattle.sg_algebra.proofs.Rational.{whole_value}
use Rattle.sg_algebra.proofs.Polynomial.{Polynomial, PolynomialR, zero_polynomial, same_poly, ◌+ᵖ◌, ◌*ᵖ◌}
use Rattle.sg_spread.specs.Splits.{linear, of_roots}

pub linear_some : (m : ℤ) → ¬ (linear m ≡ zero_polynomial)
linear_some m e = value_one_ne 0 (same_poly (neg_value (whole_value 0 m) ∷ one_value ∷ []) [] e 1)

of_roots-push : (r : List ℤ) (m : ℤ) → of_roots (r ++ m ∷ []) ≡ of_roots r *ᵖ linear m
of_roots-push [] m = ring (PolynomialR 0) (linear m ∷ []) (search reads depth 16) refl
of_roots-push (x ∷ r) m = ap (λ y. linear x *ᵖ y) (of_roots-push r m) ∙ ring (PolynomialR 0) (linear x ∷ of_roots r ∷ linear m ∷ []) (search reads depth 16) refl

pub split_kept : (r new : List ℤ) (m : ℤ) (rest q left f : Polynomial 0) → new ≡ r ++ m ∷ [] → rest ≡ q *ᵖ f +ᵖ left → left ≡ zero_polynomial → f ≡ linear m → of_roots new *ᵖ q ≡ of_roots r *ᵖ rest
split_kept r new m rest q left f n d z l =
    ap (λ x. of_roots x *ᵖ q) n ∙ ap (λ x. x *ᵖ q) (of_roots-push r m)
    ∙ by (PolynomialR 0) (of_roots r ∷ linear m ∷ q ∷ f ∷ left ∷ rest ∷ [])
    ((PolynomialR 0).add_cong (scale (PolynomialR 0) (of_roots r *ᵖ q) (sym l)) ((PolynomialR 0).add_cong (scale (PolynomialR 0) (of_roots r) (sym d)) (scale (PolynomialR 0) (of_roots r) (sym z)))) (search reads depth 20 fits 4000) refl

pub split_first : (roots : List ℤ) (x y : Polynomial 0) → roots ≡ [] → x ≡ y → of_roots roots *ᵖ x ≡ y
split_first roots x y n e = ap (λ r. of_roots r *ᵖ x) n ∙ ring (PolynomialR 0) (x ∷ []) (search reads depth 16) refl ∙ e

pub factor_some : (x y z : Polynomial 0) → x *ᵖ y ≡ z → ¬ (z ≡ zero_polynomial) → ¬ (y ≡ zero_polynomial)
factor_some x y z e n h = n (sym e ∙ by (PolynomialR 0) (x ∷ y ∷ []) (scale (PolynomialR 0) x h) (search reads depth 16) refl)
