-- Polynomials as lists of coefficients, the lowest first; those past the end are zero.
--   zip_longest f p q     f of the coefficients of p and q at each place; past the end of one, those of the other
--   conv f g z p q        the product of p and q by the school's rule, where f adds, g multiplies and z is zero
--   horner R f x p        f p₀ + x (f p₁ + x (..)), where f takes each coefficient into the ring R
--   coef R p n            the coefficient of p at n
--   poly_mul R p q        the product of p and q; their sum is `zip_longest ◌⊞◌ p q`
--   eval R p x            the value of p at x
--   Each P xs             P holds of each element of xs
-- Two polynomials are equal where their coefficients are: see PolyR.
use Rattle.std.specs.Prelude.{ℕ, List, [], ◌∷◌, map, get_or}
use Rattle.sg_algebra.specs.Ring.{Ring}

abbrev pub zip_longest : {C : Type 0} → (C → C → C) → List C → List C → List C
zip_longest f [] q = q
zip_longest f (x ∷ p) [] = x ∷ p
zip_longest f (x ∷ p) (y ∷ q) = f x y ∷ zip_longest f p q

-- (x + t p) q = x q + t (p q)
abbrev pub conv : {C : Type 0} → (C → C → C) → (C → C → C) → C → List C → List C → List C
conv f g z [] q = []
conv f g z (x ∷ p) q = zip_longest f (map (g x) q) (z ∷ conv f g z p q)

abbrev pub Each : {C : Type 0} → (C → Type 0) → List C → Type 0
Each P [] = Unit {0}
Each P (x ∷ xs) = P x × Each P xs

abbrev pub horner : (R : Ring) {C : Type 0} → (C → R.A) → R.A → List C → R.A
horner R f x [] = R.O
horner R f x (a ∷ p) = R.◌⊞◌ (f a) (R.◌⊠◌ x (horner R f x p))

abbrev pub coef : (R : Ring) → List R.A → ℕ → R.A
coef R p n = get_or p n R.O

abbrev pub poly_mul : (R : Ring) → List R.A → List R.A → List R.A
poly_mul R p q = conv R.◌⊞◌ R.◌⊠◌ R.O p q

abbrev pub eval : (R : Ring) → List R.A → R.A → R.A
eval R p x = horner R (λ a. a) x p
