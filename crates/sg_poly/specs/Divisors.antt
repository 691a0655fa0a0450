-- Divisors of polynomials.
--   c ∣ᵖ p         c divides p: p is c times a polynomial
--   IsMonic p      the polynomial with the coefficients p has the leading coefficient 1
--   IsDivision p w q r    p divided by w, whose last coefficient isn't 0, gives the quotient q and the rest r, which has fewer coefficients than w
--   IsQuotient v p w q r  p is w times q and the rest r, where `v` says which values the items stand for
--   IsOnlyDivision v p w q r    each quotient and rest of p by w are q and r
--   IsStep v a p t w r     r is a and then p, less t times w, below the last coefficient of w
--   IsGcd g p q    g divides p and q, and each polynomial that divides both divides g
use Rattle.std.specs.Prelude.{◌≡◌, ℕ, ◌<◌, List, ◌∷◌, length, map}
use Rattle.sg_algebra.proofs.Value.{Value, ◌-ᵛ◌, ◌*ᵛ◌}
use Rattle.sg_algebra.proofs.ValueField.{ValueR}
use Rattle.sg_algebra.proofs.Polynomial.{Polynomial, PolynomialR, poly, coefficient, ◌+ᵖ◌, ◌*ᵖ◌}
use Rattle.sg_algebra.proofs.Divides.{Divides}
use Rattle.sg_algebra.proofs.Degree.{Monic}
use Rattle.sg_poly.specs.Polynomials.{polynomial}

infix 4 ◌∣ᵖ◌
abbrev pub ◌∣ᵖ◌ : {d : ℕ} → Polynomial d → Polynomial d → Type 0
◌∣ᵖ◌ {d} c p = Divides (PolynomialR d) c p

abbrev pub IsMonic : {d : ℕ} → List (Value d) → Type 0
IsMonic {d} p = (n : ℕ) × Monic (ValueR d) n p

pub record IsDivision {d : ℕ} (p w q r : List (Value d)) : Type 0 where
  pub is : poly p ≡ poly q *ᵖ poly w +ᵖ poly r
  pub smaller : length r < length w

module _ {K : Type 0} {d : ℕ} (v : K → Value d) where
  abbrev pub IsQuotient : List K → List K → List K → List K → Type 0
  IsQuotient p w q r = polynomial v p ≡ polynomial v q *ᵖ polynomial v w +ᵖ polynomial v r

  abbrev pub IsOnlyDivision : List K → List K → List K → List K → Type 0
  IsOnlyDivision p w q r = (x y : List (Value d)) → IsDivision (map v p) (map v w) x y → (poly x ≡ polynomial v q) × (poly y ≡ polynomial v r)

  abbrev pub IsStep : K → List K → K → List K → List K → Type 0
  IsStep a p t w r = (k : ℕ) → k < length p → coefficient (map v r) k ≡ coefficient (v a ∷ map v p) k -ᵛ v t *ᵛ coefficient (map v w) k

pub record IsGcd {d : ℕ} (g p q : Polynomial d) : Type 0 where
  pub left : g ∣ᵖ p
  pub right : g ∣ᵖ q
  pub greatest : (c : Polynomial d) → c ∣ᵖ p → c ∣ᵖ q → c ∣ᵖ g
