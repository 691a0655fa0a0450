-- The value that an element of a field of values has at whole numbers, one for each variable.
--   Pairwise R xs ys       two lists of one length, whose items at each place are related by R
--   HasValue d x args v    the value x of depth d has the value v at the list args, whose last number is for the last variable: at depth 0 it is x
--                          itself; above, x equals a quotient of two polynomials whose coefficients have values at the numbers before the last, and v is
--                          the quotient of the values that these two then have at the last number, of which the lower one isn't 0
use Rattle.std.proofs.Common.{◌≡◌, ℕ, zero, suc, List, [], ◌∷◌, ◌++◌, ℤ}
use Rattle.sg_algebra.specs.Coefficients.{eval}
use Rattle.sg_algebra.proofs.Value.{Value, ◌/ᵛ◌, zero_value, over_value}
use Rattle.sg_algebra.proofs.ValueField.{ValueR}
use Rattle.sg_algebra.proofs.Rational.{whole_value}

abbrev pub Pairwise : {A B : Type 0} → (A → B → Type 0) → List A → List B → Type 0
Pairwise R [] [] = Unit {0}
Pairwise R [] (y ∷ ys) = ⊥
Pairwise R (x ∷ xs) [] = ⊥
Pairwise R (x ∷ xs) (y ∷ ys) = R x y × Pairwise R xs ys

-- the value of the polynomial with the coefficients p at the whole number a
abbrev pub value_at : List (Value 0) → ℤ → Value 0
value_at p a = eval (ValueR 0) p (whole_value 0 a)

-- one variable more, where `Has c v` says which value a coefficient has at the numbers before
pub record QuotientHas {d : ℕ} (Has : Value d → List ℤ → Value 0 → Type 0) (x : Value (suc d)) (args : List ℤ) (v : Value 0) : Type 0 where
  pub before : List ℤ
  pub last : ℤ
  pub upper : List (Value d)
  pub lower : List (Value d)
  pub upper_values : List (Value 0)
  pub lower_values : List (Value 0)
  pub arguments : args ≡ before ++ last ∷ []
  pub quotient : x ≡ over_value upper lower
  pub uppers : Pairwise (λ c w. Has c before w) upper upper_values
  pub lowers : Pairwise (λ c w. Has c before w) lower lower_values
  pub defined : ¬ (value_at lower_values last ≡ zero_value)
  pub value : v ≡ value_at upper_values last /ᵛ value_at lower_values last

abbrev pub HasValue : (d : ℕ) → Value d → List ℤ → Value 0 → Type 0
HasValue zero x args v = (args ≡ []) × (v ≡ x)
HasValue (suc d) x args v = QuotientHas (HasValue d) x args v
