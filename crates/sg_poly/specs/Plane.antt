-- Polynomials in k and n with whole coefficients, as a list over the powers of k of lists over the powers of n, each from the lowest.
--   entry p i j     the coefficient of k^i n^j, 0 past the end of a list
--   row_at p x      the value of the list p of whole coefficients at the number x
--   plane_at p n k  the value of p at whole n and k
--   IsFront p q     q is the list p without the zeros at its end
--   IsTrimmed p     no list ends in 0, and the last list isn't empty
use Rattle.std.specs.Prelude.{◌≡◌, ◌≢◌, ℕ, suc, List, [], length, map, get_or, ℤ, pos}
use Rattle.sg_algebra.specs.Coefficients.{eval}
use Rattle.sg_algebra.proofs.Value.{Value}
use Rattle.sg_algebra.proofs.ValueField.{ValueR}
use Rattle.sg_algebra.proofs.Rational.{whole_value}

abbrev pub entry : List (List ℤ) → ℕ → ℕ → ℤ
entry p i j = get_or (get_or p i []) j (pos 0)

abbrev pub row_at : List ℤ → Value 0 → Value 0
row_at p x = eval (ValueR 0) (map (whole_value 0) p) x

abbrev pub plane_at : List (List ℤ) → ℤ → ℤ → Value 0
plane_at p n k = eval (ValueR 0) (map (λ row. row_at row (whole_value 0 n)) p) (whole_value 0 k)

abbrev pub EndsNotZero : List ℤ → Type 0
EndsNotZero p = (n : ℕ) → length p ≡ suc n → get_or p n (pos 0) ≢ pos 0

-- a list without the zeros at its end
pub record IsFront (old new : List ℤ) : Type 0 where
  pub same : (k : ℕ) → get_or new k (pos 0) ≡ get_or old k (pos 0)
  pub ends : EndsNotZero new

pub record IsTrimmed (p : List (List ℤ)) : Type 0 where
  pub rows : (i : ℕ) → EndsNotZero (get_or p i [])
  pub last : (n : ℕ) → length p ≡ suc n → get_or p n [] ≢ []
