-- The powers of j - k, reduced by the monic polynomials a(k) and b(j) of degrees d and e, as rows.
--   ArePowers d e a b rows      each row has the coefficients of the power of its place
--   IsNullBasis d e a b n basis     a basis of the dependences of the first n powers, in reduced form
--   step_of a b row p           the item at p after one more step
--   AreColumns rows n r         r has the columns of the rows, each of n items, as its rows
--   IsVanishing n values p      where the first n values and the others are the coefficients of monic polynomials, p is 0 at each shift at which these
--                               aren't coprime
--   IsSome p                    some coefficient isn't 0
--   IsCertificate a b r         r has the coefficients of a polynomial D with D(j - k) = 0 modulo a(k) and b(j)
use Rattle.std.specs.Prelude.{◌≡◌, ℕ, ◌-◌, ◌<◌, ◌≤◌, List, [], length, map, take, drop, get_or, ℤ}
use Rattle.sg_algebra.proofs.Value.{Value, zero_value}
use Rattle.sg_algebra.proofs.ValueField.{ValueR}
use Rattle.sg_algebra.proofs.Polynomial.{coefficient}
use Rattle.sg_algebra.proofs.Degree.{Monic}
use Rattle.sg_algebra.proofs.Rows.{Builds}
use Rattle.sg_algebra.proofs.Linear.{row_times, Span, table, Form}
use Rattle.sg_num.specs.Roots.{IsRoot}
use Rattle.sg_num.specs.Value.{number}
use Rattle.sg_num.specs.declared.rat.Rat.{Rat}
use Rattle.sg_dispersion_theory.proofs.Step.{iterate}
use Rattle.sg_dispersion_theory.proofs.StepRow.{Stands, step_at}
use Rattle.sg_dispersion_theory.proofs.Certificate.{Certificate}
use Rattle.sg_dispersion_theory.proofs.PowerTable.{PowerTable}
use Rattle.sg_spread.specs.Shifts.{AreCoprimeAt}

abbrev pub ArePowers : (d e : ℕ) → List (Value 0) → List (Value 0) → List (List Rat) → Type 0
ArePowers d e a b rows = (t : ℕ) → t < length rows → Stands (ValueR 0) d e (map number (get_or rows t [])) (iterate (ValueR 0) d e a b t)

pub record IsNullBasis (d e : ℕ) (a b : List (Value 0)) (n : ℕ) (basis : List (List Rat)) : Type 0 where
  pub rows : List (List Rat)
  pub is : PowerTable number d e a b n rows
  pub sized : (i : ℕ) → i < length basis → length (get_or basis i []) ≡ n
  pub sound : (j : ℕ) → j < length rows → (i : ℕ) → row_times (map number (get_or rows j [])) (coefficient (map number (get_or basis i []))) ≡ zero_value
  pub form : Form number basis
  pub complete : (f : ℕ → Value 0) → ((k : ℕ) → n ≤ k → f k ≡ zero_value) → ((j : ℕ) → j < length rows → row_times (map number (get_or rows j [])) f ≡ zero_value) → Span (table number basis) f

pub record IsSome (p : List (Value 0)) : Type 0 where
  pub place : ℕ
  pub some : ¬ (coefficient p place ≡ zero_value)

abbrev pub IsCertificate : List Rat → List Rat → List Rat → Type 0
IsCertificate a b r = Certificate (ValueR 0) (length a - 1) (length b - 1) (map number a) (map number b) (map number r)

abbrev pub step_of : List Rat → List Rat → List Rat → ℕ → Value 0
step_of a b row p = step_at (ValueR 0) (length a - 1) (length b - 1) (map number a) (map number b) (map number row) p

abbrev pub AreColumns : List (List Rat) → ℕ → List (List Rat) → Type 0
AreColumns rows n r = (p : ℕ) → p < n → Builds number (λ t. coefficient (map number (get_or rows t [])) p) (length rows) (get_or r p [])

abbrev pub IsVanishing : ℕ → List Rat → List Rat → Type 0
IsVanishing n values p = Monic (ValueR 0) (n - 1) (map number (take n values)) → Monic (ValueR 0) (length values - n - 1) (map number (drop n values))
    → (m : ℤ) → ¬ AreCoprimeAt (map number (take n values)) (map number (drop n values)) m → IsRoot (map number p) m
