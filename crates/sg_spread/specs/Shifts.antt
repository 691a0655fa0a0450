-- Where two polynomials meet.
--   AreShifts a b all r    r has, in ascending order, those of the numbers all at which a and b meet
--   IsConfirmed a b m old new    m is added at the end exactly where a and b meet there
--   AreCoprimeAt a b m    a(k) and b(k + m) are coprime: some u a(k) + w b(k + m) is 1
--   Meets a b m     a(k) and b(k + m) have a common divisor of positive degree: one that is no constant
use Rattle.std.specs.Prelude.{◌≡◌, ℕ, List, ℤ, ◌<ℤ◌, ◌↔◌, ◌⊎◌, [], ◌∷◌, ◌++◌, AllPairs, Contains}
use Rattle.sg_algebra.proofs.Value.{Value}
use Rattle.sg_algebra.proofs.ValueField.{ValueR}
use Rattle.sg_algebra.proofs.Rational.{whole_value}
use Rattle.sg_algebra.proofs.Polynomial.{Polynomial, PolynomialR, poly, constant}
use Rattle.sg_algebra.proofs.Coprime.{Coprime}
use Rattle.sg_algebra.proofs.Shift.{moved}
use Rattle.sg_poly.specs.Divisors.{◌∣ᵖ◌}

pub record Meets {d : ℕ} (a b : List (Value d)) (m : ℤ) : Type 0 where
  pub common : Polynomial d
  pub left : common ∣ᵖ poly a
  pub right : common ∣ᵖ poly (moved (ValueR d) (whole_value d m) b)
  pub positive : (c : Value d) → ¬ (common ≡ constant c)

abbrev pub AreCoprimeAt : {d : ℕ} → List (Value d) → List (Value d) → ℤ → Type 0
AreCoprimeAt {d} a b m = Coprime (PolynomialR d) (poly a) (poly (moved (ValueR d) (whole_value d m) b))

pub record AreShifts {d : ℕ} (a b : List (Value d)) (all r : List ℤ) : Type 0 where
  pub ascending : AllPairs ◌<ℤ◌ r
  pub kept : (m : ℤ) → Contains r m ↔ (Contains all m × Meets a b m)

abbrev pub IsConfirmed : {d : ℕ} → List (Value d) → List (Value d) → ℤ → List ℤ → List ℤ → Type 0
IsConfirmed a b m old new = (Meets a b m × (new ≡ old ++ m ∷ [])) ⊎ ((¬ Meets a b m) × (new ≡ old))
