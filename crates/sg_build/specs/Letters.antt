-- The parameter, and the polynomials with which a rational function is written.
--   letter d            the parameter as a value of depth d: the variable of its last level; over the fractions there is none, and 0 stands in its place
--   HasNoLetter d e     over the fractions the expression e holds no parameter
--   LawsOfForms d W     where `W x u l` says that the rational function x is written as u over l: there is one such pair at most, with the value of x wherever x has one;
--                       it is in lowest terms, and over the fractions it holds no parameter
use Rattle.std.specs.Prelude.{◌≡◌, ℕ, zero, suc, ℤ, pos, [], ◌∷◌}
use Rattle.sg_algebra.proofs.Value.{Value, ◌*ᵛ◌, inv_value, zero_value, one_value, over_value}
use Rattle.sg_algebra.proofs.Rational.{whole_value}
use Rattle.sg_spec.specs.Tree.{Tree, numeral, here, param, add, neg, mul, div, power, sum_from, prod_from}
use Rattle.sg_spec.specs.Canonical.{Plane, IsLowest}
use Rattle.sg_worth_theory.proofs.Building.{NoParameter}
use Rattle.sg_worth_theory.proofs.WrittenElements.{plane_value}
use Rattle.sg_value_theory.proofs.Elements.{IsQuotientAt}

abbrev pub letter : (d : ℕ) → Value d
letter zero = whole_value 0 (pos 0)
letter (suc d) = over_value (zero_value ∷ one_value ∷ []) (one_value ∷ [])

abbrev pub HasNoLetter : ℕ → Tree → Type 0
HasNoLetter d (numeral c) = Unit {0}
HasNoLetter d here = Unit {0}
HasNoLetter d param = ¬ (d ≡ 0)
HasNoLetter d (add x y) = HasNoLetter d x × HasNoLetter d y
HasNoLetter d (neg x) = HasNoLetter d x
HasNoLetter d (mul x y) = HasNoLetter d x × HasNoLetter d y
HasNoLetter d (div x y) = HasNoLetter d x × HasNoLetter d y
HasNoLetter d (power x e) = HasNoLetter d x
HasNoLetter d (sum_from from body) = HasNoLetter d body
HasNoLetter d (prod_from from body) = HasNoLetter d body

pub record LawsOfForms (d : ℕ) (W : Value (suc d) → Plane → Plane → Type 0) : Type 0 where
  pub unique : (x : Value (suc d)) (u l v m : Plane) → W x u l → W x v m → (u ≡ v) × (l ≡ m)
  pub value : (x : Value (suc d)) (u l : Plane) (k : ℤ) (c : Value d) → W x u l → IsQuotientAt k x c
      → ¬ (plane_value (letter d) k l ≡ zero_value) × (c ≡ plane_value (letter d) k u *ᵛ inv_value (plane_value (letter d) k l))
  pub lowest : (x : Value (suc d)) (u l : Plane) → W x u l → ¬ (x ≡ zero_value) → IsLowest u l
  pub plain : (x : Value (suc d)) (u l : Plane) → W x u l → d ≡ 0 → NoParameter u × NoParameter l
