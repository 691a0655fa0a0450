-- Values: what a datum stands for, up to equality. Two data are equal exactly where their values are one, so a clause says `≡`.
--   Value d                a value of depth d: at 0 a fraction, at d + 1 a quotient of polynomials over the values of depth d
--   x +ᵛ y, x -ᵛ y, x *ᵛ y, x /ᵛ y    sum, difference, product, quotient; the quotient by zero is zero
--   neg_value, inv_value   the opposite, and one divided by it
--   zero_value, one_value
--   fraction_value n m     n / m, at depth 0
--   over_value p q         the quotient of the polynomials with the coefficients p and q, the lowest first
--   meaning d x            the value of the datum x
-- Its laws are in ValueField, those of fraction_value in Rational, those of over_value in OverValue, those of meaning in Data.
use Rattle.std.proofs.Common.{ℕ, zero, suc, List, map, ℤ, pos}
use Rattle.sg_algebra.specs.Datum.{Datum}
use Rattle.sg_algebra.proofs.Whole.{ℤD}
use Rattle.sg_algebra.proofs.Field.{domain}
use Rattle.sg_algebra.proofs.Degree.{PolyD}
use Rattle.sg_algebra.proofs.Ratio.{ratio}
use Rattle.sg_algebra.proofs.Level.{Level, K}

pub record Value (d : ℕ) : Type 0 where
  pub raw : K d

infixl 6 ◌+ᵛ◌
infixl 6 ◌-ᵛ◌
infixl 7 ◌*ᵛ◌
infixl 7 ◌/ᵛ◌
unfoldable pub ◌+ᵛ◌ : {d : ℕ} → Value d → Value d → Value d
◌+ᵛ◌ {d} x y = record { raw = (Level d).R.◌⊞◌ x.raw y.raw }

unfoldable pub ◌*ᵛ◌ : {d : ℕ} → Value d → Value d → Value d
◌*ᵛ◌ {d} x y = record { raw = (Level d).R.◌⊠◌ x.raw y.raw }

unfoldable pub neg_value : {d : ℕ} → Value d → Value d
neg_value {d} x = record { raw = (Level d).R.⊟ x.raw }

unfoldable pub inv_value : {d : ℕ} → Value d → Value d
inv_value {d} x = record { raw = (Level d).inv x.raw }

abbrev pub ◌-ᵛ◌ : {d : ℕ} → Value d → Value d → Value d
x -ᵛ y = x +ᵛ neg_value y

abbrev pub ◌/ᵛ◌ : {d : ℕ} → Value d → Value d → Value d
x /ᵛ y = x *ᵛ inv_value y

unfoldable pub zero_value : {d : ℕ} → Value d
zero_value {d} = record { raw = (Level d).R.O }

unfoldable pub one_value : {d : ℕ} → Value d
one_value {d} = record { raw = (Level d).R.I }

unfoldable pub fraction_value : ℤ → ℕ → Value 0
fraction_value n m = record { raw = ratio ℤD n (pos m) }

-- the values without their records
unfoldable pub raws : {d : ℕ} → List (Value d) → List (K d)
raws p = map (λ x. x.raw) p

unfoldable pub over_value : {d : ℕ} → List (Value d) → List (Value d) → Value (suc d)
over_value {d} p q = record { raw = ratio (PolyD (domain (Level d))) (raws p) (raws q) }

unfoldable pub meaning : (d : ℕ) → Datum d → Value d
meaning zero x = fraction_value x.num x.den
meaning (suc d) x = over_value (map (meaning d) x.0) (map (meaning d) x.1)
