-- Relations of products: which products of powers of rational functions of k are r(k + 1)/r(k) for a rational function r that isn't 0. A
-- product x with x(k + 1) = a(k) x(k) is free over others exactly where no such product needs its a (Karr 1981).
--   IsRatio x r                 x is r(k + 1)/r(k), and r isn't 0
--   Holds alphas es             the product of the powers of alphas by es is r(k + 1)/r(k) for some r
--   AllZero es                  each exponent is 0
--   OnlyZeros alphas            only exponents that are all 0 make a product of powers of that form
--   Expresses alphas new es r   new is the product of the powers of alphas by es, times r(k + 1)/r(k)
--   Relates alphas new es r     the product of the powers of alphas and of new, by es, is r(k + 1)/r(k); the last exponent, that of new, is
--                               above 1; and whatever exponents give that form are a multiple of es. So none of them has 1 at new, and es is
--                               the shortest positive multiple, of a row without common divisor, that holds
--   IsSign x                    x is 1 or -1
--   AreExponents xs rows        the law of exponents: a product of powers of the constants xs is 1 or -1 exactly where the sum of the rows,
--                               each times its exponent, is 0
use Rattle.std.specs.Prelude.{◌≡◌, ℕ, suc, List, [], ◌∷◌, ◌++◌, length, get_or, ℤ, pos, ◌<ℤ◌, ◌⊎◌, ◌↔◌}
use Rattle.sg_algebra.specs.Coefficients.{Each}
use Rattle.sg_algebra.proofs.Value.{Value, ◌*ᵛ◌, neg_value, zero_value, one_value}
use Rattle.sg_algebra.proofs.ValueField.{ValueF}
use Rattle.sg_algebra.proofs.ShiftValue.{shift_value}
use Rattle.sg_tower_theory.specs.Powers.{powers}
use Rattle.sg_relations_theory.specs.Rows.{multiple_row, total}

pub record IsRatio {d : ℕ} (x r : Value (suc d)) : Type 0 where
  pub some : ¬ (r ≡ zero_value)
  pub is : shift_value d r ≡ x *ᵛ r

abbrev pub Holds : {d : ℕ} → List (Value (suc d)) → List ℤ → Type 0
Holds {d} alphas es = (r : Value (suc d)) × IsRatio (powers (ValueF (suc d)) alphas es) r

abbrev pub AllZero : List ℤ → Type 0
AllZero es = Each (λ e. e ≡ pos 0) es

pub record OnlyZeros {d : ℕ} (alphas : List (Value (suc d))) : Type 0 where
  pub only_zero : (es : List ℤ) → length es ≡ length alphas → Holds alphas es → AllZero es

pub record Expresses {d : ℕ} (alphas : List (Value (suc d))) (new : Value (suc d)) (es : List ℤ) (r : Value (suc d)) : Type 0 where
  pub sized : length es ≡ length alphas
  pub some : ¬ (r ≡ zero_value)
  pub is : new *ᵛ r ≡ powers (ValueF (suc d)) alphas es *ᵛ shift_value d r

pub record Relates {d : ℕ} (alphas : List (Value (suc d))) (new : Value (suc d)) (es : List ℤ) (r : Value (suc d)) : Type 0 where
  pub sized : length es ≡ suc (length alphas)
  pub above_one : pos 1 <ℤ get_or es (length alphas) (pos 0)
  pub is : IsRatio (powers (ValueF (suc d)) (alphas ++ new ∷ []) es) r
  pub shortest : (fs : List ℤ) → length fs ≡ suc (length alphas) → Holds (alphas ++ new ∷ []) fs → (t : ℤ) × (fs ≡ multiple_row t es)

-- ---- Constants

abbrev pub IsSign : {d : ℕ} → Value d → Type 0
IsSign x = (x ≡ one_value) ⊎ (x ≡ neg_value one_value)

pub record AreExponents {d : ℕ} (xs : List (Value d)) (rows : List (List ℤ)) : Type 0 where
  pub rows_sized : length rows ≡ length xs
  pub width : ℕ
  pub sized : Each (λ r. length r ≡ width) rows
  pub law : (es : List ℤ) → length es ≡ length xs → IsSign (powers (ValueF d) xs es) ↔ AllZero (total es rows)
