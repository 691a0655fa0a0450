-- Rows of exponents of rational functions, and what a product is over others.
--   AreRatioRows xs rows      a product of powers of xs is r(k + 1)/r(k), up to its sign, exactly where the sum of the rows, each times its exponent, is 0
--   AreLeadRows xs cs rows    they are; and where that sum is 0, the product of the powers of the constants cs is 1 or -1, and that of xs is it, up to
--                             r(k + 1)/r(k)
--   width_of rows             the length of the first row
--   IsTable rows t            the columns of the rows, as rows of fractions
--   IsSigned cs es fs         the product of the powers of cs by es is 1, and fs is es; or it is -1, and fs is twice es
--   IsMonicFraction v r       the leading coefficients of numerator and denominator are 1
--   IsNamed es r a            Expressed, by the negated exponents before the last one, where that is 1; else Dependent, by all exponents; both with r
--   IsRelation v xs new a     the answer a holds: its own definition, for the exponents and the ratio that it has
use Rattle.std.specs.Prelude.{◌≡◌, ℕ, suc, ◌<◌, ◌-◌, List, [], ◌∷◌, ◌++◌, length, map, take, get_or, ℤ, pos, negsuc, ◌⊎◌, ◌↔◌}
use Rattle.sg_algebra.specs.Coefficients.{Each}
use Rattle.sg_algebra.proofs.Value.{Value, neg_value, one_value}
use Rattle.sg_algebra.proofs.ValueField.{ValueF}
use Rattle.sg_algebra.proofs.Embedding.{constant_value}
use Rattle.sg_algebra.proofs.ShiftValue.{shift_valueH}
use Rattle.sg_num.specs.Value.{number}
use Rattle.sg_num.specs.declared.rat.Rat.{Rat}
use Rattle.sg_poly.specs.Divisors.{IsMonic}
use Rattle.sg_ratfun.specs.Fractions.{ratio}
use Rattle.sg_tower_theory.specs.Powers.{powers}
use Rattle.sg_relations_theory.specs.Rows.{multiple_row, total}
use Rattle.sg_relations_theory.specs.Relations.{IsSign, AllZero, OnlyZeros, Expresses, Relates}
use Rattle.sg_relations_theory.proofs.Similar.{Similar}
use Rattle.sg_relations_theory.proofs.SignLaw.{SignRatio}
use Rattle.sg_relations_theory.proofs.NullVectors.{as_value}
use Rattle.sg_relations_theory.proofs.Transposed.{column_in}
use Rattle.sg_relations.specs.declared.answer.Relation.{Relation}
use Rattle.sg_relations.specs.declared.answer.Relation.TheVariants.{Free, Expressed, Dependent}

pub record AreRatioRows {d : ℕ} (xs : List (Value (suc d))) (rows : List (List ℤ)) : Type 0 where
  pub rows_sized : length rows ≡ length xs
  pub width : ℕ
  pub sized : Each (λ r. length r ≡ width) rows
  pub law : (es : List ℤ) → length es ≡ length xs → SignRatio d (powers (ValueF (suc d)) xs es) ↔ AllZero (total es rows)

pub record AreLeadRows {d : ℕ} (xs : List (Value (suc d))) (cs : List (Value d)) (rows : List (List ℤ)) : Type 0 where
  pub rows_are : AreRatioRows xs rows
  pub sign : (es : List ℤ) → length es ≡ length xs → AllZero (total es rows) → IsSign (powers (ValueF d) cs es)
  pub alike : (es : List ℤ) → length es ≡ length xs → AllZero (total es rows) → Similar (ValueF (suc d)) (shift_valueH d) (powers (ValueF (suc d)) xs es) (constant_value d (powers (ValueF d) cs es))

abbrev pub width_of : List (List ℤ) → ℕ
width_of rows = length (get_or rows 0 [])

pub record IsTable (rows : List (List ℤ)) (t : List (List Rat)) : Type 0 where
  pub sized : length t ≡ width_of rows
  pub at : (j : ℕ) → j < width_of rows → map number (get_or t j []) ≡ map as_value (column_in rows j)

abbrev pub IsSigned : {d : ℕ} → List (Value d) → List ℤ → List ℤ → Type 0
IsSigned {d} cs es fs = ((powers (ValueF d) cs es ≡ one_value) × (fs ≡ es)) ⊎ ((powers (ValueF d) cs es ≡ neg_value one_value) × (fs ≡ multiple_row (pos 2) es))

abbrev pub IsMonicFraction : {K : Type 0} {d : ℕ} → (K → Value d) → List K × List K → Type 0
IsMonicFraction v r = IsMonic (map v r.0) × IsMonic (map v r.1)

abbrev pub IsNamed : {K : Type 0} → List ℤ → List K × List K → Relation K → Type 0
IsNamed es r Free = ⊥
IsNamed es r (Expressed fs s) = (get_or es (length es - 1) (pos 0) ≡ pos 1) × (fs ≡ multiple_row (negsuc 0) (take (length es - 1) es)) × (s ≡ r)
IsNamed es r (Dependent fs s) = (¬ (get_or es (length es - 1) (pos 0) ≡ pos 1)) × (fs ≡ es) × (s ≡ r)

abbrev pub IsRelation : {K : Type 0} {d : ℕ} → (K → Value d) → List (Value (suc d)) → Value (suc d) → Relation K → Type 0
IsRelation v xs new Free = OnlyZeros (xs ++ new ∷ [])
IsRelation v xs new (Expressed es r) = Expresses xs new es (ratio v r) × IsMonicFraction v r
IsRelation v xs new (Dependent es r) = Relates xs new es (ratio v r) × IsMonicFraction v r
