-- Columns of exponents: a whole number of at least 1, and its exponent in each of some elements.
--   exponent c i          the exponent of the column in the element i
--   product_at cs i       the product of the numbers of the columns to their exponents in the element i
--   IsSplit w b g r       r is three columns: what is left of w and of b when g is taken out, and g with the sum of the exponents
--   weight_waiting, weight_standing    what falls at each step
--   HasWidth n c          it has exponents in n elements
--   IsStep n w W S W' S'  W' and S' wait and stand after the column w was taken from what waits
use Rattle.std.specs.Prelude.{◌≡◌, ℕ, ◌+◌, ◌*◌, ◌-◌, ◌<◌, ◌≤◌, ◌⊎◌, List, [], ◌∷◌, ◌++◌, get_or, length, map, zero, suc, ℤ, pos, negsuc, unsigned_abs, All, AllPairs}
use Rattle.sg_algebra.specs.Divisor.{gcd}
use Rattle.sg_algebra.proofs.Value.{Value, ◌*ᵛ◌, neg_value, one_value, fraction_value}
use Rattle.sg_algebra.proofs.ValueField.{ValueF}
use Rattle.sg_num.specs.Value.{number}
use Rattle.sg_num.specs.declared.rat.Rat.{Rat}
use Rattle.sg_tower_theory.specs.Powers.{power}
use Rattle.sg_relations.specs.declared.numbers.Column.{Column}

abbrev pub exponent : Column → ℕ → ℤ
exponent c i = get_or c.exps i (pos 0)

abbrev pub column_value : Column → ℕ → Value 0
column_value c i = power (ValueF 0) (fraction_value (pos c.base) 1) (exponent c i)

abbrev pub product_at : List Column → ℕ → Value 0
product_at [] i = one_value
product_at (c ∷ cs) i = column_value c i *ᵛ product_at cs i

abbrev pub IsPositive : Column → Type 0
IsPositive c = 0 < c.base

abbrev pub IsProper : Column → Type 0
IsProper c = 1 < c.base

abbrev pub AreCoprime : Column → Column → Type 0
AreCoprime a b = gcd a.base b.base ≡ 1

abbrev pub weight_waiting : List Column → ℕ
weight_waiting [] = 0
weight_waiting (c ∷ cs) = (4 * (c.base - 1) + 1) + weight_waiting cs

abbrev pub weight_standing : List Column → ℕ
weight_standing [] = 0
weight_standing (c ∷ cs) = 4 * (c.base - 1) + weight_standing cs

abbrev pub HasWidth : ℕ → Column → Type 0
HasWidth n c = length c.exps ≡ n

pub record IsStep (n : ℕ) (w : Column) (W S W' S' : List Column) : Type 0 where
  pub waiting_width : All (HasWidth n) W'
  pub standing_width : All (HasWidth n) S'
  pub positive : All IsPositive W'
  pub proper : All IsProper S'
  pub coprime : AllPairs AreCoprime S'
  pub kept : (i : ℕ) → product_at W' i *ᵛ product_at S' i ≡ (column_value w i *ᵛ product_at W i) *ᵛ product_at S i
  pub falls : weight_waiting W' + weight_standing S' < ((4 * (w.base - 1) + 1) + weight_waiting W) + weight_standing S

-- the exponents of all columns in the element i, and in n elements from the k-th on
abbrev pub row_at : List Column → ℕ → List ℤ
row_at cs i = map (λ c. exponent c i) cs

abbrev pub rows_from : List Column → ℕ → ℕ → List (List ℤ)
rows_from cs k zero = []
rows_from cs k (suc n) = row_at cs k ∷ rows_from cs (suc k) n

abbrev pub IsSigned : Value 0 → Value 0 → Type 0
IsSigned x y = (x ≡ y) ⊎ (x ≡ neg_value y)

-- a row of n exponents, e at i and 0 elsewhere
pub record IsUnit (n i : ℕ) (e : ℤ) (r : List ℤ) : Type 0 where
  pub size : length r ≡ n
  pub own : get_or r i (pos 0) ≡ e
  pub other : (j : ℕ) → ¬ (j ≡ i) → get_or r j (pos 0) ≡ pos 0

-- columns of n elements, which are, up to their signs, the first i numbers, and 1 from there on
pub record IsStart (n i : ℕ) (xs : List Rat) (cs : List Column) : Type 0 where
  pub positive : All IsPositive cs
  pub width : All (HasWidth n) cs
  pub done : (j : ℕ) (d : Rat) → j < i → IsSigned (number (get_or xs j d)) (product_at cs j)
  pub rest : (j : ℕ) → i ≤ j → product_at cs j ≡ one_value

-- two columns are added: the size of the numerator with the exponent 1, the denominator with -1, both at the place i
pub record IsAdded (n i : ℕ) (r : Rat) (old new : List Column) : Type 0 where
  pub upper : Column
  pub lower : Column
  pub is : new ≡ (old ++ upper ∷ []) ++ lower ∷ []
  pub upper_base : upper.base ≡ unsigned_abs r.num
  pub lower_base : lower.base ≡ unsigned_abs r.den
  pub upper_exps : IsUnit n i (pos 1) upper.exps
  pub lower_exps : IsUnit n i (negsuc 0) lower.exps
