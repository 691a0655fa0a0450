-- The columns that the refinement begins with, and the rows that it ends with.
--   start_none, start_next      the loop over the fractions
--   row-next, rows-next         the loops over the columns and over the elements
--   signed_from                 the refined columns still are the fractions, up to signs
use Rattle.std.proofs.Common.{◌≡◌, ℕ, zero, suc, ◌+◌, ◌*◌, ◌<◌, ◌≤◌, refl, sym, subst, ap, ap₂, ◌∙◌, List, [], ◌∷◌, ◌++◌, map, length, take, get_or, All, ◌⊎◌, inl, inr, ℤ, pos, negsuc, ◌*ℤ◌, ◌<ℤ◌, unsigned_abs, arith}
use Rattle.std.proofs.lemmas.Int.{ints}
use Rattle.std.proofs.lemmas.List.Elements.{All-push}
use Rattle.sg_algebra.proofs.Solver.{ring, reads}
use Rattle.sg_algebra.proofs.Value.{Value, ◌*ᵛ◌, ◌/ᵛ◌, inv_value, one_value, fraction_value}
use Rattle.sg_algebra.proofs.ValueField.{ValueR, ValueF, value_quotient}
use Rattle.sg_algebra.proofs.Rational.{fraction_value-mul, fraction_value-neg, fraction_value_same, zero_fraction_value, whole_ne}
use Rattle.sg_algebra.proofs.Whole.{mul-oneℤ}
use Rattle.sg_num.specs.Value.{number}
use Rattle.sg_num.specs.declared.rat.Rat.{Rat}
use Rattle.sg_tower_theory.specs.Powers.{power}
use Rattle.sg_relations.specs.declared.numbers.Column.{Column}
use Rattle.sg_relations.specs.Columns.{exponent, column_value, product_at, row_at, rows_from, IsPositive, HasWidth, IsSigned, IsAdded, IsStart}
use Rattle.sg_relations_theory.proofs.PowerLaws.{Some}
use Rattle.sg_relations.proofs.Loops.{product-push}
use Rattle.sg_relations.proofs.RowLaw.{Signed}

abbrev val : ℤ → Value 0
val n = fraction_value n 1

parts : (n : ℤ) (m : ℕ) → 0 < m → fraction_value n m ≡ val n /ᵛ val (pos m)
parts n m l = value_quotient (val n) (val (pos m)) (fraction_value n m) (λ e. whole_ne m l (zero_fraction_value (pos m) 1 (omega arith) e))
    (sym (fraction_value-mul n (pos m) m 1 l (omega arith)) ∙ fraction_value_same (n *ℤ pos m) n (m * 1) 1 (omega arith) (omega arith) (mul-oneℤ (n *ℤ pos m) ∙ ap (λ k. n *ℤ pos k) times))
  where
    times : m ≡ m * 1
    times = omega arith

signed_parts : (n : ℤ) (m : ℕ) → 0 < m → IsSigned (fraction_value n m) (inv_value (val (pos m)) *ᵛ (val (pos (unsigned_abs n)) *ᵛ one_value))
signed_parts (pos a) m l = inl (parts (pos a) m l ∙ ring (ValueR 0) (val (pos a) ∷ inv_value (val (pos m)) ∷ []) (search reads depth 12) refl)
signed_parts (negsuc a) m l = inr (parts (negsuc a) m l ∙ ap (λ (y : Value 0). y *ᵛ inv_value (val (pos m))) (fraction_value-neg (pos (suc a)) 1 (omega arith)) ∙ ring (ValueR 0) (val (pos (suc a)) ∷ inv_value (val (pos m)) ∷ []) (search reads depth 12) refl)

none : (P : Column → Type 0) → All P []
none P k d l = absurd (omega arith)

pub start_none : (n : ℕ) (xs : List Rat) (cs : List Column) → cs ≡ [] → IsStart n 0 xs cs
start_none n xs cs e = rw e (record { positive = none IsPositive; width = none (HasWidth n); done = λ j d l. absurd (omega arith); rest = λ j l. refl })

module _ (n i : ℕ) (xs : List Rat) (r : Rat) (old new : List Column) (inside : i < length xs) (some : ¬ (r.num ≡ pos 0)) (is_r : r ≡ get_or xs i r) (s : IsStart n i xs old) (a : IsAdded n i r old new) where
  two : (i j : ℕ) → (j ≡ i) ⊎ ¬ (j ≡ i)
  two i j = grind arith

  den_some : 0 < unsigned_abs r.den
  den_some = go r.den r.positive
    where
      go : (d : ℤ) → pos 0 <ℤ d → 0 < unsigned_abs d
      go d h = grind (arith, ints)

  num_some : 0 < unsigned_abs r.num
  num_some = go r.num some
    where
      go : (d : ℤ) → ¬ (d ≡ pos 0) → 0 < unsigned_abs d
      go d h = grind (arith, ints)

  pushed : (j : ℕ) → product_at new j ≡ column_value a.lower j *ᵛ (column_value a.upper j *ᵛ product_at old j)
  pushed j = ap (λ (cs : List Column). product_at cs j) a.is ∙ product-push (old ++ a.upper ∷ []) a.lower j ∙ ap (λ (y : Value 0). column_value a.lower j *ᵛ y) (product-push old a.upper j)

  elsewhere : (j : ℕ) → ¬ (j ≡ i) → product_at new j ≡ product_at old j
  elsewhere j h = pushed j ∙ ap₂ (λ (e f : ℤ). power (ValueF 0) (val (pos a.lower.base)) e *ᵛ (power (ValueF 0) (val (pos a.upper.base)) f *ᵛ product_at old j)) (a.lower_exps.other j h) (a.upper_exps.other j h)
      ∙ ring (ValueR 0) (product_at old j ∷ []) (search reads depth 12) refl

  here : product_at new i ≡ inv_value (val (pos (unsigned_abs r.den))) *ᵛ (val (pos (unsigned_abs r.num)) *ᵛ one_value)
  here = pushed i ∙ ap₂ (λ (e f : ℤ). power (ValueF 0) (val (pos a.lower.base)) e *ᵛ (power (ValueF 0) (val (pos a.upper.base)) f *ᵛ product_at old i)) a.lower_exps.own a.upper_exps.own
      ∙ ap (λ (y : Value 0). power (ValueF 0) (val (pos a.lower.base)) (negsuc 0) *ᵛ (power (ValueF 0) (val (pos a.upper.base)) (pos 1) *ᵛ y)) (s.rest i (omega arith))
      ∙ ap₂ (λ (x y : ℕ). power (ValueF 0) (val (pos x)) (negsuc 0) *ᵛ (power (ValueF 0) (val (pos y)) (pos 1) *ᵛ one_value)) a.lower_base a.upper_base
      ∙ ring (ValueR 0) (inv_value (val (pos (unsigned_abs r.den))) ∷ val (pos (unsigned_abs r.num)) ∷ []) (search reads depth 12) refl

  pub start_next : IsStart n (i + 1) xs new
  start_next = record {
    positive = subst (λ (cs : List Column). All IsPositive cs) (sym a.is) (All-push IsPositive (old ++ a.upper ∷ []) a.lower (All-push IsPositive old a.upper s.positive (subst (λ (k : ℕ). 0 < k) (sym a.upper_base) num_some)) (subst (λ (k : ℕ). 0 < k) (sym a.lower_base) den_some));
    width = subst (λ (cs : List Column). All (HasWidth n) cs) (sym a.is) (All-push (HasWidth n) (old ++ a.upper ∷ []) a.lower (All-push (HasWidth n) old a.upper s.width a.upper_exps.size) a.lower_exps.size);
    done = λ j d l. done j d l (two i j);
    rest = λ j l. elsewhere j (λ e. later j l e) ∙ s.rest j (omega arith);
  }
    where
      later : (j : ℕ) → i + 1 ≤ j → j ≡ i → ⊥
      later j l e = omega arith

      default : (zs : List Rat) (k : ℕ) (d e : Rat) → k < length zs → get_or zs k d ≡ get_or zs k e
      default [] k d e l = absurd (omega arith)
      default (z ∷ zs) zero d e l = refl
      default (z ∷ zs) (suc k) d e l = default zs k d e (omega arith)

      done : (j : ℕ) (d : Rat) → j < i + 1 → (j ≡ i) ⊎ ¬ (j ≡ i) → IsSigned (number (get_or xs j d)) (product_at new j)
      done j d l (inl e) = subst (λ (k : ℕ). IsSigned (number (get_or xs k d)) (product_at new k)) (sym e)
          (subst (λ (x : Rat). IsSigned (number x) (product_at new i)) (is_r ∙ default xs i r d inside) (subst (λ (y : Value 0). IsSigned (number r) y) (sym here) (signed_parts r.num (unsigned_abs r.den) den_some)))
      done j d l (inr h) = subst (λ (y : Value 0). IsSigned (number (get_or xs j d)) y) (sym (elsewhere j h)) (s.done j d (omega arith))

-- ---- Rows

row_next : (cs : List Column) (c : ℕ) (d : Column) (i : ℕ) → c < length cs → row_at (take (suc c) cs) i ≡ row_at (take c cs) i ++ exponent (get_or cs c d) i ∷ []
row_next [] c d i l = absurd (omega arith)
row_next (x ∷ cs) zero d i l = refl
row_next (x ∷ cs) (suc c) d i l = ap (λ r. exponent x i ∷ r) (row_next cs c d i (omega arith))

pub row-next : (cs : List Column) (c : ℕ) (d : Column) (i : ℕ) → c < length cs → row_at (take (c + 1) cs) i ≡ row_at (take c cs) i ++ exponent (get_or cs c d) i ∷ []
row-next cs c d i l = let q : c + 1 ≡ suc c = omega arith in rw q (row_next cs c d i l)

rows_next : (cs : List Column) (k n : ℕ) → rows_from cs k (suc n) ≡ rows_from cs k n ++ row_at cs (k + n) ∷ []
rows_next cs k zero = let q : k + 0 ≡ k = omega arith in rw q refl
rows_next cs k (suc n) = let q : k + suc n ≡ suc k + n = omega arith in rw q (ap (λ r. row_at cs k ∷ r) (rows_next cs (suc k) n))

pub rows-next : (cs : List Column) (n : ℕ) → rows_from cs 0 (n + 1) ≡ rows_from cs 0 n ++ row_at cs n ∷ []
rows-next cs n = let q : n + 1 ≡ suc n = omega arith in let p : 0 + n ≡ n = omega arith in rw q (rows_next cs 0 n ∙ ap (λ (k : ℕ). rows_from cs 0 n ++ row_at cs k ∷ []) p)

-- ---- The fractions

number_some : (r : Rat) → ¬ (r.num ≡ pos 0) → Some (ValueF 0) (number r)
number_some r h e = h (zero_fraction_value r.num (unsigned_abs r.den) (go r.den r.positive) e)
  where
    go : (d : ℤ) → pos 0 <ℤ d → 0 < unsigned_abs d
    go d h = grind (arith, ints)

signed_go : (xs : List Rat) (k : ℕ) (cs : List Column) → All (λ r. ¬ (r.num ≡ pos 0)) xs → ((j : ℕ) (d : Rat) → j < length xs → IsSigned (number (get_or xs j d)) (product_at cs (k + j))) → Signed (map number xs) cs k
signed_go [] k cs some h = tt
signed_go (x ∷ xs) k cs some h = (
  number_some x (some 0 x (omega arith)),
  subst (λ (j : ℕ). IsSigned (number x) (product_at cs j)) at (h 0 x (omega arith)),
  signed_go xs (suc k) cs (λ j d l. some (suc j) d (omega arith)) (λ j d l. subst (λ (i : ℕ). IsSigned (number (get_or xs j d)) (product_at cs i)) (next j) (h (suc j) d (omega arith))),
)
  where
    at : k + 0 ≡ k
    at = omega arith

    next : (j : ℕ) → k + suc j ≡ suc k + j
    next j = omega arith

pub signed_from : (n : ℕ) (xs : List Rat) (start cs : List Column) → All (λ r. ¬ (r.num ≡ pos 0)) xs → IsStart n (length xs) xs start → ((i : ℕ) → product_at cs i ≡ product_at start i) → Signed (map number xs) cs 0
signed_from n xs start cs some s kept = signed_go xs 0 cs some (λ j d l. subst (λ (y : Value 0). IsSigned (number (get_or xs j d)) y) (sym (kept (0 + j)) ∙ refl) (subst (λ (i : ℕ). IsSigned (number (get_or xs j d)) (product_at start i)) (sym (at j)) (s.done j d l)))
  where
    at : (j : ℕ) → 0 + j ≡ j
    at j = omega arith
