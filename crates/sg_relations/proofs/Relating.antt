-- From rows of exponents, and a basis of what their columns send to 0, to the answers.
--   columns_from rows k m     m columns of the rows, from the k-th on
--   law_columns               the law of the rows, said of their columns
--   table_of                  the columns as rows of fractions
--   free_answer               where the basis is empty, the new one is free
--   one_answer                where it isn't, it has one vector, with 1 at the new one
--   generates                 the whole vectors are the multiples of that vector times the least common multiple of its denominators
use Rattle.std.proofs.Common.{◌≡◌, ℕ, zero, suc, ◌+◌, ◌*◌, ◌<◌, ◌≤◌, refl, sym, subst, ap, ap₂, ◌∙◌, List, [], ◌∷◌, ◌++◌, map, length, get_or, ◌⊎◌, inl, inr, ◌↔◌, ℤ, pos, negsuc, neg_ℤ, ◌+ℤ◌, ◌*ℤ◌, ◌<ℤ◌, unsigned_abs, arith}
use Rattle.std.proofs.lemmas.Int.{ints}
use Rattle.sg_algebra.specs.Coefficients.{Each}
use Rattle.sg_algebra.specs.Divisor.{gcd}
use Rattle.sg_algebra.proofs.Divisor.{coprime_whole, gcd_one_right}
use Rattle.sg_algebra.proofs.Coprime.{Coprime}
use Rattle.sg_algebra.proofs.Solver.{by, ring, reads}
use Rattle.sg_algebra.proofs.Value.{Value, ◌*ᵛ◌, zero_value, one_value, fraction_value}
use Rattle.sg_algebra.proofs.ValueField.{ValueR, ValueF}
use Rattle.sg_algebra.proofs.Rational.{fraction_value-zero, fraction_value-one, fraction_value-mul, same_fraction_value, whole_ne}
use Rattle.sg_algebra.proofs.Polynomial.{coefficient}
use Rattle.sg_algebra.proofs.Linear.{row_times, row, Form, Span, table, combined}
use Rattle.sg_algebra.proofs.Whole.{ℤR, readsℤ, mul-oneℤ}
use Rattle.sg_num.specs.Value.{number}
use Rattle.sg_num.specs.declared.rat.Rat.{Rat}
use Rattle.sg_matrix.specs.NullBasis.{AreNull, SpanNull}
use Rattle.sg_tower_theory.specs.Powers.{powers}
use Rattle.sg_relations_theory.specs.Rows.{sum_row, multiple_row, total}
use Rattle.sg_relations_theory.specs.Relations.{AllZero, OnlyZeros}
use Rattle.sg_relations_theory.proofs.PowerLaws.{Some}
use Rattle.sg_relations_theory.proofs.SignLaw.{SignRatio}
use Rattle.sg_relations_theory.proofs.NullVectors.{Parts, part_value, multiples, narrow, no_second, one_vector, number_at, dot, as_value, dot-value}
use Rattle.sg_relations_theory.proofs.Transposed.{column_in, total-at}
use Rattle.sg_relations_theory.proofs.Answering.{listed, answer_free}
use Rattle.sg_relations.specs.Shortest.{lower_at, IsShortest}
use Rattle.sg_relations.specs.Relating.{AreRatioRows, IsTable, width_of}

abbrev pub columns_from : List (List ℤ) → ℕ → ℕ → List (List ℤ)
columns_from rows k zero = []
columns_from rows k (suc m) = column_in rows k ∷ columns_from rows (suc k) m

length-column : (rows : List (List ℤ)) (j : ℕ) → length (column_in rows j) ≡ length rows
length-column [] j = refl
length-column (r ∷ rows) j = ap suc (length-column rows j)

pub columns_sized : (rows : List (List ℤ)) (k m : ℕ) → Each (λ c. length c ≡ length rows) (columns_from rows k m)
columns_sized rows k zero = tt
columns_sized rows k (suc m) = (length-column rows k, columns_sized rows (suc k) m)

-- ---- Vectors as lists

length-listed : (n : ℕ) (x : ℕ → ℤ) → length (listed n x) ≡ n
length-listed zero x = refl
length-listed (suc n) x = ap suc (length-listed n (λ i. x (suc i)))

listed-at : (n : ℕ) (x : ℕ → ℤ) (i : ℕ) → i < n → number_at (listed n x) i ≡ x i
listed-at zero x i l = absurd (omega arith)
listed-at (suc n) x zero l = refl
listed-at (suc n) x (suc i) l = listed-at n (λ i. x (suc i)) i (omega arith)

dot-same : (c : List ℤ) (x y : ℕ → ℤ) → ((i : ℕ) → i < length c → x i ≡ y i) → dot c x ≡ dot c y
dot-same [] x y h = refl
dot-same (c ∷ cs) x y h = ap₂ (λ a b. c *ℤ a +ℤ b) (h 0 (omega arith)) (dot-same cs (λ i. x (suc i)) (λ i. y (suc i)) (λ i l. h (suc i) (omega arith)))

-- ---- Rows that are 0

length-sum : (w : ℕ) (a b : List ℤ) → length a ≤ w → length b ≤ w → length (sum_row a b) ≤ w
length-sum w [] b h k = k
length-sum w (x ∷ a) [] h k = h
length-sum zero (x ∷ a) (y ∷ b) h k = absurd (omega arith)
length-sum (suc w) (x ∷ a) (y ∷ b) h k = let e = length-sum w a b (omega arith) (omega arith) in omega arith

length-multiple : (t : ℤ) (e : List ℤ) → length (multiple_row t e) ≡ length e
length-multiple t [] = refl
length-multiple t (x ∷ e) = ap suc (length-multiple t e)

total_short : (w : ℕ) (es : List ℤ) (rows : List (List ℤ)) → Each (λ r. length r ≡ w) rows → length (total es rows) ≤ w
total_short w [] rows h = omega arith
total_short w (e ∷ es) [] h = omega arith
total_short w (e ∷ es) (r ∷ rows) h = length-sum w (multiple_row e r) (total es rows) (let q = length-multiple e r in let k = h.0 in omega (arith, q, k)) (total_short w es rows h.1)

zero_at : (es : List ℤ) → AllZero es → (i : ℕ) → number_at es i ≡ pos 0
zero_at [] h i = refl
zero_at (e ∷ es) h zero = h.0
zero_at (e ∷ es) h (suc i) = zero_at es h.1 i

all_zero : (es : List ℤ) (w : ℕ) → length es ≤ w → ((i : ℕ) → i < w → number_at es i ≡ pos 0) → AllZero es
all_zero [] w l h = tt
all_zero (e ∷ es) zero l h = absurd (omega arith)
all_zero (e ∷ es) (suc w) l h = (h 0 (omega arith), all_zero es w (omega arith) (λ i q. h (suc i) (omega arith)))

sends_to : (rows : List (List ℤ)) (x : ℕ → ℤ) (k m : ℕ) → ((j : ℕ) → k ≤ j → j < k + m → dot (column_in rows j) x ≡ pos 0) → Each (λ c. dot c x ≡ pos 0) (columns_from rows k m)
sends_to rows x k zero h = tt
sends_to rows x k (suc m) h = (h k (omega arith) (omega arith), sends_to rows x (suc k) m (λ j l q. h j (omega arith) (omega arith)))

sends_from : (rows : List (List ℤ)) (x : ℕ → ℤ) (k m : ℕ) → Each (λ c. dot c x ≡ pos 0) (columns_from rows k m) → (j : ℕ) → k ≤ j → j < k + m → dot (column_in rows j) x ≡ pos 0
sends_from rows x k zero h j l q = absurd (omega arith)
sends_from rows x k (suc m) h j l q = go (two j k l) (λ g. sends_from rows x (suc k) m h.1 j g (omega (arith, q)))
  where
    two : (j k : ℕ) → k ≤ j → (j ≡ k) ⊎ (suc k ≤ j)
    two j k l = grind arith

    go : (j ≡ k) ⊎ (suc k ≤ j) → (suc k ≤ j → dot (column_in rows j) x ≡ pos 0) → dot (column_in rows j) x ≡ pos 0
    go (inl e) later = subst (λ (i : ℕ). dot (column_in rows i) x ≡ pos 0) (sym e) h.0
    go (inr g) later = later g

module _ {d : ℕ} (xs : List (Value (suc d))) (rows : List (List ℤ)) (h : AreRatioRows xs rows) where
  abbrev pub columns : List (List ℤ)
  columns = columns_from rows 0 h.width

  pub law_columns : (es : List ℤ) → length es ≡ length xs → SignRatio d (powers (ValueF (suc d)) xs es) ↔ Each (λ c. dot c (number_at es) ≡ pos 0) columns
  law_columns es l = (to, from)
    where
      same : (j : ℕ) → number_at (total es rows) j ≡ dot (column_in rows j) (number_at es)
      same j = total-at es rows j (l ∙ sym h.rows_sized)

      to : SignRatio d (powers (ValueF (suc d)) xs es) → Each (λ c. dot c (number_at es) ≡ pos 0) columns
      to s = sends_to rows (number_at es) 0 h.width (λ j a b. sym (same j) ∙ zero_at (total es rows) ((h.law es l).0 s) j)

      from : Each (λ c. dot c (number_at es) ≡ pos 0) columns → SignRatio d (powers (ValueF (suc d)) xs es)
      from s = (h.law es l).1 (all_zero (total es rows) h.width (total_short h.width es rows h.sized) (λ j q. same j ∙ sends_from rows (number_at es) 0 h.width s j (omega arith) (omega (arith, q))))

-- ---- The columns as rows of fractions

pub record IsTableOf (rows : List (List ℤ)) (width : ℕ) (t : List (List Rat)) : Type 0 where
  pub sized : length t ≡ width
  pub at : (j : ℕ) → j < width → map number (get_or t j []) ≡ map as_value (column_in rows j)

pub table_of : (rows : List (List ℤ)) (t : List (List Rat)) (w : ℕ) → width_of rows ≡ w → IsTable rows t → IsTableOf rows w t
table_of rows t w e h = subst (λ (n : ℕ). IsTableOf rows n t) e (record { sized = h.sized; at = h.at })

as_one : (x : ℤ) → as_value x ≡ as_value (pos 1) *ᵛ as_value x
as_one x = ring (ValueR 0) (as_value x ∷ []) (search reads depth 12) refl ∙ ap (λ y. y *ᵛ as_value x) (sym fraction_value-one)

as_same : (x y : ℤ) → as_value x ≡ as_value y → x ≡ y
as_same x y e = sym (mul-oneℤ x) ∙ same_fraction_value x y 1 1 (omega arith) (omega arith) e ∙ mul-oneℤ y

number_past : (es : List ℤ) (i : ℕ) → length es ≤ i → number_at es i ≡ pos 0
number_past [] i l = refl
number_past (e ∷ es) zero l = absurd (omega arith)
number_past (e ∷ es) (suc i) l = number_past es i (omega arith)

module _ (rows : List (List ℤ)) (n width : ℕ) (rows_sized : length rows ≡ suc n) (t : List (List Rat)) (is : IsTableOf rows width t) where
  -- a whole vector that the columns send to 0 is one of fractions that the table sends to 0
  abbrev vector : (ℕ → ℤ) → ℕ → Value 0
  vector x i = as_value (number_at (listed (suc n) x) i)

  past : (x : ℕ → ℤ) (k : ℕ) → suc n ≤ k → vector x k ≡ zero_value
  past x k l = ap as_value (number_past (listed (suc n) x) k (let q = length-listed (suc n) x in omega (arith, q, l))) ∙ fraction_value-zero

  pub sends_table : (x : ℕ → ℤ) → Each (λ c. dot c x ≡ pos 0) (columns_from rows 0 width) → (j : ℕ) → j < length t → row_times (map number (get_or t j [])) (vector x) ≡ zero_value
  sends_table x s j l = ap (λ (r : List (Value 0)). row_times r (vector x)) (is.at j (inside l))
      ∙ times_one (row_times (map as_value (column_in rows j)) (vector x))
      ∙ sym (dot-value (column_in rows j) (number_at (listed (suc n) x)) (pos 1) (vector x) (λ i. as_one (number_at (listed (suc n) x) i)))
      ∙ ap as_value (dot-same (column_in rows j) (number_at (listed (suc n) x)) x (λ i q. listed-at (suc n) x i (let e = length-column rows j in omega (arith, e, q, rows_sized))) ∙ sends_from rows x 0 width s j (omega arith) (let k = inside l in omega (arith, k)))
      ∙ fraction_value-zero
    where
      inside : j < length t → j < width
      inside l = let e = is.sized in omega (arith, e, l)

      times_one : (y : Value 0) → y ≡ as_value (pos 1) *ᵛ y
      times_one y = ring (ValueR 0) (y ∷ []) (search reads depth 12) refl ∙ ap (λ z. z *ᵛ y) (sym fraction_value-one)

  -- nothing but 0 is spanned by no vector
  pub nothing_spanned : SpanNull number (suc n) t [] → (x : ℕ → ℤ) → Each (λ c. dot c x ≡ pos 0) (columns_from rows 0 width) → (i : ℕ) → i ≤ n → x i ≡ pos 0
  nothing_spanned complete x s i l = as_same (x i) (pos 0) (ap as_value (sym (listed-at (suc n) x i (omega (arith, l)))) ∙ span.is i ∙ none span.coeffs ∙ sym fraction_value-zero)
    where
      span : Span (table number []) (vector x)
      span = complete (vector x) (past x) (sends_table x s)

      none : (cs : List (Value 0)) → combined cs [] i ≡ zero_value
      none [] = refl
      none (c ∷ cs) = refl

length-join : {A : Type 0} (xs : List A) (x : A) → length (xs ++ x ∷ []) ≡ suc (length xs)
length-join [] x = refl
length-join (y ∷ xs) x = ap suc (length-join xs x)

module _ (d : ℕ) (alphas : List (Value (suc d))) (new : Value (suc d)) (some_alphas : Each (Some (ValueF (suc d))) alphas) (some_all : Each (Some (ValueF (suc d))) (alphas ++ new ∷ [])) (independent : OnlyZeros alphas)
    (rows : List (List ℤ)) (h : AreRatioRows (alphas ++ new ∷ []) rows) (t : List (List Rat)) (is : IsTableOf rows h.width t) where
  rows_long : length rows ≡ suc (length alphas)
  rows_long = h.rows_sized ∙ length-join alphas new

  widths : Each (λ c. length c ≡ suc (length alphas)) (columns_from rows 0 h.width)
  widths = subst (λ (k : ℕ). Each (λ c. length c ≡ k) (columns_from rows 0 h.width)) rows_long (columns_sized rows 0 h.width)

  law : (es : List ℤ) → length es ≡ suc (length alphas) → SignRatio d (powers (ValueF (suc d)) (alphas ++ new ∷ []) es) ↔ Each (λ c. dot c (number_at es) ≡ pos 0) (columns_from rows 0 h.width)
  law es l = law_columns (alphas ++ new ∷ []) rows h es (l ∙ sym (length-join alphas new))

  pub free_answer : SpanNull number (suc (length alphas)) t [] → OnlyZeros (alphas ++ new ∷ [])
  free_answer complete = answer_free d alphas new some_alphas some_all independent (columns_from rows 0 h.width) widths law (nothing_spanned rows (length alphas) h.width rows_long t is complete)

-- ---- The vector

abbrev upper_at : List Rat → ℕ → ℤ
upper_at b i = get_or (map (λ r. r.num) b) i (pos 0)

positive_size : (z : ℤ) → pos 0 <ℤ z → 0 < unsigned_abs z
positive_size (pos n) l = omega (arith, ints, l)
positive_size (negsuc n) l = absurd (omega (arith, ints, l))

-- all of a row of fractions as their parts
abbrev parts_of : List Rat → List Parts
parts_of [] = []
parts_of (r ∷ b) = record { upper = r.num; lower = unsigned_abs r.den; some = positive_size r.den r.positive } ∷ parts_of b

parts_value : (b : List Rat) → map part_value (parts_of b) ≡ map number b
parts_value [] = refl
parts_value (r ∷ b) = ap (λ l. number r ∷ l) (parts_value b)

lower_some : (b : List Rat) (i : ℕ) → 0 < lower_at b i
lower_some [] i = omega arith
lower_some (r ∷ b) zero = positive_size r.den r.positive
lower_some (r ∷ b) (suc i) = lower_some b i

value_at : (b : List Rat) (i : ℕ) → coefficient (map number b) i ≡ fraction_value (upper_at b i) (lower_at b i)
value_at [] i = sym fraction_value-zero
value_at (r ∷ b) zero = refl
value_at (r ∷ b) (suc i) = value_at b i

coprime_sized : (z : ℤ) (l : ℕ) → gcd (unsigned_abs z) l ≡ 1 → Coprime ℤR z (pos l)
coprime_sized (pos n) l e = coprime_whole n l e
coprime_sized (negsuc n) l e = let c = coprime_whole (suc n) l e in
    record { u = neg_ℤ c.u; w = c.w; comb = turned c.u (pos (suc n)) c.w (pos l) c.comb }
  where
    turned : (u z w l : ℤ) → u *ℤ z +ℤ w *ℤ l ≡ pos 1 → neg_ℤ u *ℤ neg_ℤ z +ℤ w *ℤ l ≡ pos 1
    turned u z w l e = by ℤR (u ∷ z ∷ w ∷ l ∷ []) e (search readsℤ depth 12) refl

lowest_at : (b : List Rat) (i : ℕ) → Coprime ℤR (upper_at b i) (pos (lower_at b i))
lowest_at [] i = coprime_sized (pos 0) 1 (gcd_one_right 0)
lowest_at (r ∷ b) zero = coprime_sized r.num (unsigned_abs r.den) r.lowest
lowest_at (r ∷ b) (suc i) = lowest_at b i

-- equations of fractions as equations of whole numbers
crossed : (a m u : ℤ) (l : ℕ) → 0 < l → as_value a ≡ as_value m *ᵛ fraction_value u l → a *ℤ pos l ≡ m *ℤ u
crossed a m u l h e = ap (λ (k : ℕ). a *ℤ pos k) times ∙ same_fraction_value a (m *ℤ u) 1 (1 * l) (omega arith) (subst (λ (k : ℕ). 0 < k) times h) (e ∙ sym (fraction_value-mul m u 1 l (omega arith) h)) ∙ mul-oneℤ (m *ℤ u)
  where
    times : l ≡ 1 * l
    times = omega arith

each_from : (P : List ℤ → Type 0) (rows : List (List ℤ)) (k m : ℕ) → ((j : ℕ) → k ≤ j → j < k + m → P (column_in rows j)) → Each P (columns_from rows k m)
each_from P rows k zero h = tt
each_from P rows k (suc m) h = (h k (omega arith) (omega arith), each_from P rows (suc k) m (λ j l q. h j (omega arith) (omega arith)))

module _ (rows : List (List ℤ)) (n width : ℕ) (rows_sized : length rows ≡ suc n) (t : List (List Rat)) (is : IsTableOf rows width t) (bs : List (List Rat))
    (sized : (i : ℕ) → i < length bs → length (get_or bs i []) ≡ suc n) (sound : AreNull number t bs) (form : Form number bs) (complete : SpanNull number (suc n) t bs)
    (narrow_whole : (x : ℕ → ℤ) → Each (λ c. dot c x ≡ pos 0) (columns_from rows 0 width) → x n ≡ pos 0 → (i : ℕ) → i ≤ n → x i ≡ pos 0) where
  null_at : (i : ℕ) → Each (λ c. row_times (map as_value c) (coefficient (map number (get_or bs i []))) ≡ zero_value) (columns_from rows 0 width)
  null_at i = each_from (λ c. row_times (map as_value c) (coefficient (map number (get_or bs i []))) ≡ zero_value) rows 0 width
      (λ j l q. subst (λ (r : List (Value 0)). row_times r (coefficient (map number (get_or bs i []))) ≡ zero_value) (is.at j (omega (arith, q))) (sound j (let e = is.sized in omega (arith, e, q)) i))

  zero_first : (i : ℕ) → i < length bs → row number bs i n ≡ zero_value → (k : ℕ) → k ≤ n → row number bs i k ≡ zero_value
  zero_first i l z k q = subst (λ (r : List (Value 0)). coefficient r k ≡ zero_value) (parts_value (get_or bs i []))
      (narrow (columns_from rows 0 width) n narrow_whole (parts_of (get_or bs i []))
      (subst (λ (r : List (Value 0)). Each (λ c. row_times (map as_value c) (coefficient r) ≡ zero_value) (columns_from rows 0 width)) (sym (parts_value (get_or bs i []))) (null_at i))
      (subst (λ (r : List (Value 0)). coefficient r n ≡ zero_value) (sym (parts_value (get_or bs i []))) z) k q)

  pub alone : 1 < length bs → ⊥
  alone l = no_second number n bs form sized zero_first l

  pub last_one : 0 < length bs → row number bs 0 n ≡ one_value
  last_one l = one_vector number n bs form sized zero_first l

  module _ (one : length bs ≡ 1) (e : List ℤ) (short : IsShortest (get_or bs 0 []) e) where
    abbrev b : List Rat
    b = get_or bs 0 []

    first : 0 < length bs
    first = omega (arith, one)

    long_b : length b ≡ suc n
    long_b = sized 0 first

    b_last : coefficient (map number b) n ≡ one_value
    b_last = last_one first

    -- the last exponent is the multiple
    pub last_is : number_at e n ≡ short.multiple
    last_is = as_same (number_at e n) short.multiple (short.is n ∙ ap (λ y. as_value short.multiple *ᵛ y) b_last ∙ ring (ValueR 0) (as_value short.multiple ∷ []) (search reads depth 12) refl)

    pub last_positive : pos 0 <ℤ number_at e n
    last_positive = subst (λ (z : ℤ). pos 0 <ℤ z) (sym last_is) short.positive

    -- it is sent to 0
    pub sent : Each (λ c. dot c (number_at e) ≡ pos 0) (columns_from rows 0 width)
    sent = go (columns_from rows 0 width) (null_at 0)
      where
        go : (cols : List (List ℤ)) → Each (λ c. row_times (map as_value c) (coefficient (map number b)) ≡ zero_value) cols → Each (λ c. dot c (number_at e) ≡ pos 0) cols
        go [] h = tt
        go (c ∷ cols) h = (
          as_same (dot c (number_at e)) (pos 0) (dot-value c (number_at e) short.multiple (coefficient (map number b)) short.is ∙ ap (λ y. as_value short.multiple *ᵛ y) h.0
              ∙ ring (ValueR 0) (as_value short.multiple ∷ []) (search reads depth 12) refl ∙ sym fraction_value-zero),
          go cols h.1,
        )

    -- whatever whole vector is sent to 0 is a multiple
    pub generated : (x : ℕ → ℤ) → Each (λ c. dot c x ≡ pos 0) (columns_from rows 0 width) → (s : ℤ) × ((i : ℕ) → i ≤ n → x i ≡ s *ℤ number_at e i)
    generated x s = multiples n (upper_at b) (λ i. pos (lower_at b i)) (number_at e) x short.multiple (x n)
        (λ i l. whole_ne (lower_at b i) (lower_some b i)) (λ i l. lowest_at b i)
        (λ i l. crossed (number_at e i) short.multiple (upper_at b i) (lower_at b i) (lower_some b i) (short.is i ∙ ap (λ y. as_value short.multiple *ᵛ y) (value_at b i)))
        (λ m h. short.least m (λ i l. h i (omega (arith, l, long_b))))
        (λ i l. crossed (x i) (x n) (upper_at b i) (lower_at b i) (lower_some b i) (along i l ∙ ap (λ y. as_value (x n) *ᵛ y) (value_at b i)))
      where
        span : Span (table number bs) (vector rows n width rows_sized t is x)
        span = complete (vector rows n width rows_sized t is x) (past rows n width rows_sized t is x) (sends_table rows n width rows_sized t is x s)

        single : (bs : List (List Rat)) → length bs ≡ 1 → (cs : List (Value 0)) → (c : Value 0) × ((k : ℕ) → combined cs (table number bs) k ≡ c *ᵛ coefficient (map number (get_or bs 0 [])) k)
        single [] l cs = absurd (omega arith)
        single (r ∷ q ∷ bs) l cs = absurd (omega arith)
        single (r ∷ []) l [] = (zero_value, λ k. ring (ValueR 0) (coefficient (map number r) k ∷ []) (search reads depth 12) refl)
        single (r ∷ []) l (c ∷ []) = (c, λ k. ring (ValueR 0) (c ∷ coefficient (map number r) k ∷ []) (search reads depth 12) refl)
        single (r ∷ []) l (c ∷ f ∷ cs) = (c, λ k. ring (ValueR 0) (c ∷ coefficient (map number r) k ∷ []) (search reads depth 12) refl)

        factor : (c : Value 0) × ((k : ℕ) → combined span.coeffs (table number bs) k ≡ c *ᵛ coefficient (map number b) k)
        factor = single bs one span.coeffs

        at : (i : ℕ) → i ≤ n → as_value (x i) ≡ factor.0 *ᵛ coefficient (map number b) i
        at i l = ap as_value (sym (listed-at (suc n) x i (omega (arith, l)))) ∙ span.is i ∙ factor.1 i

        constant_is : as_value (x n) ≡ factor.0
        constant_is = at n (omega arith) ∙ ap (λ y. factor.0 *ᵛ y) b_last ∙ ring (ValueR 0) (factor.0 ∷ []) (search reads depth 12) refl

        along : (i : ℕ) → i ≤ n → as_value (x i) ≡ as_value (x n) *ᵛ coefficient (map number b) i
        along i l = at i l ∙ ap (λ y. y *ᵛ coefficient (map number b) i) (sym constant_is)
