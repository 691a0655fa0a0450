-- The rows of refined columns are exponents: a product of powers of the elements is 1 or -1 exactly where the total row is 0.
--   IsSigned x y          x is y or -y
--   are_exponents         where each element is, up to its sign, the product of the columns in its place
use Rattle.std.proofs.Common.{◌≡◌, ℕ, zero, suc, ◌<◌, ◌≤◌, refl, sym, ap, ◌∙◌, List, [], ◌∷◌, map, length, get_or, All, AllPairs, inl, inr, ℤ, pos, negsuc, arith}
use Rattle.std.proofs.lemmas.Int.{ints}
use Rattle.std.proofs.lemmas.Nat.Gcd.{le_of_dvd}
use Rattle.sg_algebra.specs.Coefficients.{Each}
use Rattle.sg_algebra.specs.Divisor.{gcd}
use Rattle.sg_algebra.proofs.Divisor.{coprime_whole}
use Rattle.sg_algebra.proofs.WholeDivisors.{dvd_whole}
use Rattle.sg_algebra.proofs.Whole.{ℤR, ℤD}
use Rattle.sg_algebra.proofs.Divides.{Divides, identity}
use Rattle.sg_algebra.proofs.Solver.{ring, reads}
use Rattle.sg_algebra.proofs.Value.{Value, ◌*ᵛ◌, neg_value, one_value, fraction_value}
use Rattle.sg_algebra.proofs.ValueField.{ValueR, ValueF}
use Rattle.sg_algebra.proofs.Rational.{fraction_value-one, fraction_value-neg}
use Rattle.sg_tower_theory.specs.Powers.{powers}
use Rattle.sg_relations_theory.specs.Rows.{sum_row, multiple_row, total}
use Rattle.sg_relations_theory.specs.Relations.{AllZero, AreExponents}
use Rattle.sg_relations.specs.declared.numbers.Column.{Column}
use Rattle.sg_relations.specs.Columns.{column_value, product_at, row_at, rows_from, IsProper, AreCoprime, IsSigned}
use Rattle.sg_relations_theory.proofs.Apart.{Apart}
use Rattle.sg_relations_theory.proofs.PowerLaws.{Some}
use Rattle.sg_relations_theory.proofs.Generators.{AreGenerators, AllApart, Zeros}
use Rattle.sg_relations_theory.proofs.WrittenRows.{UnitValue, AllWritten}
use Rattle.sg_relations_theory.proofs.ExponentLaws.{plain_apart, ℤ_inside, numbers_law, same_similar}

abbrev bases : List Column → List ℤ
bases cs = map (λ c. pos c.base) cs

-- ---- The columns as generators

each_apart : (b : ℕ) (ds : List Column) → ((k : ℕ) (d : Column) → k < length ds → gcd b (get_or ds k d).base ≡ 1) → Each (Apart ℤR (identity ℤR) (pos b)) (bases ds)
each_apart b [] h = tt
each_apart b (d ∷ ds) h = (plain_apart ℤR (pos b) (pos d.base) (coprime_whole b d.base (h 0 d (omega arith))), each_apart b ds (λ k d l. h (suc k) d (omega arith)))

all_apart : (cs : List Column) → AllPairs AreCoprime cs → AllApart ℤD (identity ℤR) (bases cs)
all_apart [] h = tt
all_apart (c ∷ cs) h = (each_apart c.base cs (λ k d l. h 0 (suc k) d (omega arith) (omega arith)), all_apart cs (λ i j d l k. h (suc i) (suc j) d (omega arith) (omega arith)))

some_each : (cs : List Column) → All IsProper cs → Each (λ p. ¬ (p ≡ pos 0)) (bases cs)
some_each [] h = tt
some_each (c ∷ cs) h = (apart c.base (h 0 c (omega arith)), some_each cs (λ k d l. h (suc k) d (omega arith)))
  where
    apart : (b : ℕ) → 1 < b → ¬ (pos b ≡ pos 0)
    apart b l e = omega (arith, ints)

proper_each : (cs : List Column) → All IsProper cs → Each (λ p. ¬ Divides ℤR p (pos 1)) (bases cs)
proper_each [] h = tt
proper_each (c ∷ cs) h = (apart c.base (h 0 c (omega arith)), proper_each cs (λ k d l. h (suc k) d (omega arith)))
  where
    apart : (b : ℕ) → 1 < b → ¬ Divides ℤR (pos b) (pos 1)
    apart b l d = let k : b ≤ 1 = le_of_dvd (omega arith) (dvd_whole b 1 d) in omega arith

powers-row : (cs : List Column) (i : ℕ) → powers (ValueF 0) (map (λ n. fraction_value n 1) (bases cs)) (row_at cs i) ≡ product_at cs i
powers-row [] i = refl
powers-row (c ∷ cs) i = ap (λ (y : Value 0). column_value c i *ᵛ y) (powers-row cs i)

-- ---- Rows of zeros

length-row : (cs : List Column) (i : ℕ) → length (row_at cs i) ≡ length cs
length-row [] i = refl
length-row (c ∷ cs) i = ap suc (length-row cs i)

length-bases : (cs : List Column) → length (bases cs) ≡ length cs
length-bases [] = refl
length-bases (c ∷ cs) = ap suc (length-bases cs)

length-multiple : (t : ℤ) (e : List ℤ) → length (multiple_row t e) ≡ length e
length-multiple t [] = refl
length-multiple t (x ∷ e) = ap suc (length-multiple t e)

length-sum : (n : ℕ) (a b : List ℤ) → length a ≤ n → length b ≤ n → length (sum_row a b) ≤ n
length-sum n [] b h k = k
length-sum n (x ∷ a) [] h k = h
length-sum zero (x ∷ a) (y ∷ b) h k = absurd (omega arith)
length-sum (suc n) (x ∷ a) (y ∷ b) h k = let e = length-sum n a b (omega arith) (omega arith) in omega arith

length-total : (cs : List Column) (k n : ℕ) (es : List ℤ) → length (total es (rows_from cs k n)) ≤ length cs
length-total cs k n [] = omega arith
length-total cs k zero (e ∷ es) = omega arith
length-total cs k (suc n) (e ∷ es) = length-sum (length cs) (multiple_row e (row_at cs k)) (total es (rows_from cs (suc k) n))
    (let q : length (multiple_row e (row_at cs k)) ≡ length cs = length-multiple e (row_at cs k) ∙ length-row cs k in omega arith) (length-total cs (suc k) n es)

zeros_all : (ps : List ℤ) (y : List ℤ) → length y ≤ length ps → Zeros ps y → AllZero y
zeros_all ps [] l z = tt
zeros_all [] (e ∷ y) l z = absurd (omega arith)
zeros_all (p ∷ ps) (e ∷ y) l z = (z.0, zeros_all ps y (omega arith) z.1)

all_zeros : (ps : List ℤ) (y : List ℤ) → AllZero y → Zeros ps y
all_zeros [] y z = tt
all_zeros (p ∷ ps) [] z = tt
all_zeros (p ∷ ps) (e ∷ y) z = (z.0, all_zeros ps y z.1)

rows_length : (cs : List Column) (k n : ℕ) → length (rows_from cs k n) ≡ n
rows_length cs k zero = refl
rows_length cs k (suc n) = ap suc (rows_length cs (suc k) n)

rows_sized : (cs : List Column) (k n : ℕ) → Each (λ r. length r ≡ length cs) (rows_from cs k n)
rows_sized cs k zero = tt
rows_sized cs k (suc n) = (length-row cs k, rows_sized cs (suc k) n)

-- ---- The law

abbrev pub Signed : List (Value 0) → List Column → ℕ → Type 0
Signed [] cs k = Unit {0}
Signed (x ∷ xs) cs k = Some (ValueF 0) x × IsSigned x (product_at cs k) × Signed xs cs (suc k)

abbrev sign : {x y : Value 0} → IsSigned x y → Value 0
sign (inl e) = one_value
sign (inr e) = neg_value one_value

signs : (xs : List (Value 0)) (cs : List Column) (k : ℕ) → Signed xs cs k → List (Value 0)
signs [] cs k s = []
signs (x ∷ xs) cs k s = sign s.1 ∷ signs xs cs (suc k) s.2

module _ (cs : List Column) (proper : All IsProper cs) (coprime : AllPairs AreCoprime cs) where
  gens : AreGenerators ℤD (identity ℤR) (bases cs)
  gens = record { apart = all_apart cs coprime; some = some_each cs proper; proper = proper_each cs proper }

  sign_unit : {x y : Value 0} (s : IsSigned x y) → UnitValue ℤD (identity ℤR) (ValueF 0) ℤ_inside (sign s)
  sign_unit (inl e) = record { u = pos 1; unit = record { cofactor = pos 1; is = refl }; is = sym fraction_value-one }
  sign_unit (inr e) = record { u = negsuc 0; unit = record { cofactor = negsuc 0; is = refl }; is = ap neg_value (sym fraction_value-one) ∙ sym (fraction_value-neg (pos 1) 1 (omega arith)) }

  sign_value : {x y : Value 0} (s : IsSigned x y) → x ≡ sign s *ᵛ y
  sign_value {x} {y} (inl e) = e ∙ ring (ValueR 0) (y ∷ []) (search reads depth 12) refl
  sign_value {x} {y} (inr e) = e ∙ ring (ValueR 0) (y ∷ []) (search reads depth 12) refl

  written : (xs : List (Value 0)) (k : ℕ) (s : Signed xs cs k) → AllWritten ℤD (identity ℤR) (ValueF 0) ℤ_inside (bases cs) gens xs (signs xs cs k s) (rows_from cs k (length xs))
  unfolding signs
  written [] k s = tt
  written (x ∷ xs) k s = (s.0, sign_unit s.1, same_similar (ValueF 0) x (sign s.1 *ᵛ powers (ValueF 0) (map (λ n. fraction_value n 1) (bases cs)) (row_at cs k)) (sign_value s.1 ∙ ap (λ (y : Value 0). sign s.1 *ᵛ y) (sym (powers-row cs k))), written xs (suc k) s.2)

  pub are_exponents : (xs : List (Value 0)) → Signed xs cs 0 → AreExponents xs (rows_from cs 0 (length xs))
  are_exponents xs s = record {
    rows_sized = rows_length cs 0 (length xs);
    width = length cs;
    sized = rows_sized cs 0 (length xs);
    law = λ es l.
        let w = numbers_law (bases cs) gens xs (signs xs cs 0 s) (rows_from cs 0 (length xs)) (written xs 0 s) es in (
          λ h. zeros_all (bases cs) (total es (rows_from cs 0 (length xs))) (rw (length-bases cs) (length-total cs 0 (length xs) es)) (w.0 h),
          λ z. w.1 (all_zeros (bases cs) (total es (rows_from cs 0 (length xs))) z),
        );
  }
