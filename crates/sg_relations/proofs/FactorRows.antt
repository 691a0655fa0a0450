-- The rows of refined factors, joined with those of the leading coefficients.
--   unmet_apart            polynomials that have no common divisor, at no shift or as they are, are apart
--   generators             refined factors are generators
--   parts_of               each rational function as its leading coefficient times a product
--   constant_rows          over the shift 0: the rows are exponents
use Rattle.std.proofs.Common.{◌≡◌, ℕ, zero, suc, ◌+◌, ◌<◌, ◌≤◌, refl, sym, subst, ap, ap₂, ◌∙◌, List, [], ◌∷◌, ◌++◌, map, length, get_or, All, inl, inr, ◌↔◌, ℤ, pos, negsuc, ◌+ℤ◌, ◌*ℤ◌, arith}
use Rattle.sg_algebra.specs.Coefficients.{Each}
use Rattle.sg_algebra.proofs.Solver.{ring, reads}
use Rattle.sg_algebra.proofs.Field.{domain, product_ne}
use Rattle.sg_algebra.proofs.Divides.{Divides, iter}
use Rattle.sg_algebra.proofs.Coprime.{Coprime, coprime_symm, coprime_same, coprime_on}
use Rattle.sg_algebra.proofs.PolynomialRing.{PolyR}
use Rattle.sg_algebra.proofs.Shift.{moved, movedH, moved-moved, moved_cong, moved-O}
use Rattle.sg_algebra.proofs.Value.{Value, ◌*ᵛ◌, zero_value, one_value}
use Rattle.sg_algebra.proofs.ValueField.{ValueR, ValueF, value_mul-inv}
use Rattle.sg_algebra.proofs.Rational.{whole_value}
use Rattle.sg_algebra.proofs.Embedding.{constant_value, constant_value_zero}
use Rattle.sg_algebra.proofs.Polynomial.{Polynomial, PolynomialR, PolynomialD, ListR, poly, poly_cong, constant, zero_polynomial, one_polynomial}
use Rattle.sg_dispersion_theory.proofs.Listed.{coprime_poly, poly_coprime}
use Rattle.sg_poly.proofs.Dividers.{monic_some, constants}
use Rattle.sg_spread.specs.Shifts.{Meets}
use Rattle.sg_spread.proofs.Apart.{meets_or_coprime}
use Rattle.sg_first_order_theory.proofs.Next.{nextH, iter_next}
use Rattle.sg_first_order_theory.proofs.ValueFractions.{whole, whole-zero, value_fractions}
use Rattle.sg_constant.proofs.Plans.{constant_none}
use Rattle.sg_reduction_theory.proofs.Moves.{whole-constant}
use Rattle.sg_ratfun.specs.Fractions.{ratio}
use Rattle.sg_tower_theory.specs.Powers.{powers}
use Rattle.sg_relations_theory.specs.Rows.{sum_row, multiple_row, total}
use Rattle.sg_relations_theory.specs.Relations.{AllZero, AreExponents}
use Rattle.sg_relations_theory.proofs.PowerLaws.{Some}
use Rattle.sg_relations_theory.proofs.Apart.{Apart, apart_symm}
use Rattle.sg_relations_theory.proofs.RatioTheorem.{Inside}
use Rattle.sg_relations_theory.proofs.Generators.{AreGenerators, AllApart, Zeros}
use Rattle.sg_relations_theory.proofs.WrittenRows.{UnitValue, AllWritten}
use Rattle.sg_relations_theory.proofs.Similar.{similar_same, similar-mul, similar_refl}
use Rattle.sg_relations_theory.proofs.ExponentLaws.{plain_apart, functions_law}
use Rattle.sg_relations.specs.declared.factors.Factor.{Factor}
use Rattle.sg_relations.specs.declared.factors.Shifts.{Shifts}
use Rattle.sg_relations.specs.declared.factors.Shifts.TheVariants.{All as Every, Zero}
use Rattle.sg_relations.specs.Factors.{field_map, polynomial_map, AreAlike, base_of, factor_at, product_at, IsFactor, IsProper, AreUnmet, ArePairwise}
use Rattle.sg_relations.specs.Parts.{lead, AreFactors, row_at, joined_from}
use Rattle.sg_relations.proofs.Splitting.{moved_zero, factors_some}

-- ---- Rational functions as constants times products

-- the k-th element and those after it
abbrev PartsFrom : {K : Type 0} {d : ℕ} → (K → Value d) → List (List K × List K) → List K → List (Factor K) → ℕ → Type 0
PartsFrom v [] ls cs k = Unit {0}
PartsFrom v (r ∷ rs) [] cs k = ⊥
PartsFrom {K} {d} v (r ∷ rs) (l ∷ ls) cs k = ((¬ (v l ≡ zero_value)) × (ratio v r ≡ constant_value d (v l) *ᵛ product_at v cs k)) × PartsFrom v rs ls cs (suc k)

pub record AreParts {K : Type 0} {d : ℕ} (v : K → Value d) (rs : List (List K × List K)) (ls : List K) (cs : List (Factor K)) : Type 0 where
  pub number : length ls ≡ length rs
  pub parts : PartsFrom v rs ls cs 0
  pub monic : All (IsFactor v) cs

pub parts_of : {K : Type 0} {d : ℕ} (v : K → Value d) (rs : List (List K × List K)) (ls : List K) (cs : List (Factor K)) → map v ls ≡ map (lead v) rs → All (λ r. ¬ (ratio v r ≡ zero_value)) rs → AreFactors v rs cs → AreParts v rs ls cs
parts_of {K} {d} v rs ls cs same some are = record { number = number rs ls same; parts = from rs ls 0 same some (λ j r l. subst (λ (k : ℕ). ratio v (get_or rs j r) ≡ constant_value d (lead v (get_or rs j r)) *ᵛ product_at v cs k) (nothing j) (are.done j r l)); monic = are.monic }
  where
    nothing : (j : ℕ) → j ≡ 0 + j
    nothing j = omega arith

    number : (rs : List (List K × List K)) (ls : List K) → map v ls ≡ map (lead v) rs → length ls ≡ length rs
    number [] [] e = refl
    number [] (l ∷ ls) e = cc
    number (r ∷ rs) [] e = cc
    number (r ∷ rs) (l ∷ ls) e = let q : map v ls ≡ map (lead v) rs = cc in ap suc (number rs ls q)

    some_constant : (c : Value d) (x y : Value (suc d)) → ¬ (x ≡ zero_value) → x ≡ constant_value d c *ᵛ y → ¬ (c ≡ zero_value)
    some_constant c x y h e z = h (e ∙ ap (λ (a : Value d). constant_value d a *ᵛ y) z ∙ ap (λ (a : Value (suc d)). a *ᵛ y) constant-zero ∙ ring (ValueR (suc d)) (y ∷ []) (search reads depth 12) refl)
      where
        constant-zero : constant_value d zero_value ≡ zero_value
        constant-zero = sym (whole-constant zero_value) ∙ ap whole (constant_none zero_value refl) ∙ whole-zero d

    from : (rs : List (List K × List K)) (ls : List K) (k : ℕ) → map v ls ≡ map (lead v) rs → All (λ r. ¬ (ratio v r ≡ zero_value)) rs
        → ((j : ℕ) (r : List K × List K) → j < length rs → ratio v (get_or rs j r) ≡ constant_value d (lead v (get_or rs j r)) *ᵛ product_at v cs (k + j)) → PartsFrom v rs ls cs k
    from [] ls k e some h = tt
    from (r ∷ rs) [] k e some h = cc
    from (r ∷ rs) (l ∷ ls) k e some h =
        let first : v l ≡ lead v r = cc in
        let rest : map v ls ≡ map (lead v) rs = cc in
        let is : ratio v r ≡ constant_value d (v l) *ᵛ product_at v cs k = h 0 r (omega arith) ∙ ap₂ (λ (c : Value d) (j : ℕ). constant_value d c *ᵛ product_at v cs j) (sym first) (at k) in (
          (some_constant (v l) (ratio v r) (product_at v cs k) (some 0 r (omega arith)) is, is),
          from rs ls (suc k) rest (λ j x q. some (suc j) x (omega arith)) (λ j x q. subst (λ (i : ℕ). ratio v (get_or rs j x) ≡ constant_value d (lead v (get_or rs j x)) *ᵛ product_at v cs i) (next k j) (h (suc j) x (omega arith))),
        )
      where
        at : (k : ℕ) → k + 0 ≡ k
        at k = omega arith

        next : (k j : ℕ) → k + suc j ≡ suc k + j
        next k j = omega arith

-- ---- Polynomials that don't meet

module _ {d : ℕ} where
  unmet_coprime : (a b : List (Value d)) (m : ℤ) → ¬ (poly a ≡ zero_polynomial) → ¬ Meets a b m → Coprime (PolynomialR d) (poly a) (poly (moved (ValueR d) (whole_value d m) b))
  unmet_coprime a b m some none = elim (meets_or_coprime a b m some) [ inl k ↦ absurd (none k) | inr c ↦ c ]

  pub unmet_everywhere : (a b : List (Value d)) → ¬ (poly a ≡ zero_polynomial) → ((m : ℤ) → ¬ Meets a b m) → Apart (PolynomialR d) (nextH d) (poly a) (poly b)
  unmet_everywhere a b some none = record { ahead = ahead; behind = λ m. behind m }
    where
      ahead : (m : ℕ) → Coprime (PolynomialR d) (poly a) (iter (PolynomialR d) (nextH d) m (poly b))
      ahead m = coprime_same (PolynomialR d) (poly a) (poly (moved (ValueR d) (whole_value d (pos m)) b)) (poly a) (iter (PolynomialR d) (nextH d) m (poly b)) refl (sym (iter_next m b)) (unmet_coprime a b (pos m) some (none (pos m)))

      behind : (m : ℕ) → Coprime (PolynomialR d) (poly b) (iter (PolynomialR d) (nextH d) m (poly a))
      behind zero = coprime_symm (PolynomialR d) (poly a) (poly b) (ahead zero)
      behind (suc n) = coprime_same (PolynomialR d) (poly (moved (ValueR d) (whole_value d (pos (suc n))) (moved (ValueR d) (whole_value d (negsuc n)) b))) (poly (moved (ValueR d) (whole_value d (pos (suc n))) a)) (poly b) (iter (PolynomialR d) (nextH d) (suc n) (poly a))
          (poly_cong ((ListR d).trans (moved-moved (ValueR d) (whole_value d (negsuc n)) (whole_value d (pos (suc n))) b)
          ((ListR d).trans (moved_cong (ValueR d) _ zero_value b b (ring (ValueR d) (whole_value d (pos (suc n)) ∷ []) (search reads depth 12) refl) (ListR d).rfl) (moved-O (ValueR d) b))))
          (sym (iter_next (suc n) a))
          (coprime_symm (PolynomialR d) (poly (moved (ValueR d) (whole_value d (pos (suc n))) a)) (poly (moved (ValueR d) (whole_value d (pos (suc n))) (moved (ValueR d) (whole_value d (negsuc n)) b)))
          (coprime_poly (moved (ValueR d) (whole_value d (pos (suc n))) a) (moved (ValueR d) (whole_value d (pos (suc n))) (moved (ValueR d) (whole_value d (negsuc n)) b))
          (coprime_on (PolyR (ValueR d)) (PolyR (ValueR d)) (movedH (ValueR d) (whole_value d (pos (suc n)))) a (moved (ValueR d) (whole_value d (negsuc n)) b)
          (poly_coprime a (moved (ValueR d) (whole_value d (negsuc n)) b) (unmet_coprime a b (negsuc n) some (none (negsuc n)))))))

  -- ---- Constants are units

  constant_unit : (c : Value d) → ¬ (c ≡ zero_value) → Divides (PolynomialR d) (constant c) one_polynomial
  constant_unit c h = record { cofactor = constant (Rattle.sg_algebra.proofs.Value.inv_value c); is = sym (constants c (Rattle.sg_algebra.proofs.Value.inv_value c) (value_mul-inv d c h)) }

-- ---- Rows

sum_row-join : (a b c e : List ℤ) → length a ≡ length c → sum_row (a ++ b) (c ++ e) ≡ sum_row a c ++ sum_row b e
sum_row-join [] b [] e l = refl
sum_row-join [] b (y ∷ c) e l = absurd (omega arith)
sum_row-join (x ∷ a) b [] e l = absurd (omega arith)
sum_row-join (x ∷ a) b (y ∷ c) e l = ap (λ r. (x +ℤ y) ∷ r) (sum_row-join a b c e (omega arith))

multiple-join : (t : ℤ) (a b : List ℤ) → multiple_row t (a ++ b) ≡ multiple_row t a ++ multiple_row t b
multiple-join t [] b = refl
multiple-join t (x ∷ a) b = ap (λ r. (t *ℤ x) ∷ r) (multiple-join t a b)

length-multiple : (t : ℤ) (e : List ℤ) → length (multiple_row t e) ≡ length e
length-multiple t [] = refl
length-multiple t (x ∷ e) = ap suc (length-multiple t e)

length-sum : (a b : List ℤ) → length a ≡ length b → length (sum_row a b) ≡ length a
length-sum [] [] e = refl
length-sum [] (y ∷ b) e = absurd (omega arith)
length-sum (x ∷ a) [] e = absurd (omega arith)
length-sum (x ∷ a) (y ∷ b) e = ap suc (length-sum a b (omega arith))

all_join : (a b : List ℤ) → AllZero (a ++ b) ↔ (AllZero a × AllZero b)
all_join [] b = (λ h. (tt, h), λ h. h.1)
all_join (x ∷ a) b = (λ h. let k = (all_join a b).0 h.1 in ((h.0, k.0), k.1), λ h. (h.0.0, (all_join a b).1 (h.0.1, h.1)))

module _ {K : Type 0} (cs : List (Factor K)) where
  length-row : (i : ℕ) → length (row_at cs i) ≡ length cs
  length-row i = go cs
    where
      go : (cs : List (Factor K)) → length (row_at cs i) ≡ length cs
      go [] = refl
      go (c ∷ cs) = ap suc (go cs)

  -- the rows of the factors alone, for as many elements as there are rows
  abbrev pub own_from : ℕ → List (List ℤ) → List (List ℤ)
  own_from k [] = []
  own_from k (r ∷ rs) = row_at cs k ∷ own_from (suc k) rs

  pub length-joined : (k : ℕ) (rs : List (List ℤ)) → length (joined_from cs k rs) ≡ length rs
  length-joined k [] = refl
  length-joined k (r ∷ rs) = ap suc (length-joined (suc k) rs)

  pub sized-joined : (k w : ℕ) (rs : List (List ℤ)) → Each (λ r. length r ≡ w) rs → Each (λ r. length r ≡ length cs + w) (joined_from cs k rs)
  sized-joined k w [] h = tt
  sized-joined k w (r ∷ rs) h = (length-join (row_at cs k) r ∙ ap₂ ◌+◌ (length-row k) h.0, sized-joined (suc k) w rs h.1)
    where
      length-join : (a b : List ℤ) → length (a ++ b) ≡ length a + length b
      length-join [] b = omega arith
      length-join (x ∷ a) b = let e = length-join a b in omega (arith, e)

  length-own : (es : List ℤ) (e : ℤ) (k : ℕ) (r : List ℤ) (rs : List (List ℤ)) → length (total (e ∷ es) (own_from k (r ∷ rs))) ≡ length cs
  length-own [] e k r rs = nothing (multiple_row e (row_at cs k)) ∙ length-multiple e (row_at cs k) ∙ length-row k
    where
      nothing : (a : List ℤ) → length (sum_row a []) ≡ length a
      nothing [] = refl
      nothing (x ∷ a) = refl
  length-own (f ∷ es) e k r [] = nothing (multiple_row e (row_at cs k)) ∙ length-multiple e (row_at cs k) ∙ length-row k
    where
      nothing : (a : List ℤ) → length (sum_row a []) ≡ length a
      nothing [] = refl
      nothing (x ∷ a) = refl
  length-own (f ∷ es) e k r (s ∷ rs) = length-sum (multiple_row e (row_at cs k)) (total (f ∷ es) (own_from (suc k) (s ∷ rs)))
      (length-multiple e (row_at cs k) ∙ length-row k ∙ sym (length-own es f (suc k) s rs)) ∙ length-multiple e (row_at cs k) ∙ length-row k

  nothing_more : (a : List ℤ) → sum_row a [] ≡ a
  nothing_more [] = refl
  nothing_more (x ∷ a) = refl

  pub total-joined : (es : List ℤ) (k : ℕ) (rs : List (List ℤ)) → total es (joined_from cs k rs) ≡ total es (own_from k rs) ++ total es rs
  total-joined [] k rs = refl
  total-joined (e ∷ es) k [] = refl
  total-joined (e ∷ []) k (r ∷ rs) = nothing_more (multiple_row e (row_at cs k ++ r)) ∙ multiple-join e (row_at cs k) r ∙ sym (ap₂ ◌++◌ (nothing_more (multiple_row e (row_at cs k))) (nothing_more (multiple_row e r)))
  total-joined (e ∷ f ∷ es) k (r ∷ []) = nothing_more (multiple_row e (row_at cs k ++ r)) ∙ multiple-join e (row_at cs k) r ∙ sym (ap₂ ◌++◌ (nothing_more (multiple_row e (row_at cs k))) (nothing_more (multiple_row e r)))
  total-joined (e ∷ f ∷ es) k (r ∷ s ∷ rs) = ap₂ sum_row (multiple-join e (row_at cs k) r) (total-joined (f ∷ es) (suc k) (s ∷ rs))
      ∙ sum_row-join (multiple_row e (row_at cs k)) (multiple_row e r) (total (f ∷ es) (own_from (suc k) (s ∷ rs))) (total (f ∷ es) (s ∷ rs)) (length-multiple e (row_at cs k) ∙ length-row k ∙ sym (length-own es f (suc k) s rs))

  own_short : (es : List ℤ) (k : ℕ) (rs : List (List ℤ)) → length (total es (own_from k rs)) ≤ length cs
  own_short [] k rs = omega arith
  own_short (e ∷ es) k [] = omega arith
  own_short (e ∷ es) k (r ∷ rs) = let q = length-own es e k r rs in omega arith

zeros_all : {A : Type 0} (ps : List A) (y : List ℤ) → length y ≤ length ps → Zeros ps y → AllZero y
zeros_all ps [] l z = tt
zeros_all [] (e ∷ y) l z = absurd (omega arith)
zeros_all (p ∷ ps) (e ∷ y) l z = (z.0, zeros_all ps y (omega arith) z.1)

all_zeros : {A : Type 0} (ps : List A) (y : List ℤ) → AllZero y → Zeros ps y
all_zeros [] y z = tt
all_zeros (p ∷ ps) [] z = tt
all_zeros (p ∷ ps) (e ∷ y) z = (z.0, all_zeros ps y z.1)

-- ---- Generators

module _ {K : Type 0} {d : ℕ} (v : K → Value d) where
  abbrev pub bases : List (Factor K) → List (Polynomial d)
  bases cs = map (base_of v) cs

  length-bases : (cs : List (Factor K)) → length (bases cs) ≡ length cs
  length-bases [] = refl
  length-bases (c ∷ cs) = ap suc (length-bases cs)

  unmet_apart : (s : Shifts) (w : List K) (c : Factor K) → ¬ (poly (map v w) ≡ zero_polynomial) → AreUnmet v s w c → Apart (PolynomialR d) (polynomial_map s d) (poly (map v w)) (base_of v c)
  unmet_apart Every w c some h = unmet_everywhere (map v w) (map v c.base) some h
  unmet_apart Zero w c some h = plain_apart (PolynomialR d) (poly (map v w)) (base_of v c) (subst (λ (x : Polynomial d). Coprime (PolynomialR d) (poly (map v w)) x) (moved_zero (map v c.base)) (unmet_coprime (map v w) (map v c.base) (pos 0) some h))

  each_apart : (s : Shifts) (b : Factor K) (cs : List (Factor K)) → All (IsProper v) cs → ((k : ℕ) (c : Factor K) → k < length cs → AreUnmet v s (get_or cs k c).base b) → Each (Apart (PolynomialR d) (polynomial_map s d) (base_of v b)) (bases cs)
  each_apart s b [] p h = tt
  each_apart s b (c ∷ cs) p h = (
    apart_symm (PolynomialR d) (polynomial_map s d) (base_of v c) (base_of v b) (unmet_apart s c.base b (monic_some (map v c.base) (p 0 c (omega arith)).monic) (h 0 c (omega arith))),
    each_apart s b cs (λ k x l. p (suc k) x (omega arith)) (λ k x l. h (suc k) x (omega arith)),
  )

  all_apart : (s : Shifts) (cs : List (Factor K)) → All (IsProper v) cs → ArePairwise v s cs → AllApart (PolynomialD d) (polynomial_map s d) (bases cs)
  all_apart s [] p h = tt
  all_apart s (c ∷ cs) p h = (
    each_apart s c cs (λ k x l. p (suc k) x (omega arith)) (λ k x l. h 0 (suc k) x (omega arith) (omega arith)),
    all_apart s cs (λ k x l. p (suc k) x (omega arith)) (λ i j x l k. h (suc i) (suc j) x (omega arith) (omega arith)),
  )

  some_each : (cs : List (Factor K)) → All (IsProper v) cs → Each (λ p. ¬ (p ≡ zero_polynomial)) (bases cs)
  some_each [] p = tt
  some_each (c ∷ cs) p = (monic_some (map v c.base) (p 0 c (omega arith)).monic, some_each cs (λ k x l. p (suc k) x (omega arith)))

  proper_each : (cs : List (Factor K)) → All (IsProper v) cs → Each (λ p. ¬ Divides (PolynomialR d) p one_polynomial) (bases cs)
  proper_each [] p = tt
  proper_each (c ∷ cs) p = ((p 0 c (omega arith)).proper, proper_each cs (λ k x l. p (suc k) x (omega arith)))

  pub generators : (s : Shifts) (cs : List (Factor K)) → All (IsProper v) cs → ArePairwise v s cs → AreGenerators (PolynomialD d) (polynomial_map s d) (bases cs)
  generators s cs p h = record { apart = all_apart s cs p h; some = some_each cs p; proper = proper_each cs p }

  powers-row : (cs : List (Factor K)) (i : ℕ) → powers (ValueF (suc d)) (map whole (bases cs)) (row_at cs i) ≡ product_at v cs i
  powers-row [] i = refl
  powers-row (c ∷ cs) i = ap (λ (y : Value (suc d)). factor_at v c i *ᵛ y) (powers-row cs i)

  -- the polynomials in the field, with the map
  abbrev pub in_field : (s : Shifts) → Inside (PolynomialD d) (ValueF (suc d))
  in_field s = record {
    ι = whole;
    ι_cong = (value_fractions d).ι_cong;
    ι_same = (value_fractions d).ι_same;
    ι-mul = (value_fractions d).ι-mul;
    ι-one = (value_fractions d).ι-one;
    ι-zero = (value_fractions d).ι-zero;
    τ = field_map s d;
  }

  abbrev pub values : List (List K × List K) → List (Value (suc d))
  values rs = map (ratio v) rs

  abbrev pub leads : List K → List (Value d)
  leads ls = map v ls

  pub unit_of : (s : Shifts) (c : Value d) → ¬ (c ≡ zero_value) → UnitValue (PolynomialD d) (polynomial_map s d) (ValueF (suc d)) (in_field s) (constant_value d c)
  unit_of s c h = record { u = constant c; unit = constant_unit c h; is = sym (whole-constant c) }

  constant_some : (c : Value d) → ¬ (c ≡ zero_value) → Some (ValueF (suc d)) (constant_value d c)
  constant_some c h z = h (constant_value_zero d c z)

  pub length-values : (rs : List (List K × List K)) → length (values rs) ≡ length rs
  length-values [] = refl
  length-values (r ∷ rs) = ap suc (length-values rs)

  pub length-leads : (ls : List K) → length (leads ls) ≡ length ls
  length-leads [] = refl
  length-leads (l ∷ ls) = ap suc (length-leads ls)

  pub leads_some : (rs : List (List K × List K)) (ls : List K) (cs : List (Factor K)) (k : ℕ) → PartsFrom v rs ls cs k → length ls ≡ length rs → Each (Some (ValueF d)) (leads ls)
  leads_some rs [] cs k p l = tt
  leads_some [] (x ∷ ls) cs k p l = absurd (omega arith)
  leads_some (r ∷ rs) (x ∷ ls) cs k p l = (p.0.0, leads_some rs ls cs (suc k) p.1 (omega arith))

  module _ (s : Shifts) (basis start : List (Factor K)) (proper : All (IsProper v) basis) (pairwise : ArePairwise v s basis) (monic : All (IsFactor v) start)
      (kept : (i : ℕ) → AreAlike s (product_at v start i) (product_at v basis i)) where
    abbrev gens : AreGenerators (PolynomialD d) (polynomial_map s d) (bases basis)
    gens = generators s basis proper pairwise

    pub written : (rs : List (List K × List K)) (ls : List K) (rows : List (List ℤ)) (k : ℕ) → PartsFrom v rs ls start k → length ls ≡ length rs → length rows ≡ length ls
        → AllWritten (PolynomialD d) (polynomial_map s d) (ValueF (suc d)) (in_field s) (bases basis) gens (values rs) (map (constant_value d) (leads ls)) (own_from basis k rows)
    written [] [] [] k p e q = tt
    written [] [] (row ∷ rows) k p e q = absurd (omega arith)
    written [] (l ∷ ls) rows k p e q = absurd (omega arith)
    written (r ∷ rs) [] rows k p e q = absurd p
    written (r ∷ rs) (l ∷ ls) [] k p e q = absurd (omega arith)
    written (r ∷ rs) (l ∷ ls) (row ∷ rows) k p e q = (
      (λ z. product_ne (domain (ValueF (suc d))) (constant_some (v l) p.0.0) (factors_some v start k monic) (sym p.0.1 ∙ z)),
      unit_of s (v l) p.0.0,
      similar_same (ValueF (suc d)) (field_map s d) (constant_value d (v l) *ᵛ product_at v start k) (constant_value d (v l) *ᵛ product_at v basis k) (ratio v r) (constant_value d (v l) *ᵛ powers (ValueF (suc d)) (map whole (bases basis)) (row_at basis k))
          (sym p.0.1) (ap (λ (y : Value (suc d)). constant_value d (v l) *ᵛ y) (sym (powers-row basis k)))
          (similar-mul (ValueF (suc d)) (field_map s d) (constant_value d (v l)) (constant_value d (v l)) (product_at v start k) (product_at v basis k) (similar_refl (ValueF (suc d)) (field_map s d) (constant_value d (v l))) (kept k)),
      written rs ls rows (suc k) p.1 (omega arith) (omega arith),
    )

    -- the rows of the factors send exponents to 0, and so do the others: both, joined
    pub both : (es : List ℤ) (rows : List (List ℤ)) → (Zeros (bases basis) (total es (own_from basis 0 rows)) × AllZero (total es rows)) ↔ AllZero (total es (joined_from basis 0 rows))
    both es rows = (
      (λ h. subst AllZero (sym (total-joined basis es 0 rows)) ((all_join (total es (own_from basis 0 rows)) (total es rows)).1
          (zeros_all (bases basis) (total es (own_from basis 0 rows)) (subst (λ (n : ℕ). length (total es (own_from basis 0 rows)) ≤ n) (sym (length-bases basis)) (own_short basis es 0 rows)) h.0, h.1))),
      (λ h. let k = (all_join (total es (own_from basis 0 rows)) (total es rows)).0 (subst AllZero (total-joined basis es 0 rows) h) in (all_zeros (bases basis) (total es (own_from basis 0 rows)) k.0, k.1)),
    )

  pub constant_rows : (basis start : List (Factor K)) → All (IsProper v) basis → ArePairwise v Zero basis → ((i : ℕ) → AreAlike Zero (product_at v start i) (product_at v basis i)) → (rs : List (List K × List K)) (ls : List K) → AreParts v rs ls start
      → (rows : List (List ℤ)) → AreExponents (leads ls) rows → AreExponents (values rs) (joined_from basis 0 rows)
  constant_rows basis start proper pairwise kept rs ls parts rows exps = record {
    rows_sized = length-joined basis 0 rows ∙ exps.rows_sized ∙ length-leads ls ∙ parts.number ∙ sym (length-values rs);
    width = length basis + exps.width;
    sized = sized-joined basis 0 exps.width rows exps.sized;
    law = λ es l.
        let w = functions_law d (bases basis) (generators Zero basis proper pairwise) (values rs) (leads ls) (leads_some rs ls start 0 parts.parts parts.number) (own_from basis 0 rows)
        (written Zero basis start proper pairwise parts.monic kept rs ls rows 0 parts.parts parts.number (exps.rows_sized ∙ length-leads ls)) es in
        let e = exps.law es (l ∙ length-values rs ∙ sym parts.number ∙ sym (length-leads ls)) in
        let b = both Zero basis start proper pairwise parts.monic kept es rows in
        (λ h. let z = w.0 h in b.0 (z.0, e.0 z.1), λ h. let z = b.1 h in w.1 (z.0, e.1 z.1));
  }
