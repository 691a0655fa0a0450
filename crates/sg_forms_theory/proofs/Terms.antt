-- The terms of an element.
--   one_flat          equal elements have one list of terms in descending order
--   LiesBelow n m es  of the exponents of n sums, the last first, those from the sum m on are 0
--   terms_below       an element that holds no sum from m on has such terms alone
use Rattle.std.proofs.Common.{◌≡◌, ℕ, zero, suc, ◌+◌, ◌<◌, ◌≤◌, ℤ, pos, negsuc, ◌<ℤ◌, refl, sym, ap, ap₂, ◌∙◌, subst, List, [], ◌∷◌, length, reverse, ◌⊎◌, inl, inr, arith}
use Rattle.std.proofs.lemmas.Int.{ints}
use Rattle.std.proofs.lemmas.Bool.{cases_order}
use Rattle.std.proofs.lemmas.List.{length-reverse, reverse-reverse}
use Rattle.sg_algebra.specs.Ring.{Ring}
use Rattle.sg_algebra.specs.Coefficients.{Each, coef}
use Rattle.sg_algebra.proofs.Solver.{ring, by, reads}
use Rattle.sg_algebra.proofs.Value.{Value, ◌+ᵛ◌, zero_value}
use Rattle.sg_algebra.proofs.ValueField.{ValueR}
use Rattle.sg_tower_theory.proofs.Nested.{NestedR}
use Rattle.sg_tower_theory.proofs.Formal.{Formal, Element, elements, base}
use Rattle.sg_tower_theory.proofs.Flat.{Term, IsAfter, DescendingTerms, IsFlat, of_term, of_terms, exponent_of, without_first}
use Rattle.sg_value_theory.proofs.TowerOf.{HoldsIn, HoldsBelow}
use Rattle.sg_value_theory.proofs.FlatValues.{Fits, Differ, differ-sym, coef_in, coef_in_cong, coef_in-add, coef_in-zero, coef_in-other, one, all, AllFit, coefficients-are}
use Rattle.sg_value_theory.proofs.FlatTerms.{after_trans, after-differ, fits_flat, descending-apart}

-- ---- Which of two lists comes first

abbrev Order : ℤ → ℤ → Type 0
Order a b = (a <ℤ b) ⊎ ((a ≡ b) ⊎ (b <ℤ a))

whole_cases : (a b : ℤ) → Order a b
whole_cases (pos m) (pos n) = go (cases_order m n)
  where
    go : (m ≡ n) ⊎ ((m < n) ⊎ (n < m)) → Order (pos m) (pos n)
    go (inl e) = inr (inl (ap pos e))
    go (inr (inl l)) = inl (omega (arith, ints, l))
    go (inr (inr l)) = inr (inr (omega (arith, ints, l)))
whole_cases (pos m) (negsuc n) = inr (inr (omega (arith, ints)))
whole_cases (negsuc m) (pos n) = inl (omega (arith, ints))
whole_cases (negsuc m) (negsuc n) = go (cases_order m n)
  where
    go : (m ≡ n) ⊎ ((m < n) ⊎ (n < m)) → Order (negsuc m) (negsuc n)
    go (inl e) = inr (inl (ap negsuc e))
    go (inr (inl l)) = inr (inr (omega (arith, ints, l)))
    go (inr (inr l)) = inl (omega (arith, ints, l))

abbrev Comes : List ℤ → List ℤ → Type 0
Comes es fs = IsAfter es fs ⊎ ((es ≡ fs) ⊎ IsAfter fs es)

after_cases : (es fs : List ℤ) → length es ≡ length fs → Comes es fs
after_cases [] [] l = inr (inl refl)
after_cases [] (f ∷ fs) l = absurd (omega (arith, l))
after_cases (e ∷ es) [] l = absurd (omega (arith, l))
after_cases (e ∷ es) (f ∷ fs) l = go (whole_cases e f) (after_cases es fs (omega (arith, l)))
  where
    go : Order e f → Comes es fs → Comes (e ∷ es) (f ∷ fs)
    go (inl h) i = inr (inr (inl h))
    go (inr (inr h)) i = inl (inl h)
    go (inr (inl h)) (inl i) = inl (inr (h, i))
    go (inr (inl h)) (inr (inl i)) = inr (inl (ap₂ ◌∷◌ h i))
    go (inr (inl h)) (inr (inr i)) = inr (inr (inr (sym h, i)))

-- ---- One list of terms

module _ {d : ℕ} (αs : List (Value (suc d))) (n : ℕ) where
  abbrev E : Ring
  E = NestedR (base αs) n

  -- the coefficient at exponents that differ from those of all terms
  none : (es : List ℤ) → Fits αs n es → (ts : List (Term d)) → AllFit αs n ts → Each (λ u. Differ n es (reverse u.exponents)) ts → coef_in αs n es (all αs n ts) ≡ zero_value
  none es l [] f h = coef_in-zero αs n es
  none es l (u ∷ ts) f h =
      coef_in-add αs n es (one αs n u) (all αs n ts)
      ∙ ap₂ ◌+ᵛ◌ (coef_in-other αs n es (reverse u.exponents) u.coefficient l f.0 (differ-sym n es (reverse u.exponents) h.0)) (none es l ts f.1 h.1)
      ∙ ring (ValueR (suc d)) [] (search reads depth 16) refl

  first : (t : Term d) (ts : List (Term d)) → AllFit αs n (t ∷ ts) → DescendingTerms (t ∷ ts) → coef_in αs n (reverse t.exponents) (all αs n (t ∷ ts)) ≡ t.coefficient
  first t ts f h = (coefficients-are αs n (t ∷ ts) f (descending-apart αs n (t ∷ ts) f h)).0

  -- exponents that come after those of the first term come after all
  above_all : (es : List ℤ) → Fits αs n es → (u : Term d) (ts : List (Term d)) → AllFit αs n (u ∷ ts) → DescendingTerms (u ∷ ts) → IsAfter es (reverse u.exponents) → Each (λ w. Differ n es (reverse w.exponents)) (u ∷ ts)
  above_all es l u [] f h a = (after-differ αs n es (reverse u.exponents) l f.0 a, tt)
  above_all es l u (w ∷ ts) f h a = (after-differ αs n es (reverse u.exponents) l f.0 a, above_all es l w ts f.1 h.1 (after_trans es (reverse u.exponents) (reverse w.exponents) a h.0))

  rest : (t : Term d) (ts : List (Term d)) → DescendingTerms (t ∷ ts) → DescendingTerms ts
  rest t [] h = tt
  rest t (u ∷ ts) h = h.1

  cancelled : (a x y : E.A) → E.◌≈◌ (E.◌⊞◌ a x) (E.◌⊞◌ a y) → E.◌≈◌ x y
  cancelled a x y h = by E (a ∷ x ∷ y ∷ []) h (search reads depth 16) refl

  abbrev made : List ℤ → Value (suc d) → Term d
  made es c = record { exponents = es; coefficient = c }

  -- a first term whose exponents come after those of all terms on the other side has the coefficient 0
  alone : (t : Term d) (ts us : List (Term d)) → AllFit αs n (t ∷ ts) → DescendingTerms (t ∷ ts) → AllFit αs n us → Each (λ w. Differ n (reverse t.exponents) (reverse w.exponents)) us → E.◌≈◌ (all αs n (t ∷ ts)) (all αs n us) → t.coefficient ≡ zero_value
  alone t ts us f h g a e = sym (first t ts f h) ∙ coef_in_cong αs n (reverse t.exponents) (all αs n (t ∷ ts)) (all αs n us) e ∙ none (reverse t.exponents) f.0 us g a

  pub one_list : (m : ℕ) (ts us : List (Term d)) → Each (λ t. length t.exponents ≡ m) ts → Each (λ t. length t.exponents ≡ m) us → AllFit αs n ts → AllFit αs n us → DescendingTerms ts → DescendingTerms us
      → Each (λ t. ¬ (t.coefficient ≡ zero_value)) ts → Each (λ t. ¬ (t.coefficient ≡ zero_value)) us → E.◌≈◌ (all αs n ts) (all αs n us) → ts ≡ us
  one_list m [] [] a b f g h k y z e = refl
  one_list m [] (u ∷ us) a b f g h k y z e = absurd (z.0 (alone u us [] g k f tt (E.symm e)))
  one_list m (t ∷ ts) [] a b f g h k y z e = absurd (y.0 (alone t ts [] f h g tt e))
  one_list m (t ∷ ts) (u ∷ us) a b f g h k y z e =
      go (after_cases (reverse t.exponents) (reverse u.exponents) (length-reverse t.exponents ∙ a.0 ∙ sym b.0 ∙ sym (length-reverse u.exponents))) (one_list m ts us a.1 b.1 f.1 g.1 (rest t ts h) (rest u us k) y.1 z.1)
    where
      go : Comes (reverse t.exponents) (reverse u.exponents) → (E.◌≈◌ (all αs n ts) (all αs n us) → ts ≡ us) → t ∷ ts ≡ u ∷ us
      go (inl c) again = absurd (y.0 (alone t ts (u ∷ us) f h g (above_all (reverse t.exponents) f.0 u us g k c) e))
      go (inr (inr c)) again = absurd (z.0 (alone u us (t ∷ ts) g k f (above_all (reverse u.exponents) g.0 t ts f h c) (E.symm e)))
      go (inr (inl c)) again =
          let exponents : t.exponents ≡ u.exponents = sym (reverse-reverse t.exponents) ∙ ap reverse c ∙ reverse-reverse u.exponents in
          let coefficient : t.coefficient ≡ u.coefficient =
          sym (first t ts f h) ∙ coef_in_cong αs n (reverse t.exponents) (all αs n (t ∷ ts)) (all αs n (u ∷ us)) e ∙ ap (λ (es : List ℤ). coef_in αs n es (all αs n (u ∷ us))) c ∙ first u us g k in
          let same : t ≡ u = ap₂ (λ (es : List ℤ) (x : Value (suc d)). made es x) exponents coefficient in
          ap₂ ◌∷◌ same (again (cancelled (one αs n u) (all αs n ts) (all αs n us) (subst (λ (w : Term d). E.◌≈◌ (E.◌⊞◌ (one αs n w) (all αs n ts)) (all αs n (u ∷ us))) same e)))

all-is : {d : ℕ} (f : Formal d) (ts : List (Term d)) → of_terms f ts ≡ all f.products f.sums ts
all-is f [] = refl
all-is f (t ∷ ts) = ap (λ x. (elements f).◌⊞◌ (of_term f t) x) (all-is f ts)

pub one_flat : {d : ℕ} (f : Formal d) (x y : Element f) (ts us : List (Term d)) → (elements f).◌≈◌ x y → IsFlat f x ts → IsFlat f y us → ts ≡ us
one_flat {d} f x y ts us e h k =
    one_list f.products f.sums (length f.products + f.sums) ts us h.sized k.sized (fits_flat f ts h.sized h.natural) (fits_flat f us k.sized k.natural) h.descending k.descending h.nonzero k.nonzero
    (subst (λ (z : Element f). (elements f).◌≈◌ z (all f.products f.sums us)) (all-is f ts)
    (subst (λ (z : Element f). (elements f).◌≈◌ (of_terms f ts) z) (all-is f us)
    ((elements f).trans ((elements f).symm h.same) ((elements f).trans e k.same))))

-- ---- Terms below a sum

-- exponents with the last first: those of the sums from m on are 0
abbrev pub LiesBelow : ℕ → ℕ → List ℤ → Type 0
LiesBelow zero m es = Unit {0}
LiesBelow (suc n) m es = (m ≤ n → exponent_of es ≡ 0) × LiesBelow n m (without_first es)

module _ {d : ℕ} (αs : List (Value (suc d))) where
  zero_or_more : (e : ℕ) → (e ≡ 0) ⊎ ((k : ℕ) × (e ≡ suc k))
  zero_or_more zero = inl refl
  zero_or_more (suc k) = inr (k, refl)

  lies : (n m : ℕ) (es : List ℤ) (x : (NestedR (base αs) n).A) → HoldsIn αs n m x → ¬ (coef_in αs n es x ≡ zero_value) → LiesBelow n m es
  lies zero m es x h z = tt
  lies (suc n) m es x h z = cases (λ y i w. lies n m (without_first es) y i w) (leb_or m n)
    where
      leb_or : (m n : ℕ) → (m ≤ n) ⊎ (n < m)
      leb_or m n = grind arith

      past : (k : ℕ) (y : (NestedR (base αs) n).A) → (NestedR (base αs) (suc n)).◌≈◌ x (y ∷ []) → exponent_of es ≡ suc k → coef_in αs (suc n) es x ≡ zero_value
      past k y e is =
          coef_in_cong αs (suc n) es x (y ∷ []) e
          ∙ ap (λ (i : ℕ). coef_in αs n (without_first es) (coef (NestedR (base αs) n) (y ∷ []) i)) is
          ∙ coef_in-zero αs n (without_first es)

      at : (y : (NestedR (base αs) n).A) → (NestedR (base αs) (suc n)).◌≈◌ x (y ∷ []) → exponent_of es ≡ 0 → coef_in αs (suc n) es x ≡ coef_in αs n (without_first es) y
      at y e is = coef_in_cong αs (suc n) es x (y ∷ []) e ∙ ap (λ (i : ℕ). coef_in αs n (without_first es) (coef (NestedR (base αs) n) (y ∷ []) i)) is

      below : ((y : (NestedR (base αs) n).A) → HoldsIn αs n m y → ¬ (coef_in αs n (without_first es) y ≡ zero_value) → LiesBelow n m (without_first es)) → (l : m ≤ n) → (exponent_of es ≡ 0) ⊎ ((k : ℕ) × (exponent_of es ≡ suc k)) → LiesBelow (suc n) m es
      below lower l (inr k) = absurd (z (past k.0 (h l).0 (h l).1 k.1))
      below lower l (inl e) = (λ i. e, lower (h l).0 (h l).2 (λ w. z (at (h l).0 (h l).1 e ∙ w)))

      cases : ((y : (NestedR (base αs) n).A) → HoldsIn αs n m y → ¬ (coef_in αs n (without_first es) y ≡ zero_value) → LiesBelow n m (without_first es)) → (m ≤ n) ⊎ (n < m) → LiesBelow (suc n) m es
      cases lower (inl l) = below lower l (zero_or_more (exponent_of es))
      cases lower (inr l) = (λ i. absurd (omega (arith, i, l)), all_below n m (without_first es) (omega (arith, l)))
        where
          all_below : (n m : ℕ) (es : List ℤ) → n ≤ m → LiesBelow n m es
          all_below zero m es l = tt
          all_below (suc n) m es l = (λ i. absurd (omega (arith, i, l)), all_below n m (without_first es) (omega (arith, l)))

module _ {d : ℕ} (f : Formal d) (m : ℕ) (x : Element f) (h : HoldsBelow f m x) where
  terms_lie : (all-of ts : List (Term d)) → (elements f).◌≈◌ x (all f.products f.sums all-of) → Each (λ t. coef_in f.products f.sums (reverse t.exponents) (all f.products f.sums all-of) ≡ t.coefficient) ts
      → Each (λ t. ¬ (t.coefficient ≡ zero_value)) ts → Each (λ t. LiesBelow f.sums m (reverse t.exponents)) ts
  terms_lie all-of [] e c z = tt
  terms_lie all-of (t ∷ ts) e c z = (
    lies f.products f.sums m (reverse t.exponents) x h (λ w. z.0 (sym c.0 ∙ sym (coef_in_cong f.products f.sums (reverse t.exponents) x (all f.products f.sums all-of) e) ∙ w)),
    terms_lie all-of ts e c.1 z.1,
  )

  pub terms_below : (ts : List (Term d)) → IsFlat f x ts → Each (λ t. LiesBelow f.sums m (reverse t.exponents)) ts
  terms_below ts k =
      let fit = fits_flat f ts k.sized k.natural in
      terms_lie ts ts (subst (λ (z : Element f). (elements f).◌≈◌ x z) (all-is f ts) k.same) (coefficients-are f.products f.sums ts fit (descending-apart f.products f.sums ts fit k.descending)) k.nonzero
