-- The terms of a polynomial in t, from the terms of its coefficients.
--   raised_term n t       a term times t^n
--   of_terms-append       the terms of two lists one behind the other stand for the sum
--   of_terms-raised       terms times t^n stand for the element times t^n
--   flat_start, flat_next, flat_end    the terms of the powers from some k on
use Rattle.std.proofs.Common.{◌≡◌, ℕ, zero, suc, ◌+◌, ◌<◌, ◌≤◌, refl, sym, ap, subst, List, [], ◌∷◌, ◌++◌, map, length, reverse, drop, get_or, ◌⊎◌, inl, inr, arith, ℤ, pos, ◌≤ℤ◌, ◌<ℤ◌}
use Rattle.std.proofs.lemmas.Int.{ints}
use Rattle.std.proofs.lemmas.List.{reverse-append, drop-append-le, length-append, map-append}
use Rattle.sg_algebra.specs.Ring.{Ring}
use Rattle.sg_algebra.specs.Coefficients.{coef, Each}
use Rattle.sg_algebra.proofs.Ring.{O_add}
use Rattle.sg_algebra.proofs.PolynomialRing.{PolyR, coef-zip}
use Rattle.sg_algebra.proofs.Value.{Value, zero_value}
use Rattle.sg_tower_theory.proofs.Above.{monomial, monomial-at, monomial-past, monomials-add, monomials-none}
use Rattle.sg_tower_theory.proofs.Formal.{Formal, Element, elements, shifted, one_more}
use Rattle.sg_tower_theory.proofs.Flat.{Term, IsAfter, of_term, of_terms, raised_to, DescendingTerms, IsLowestForm, IsFlat}
use Rattle.sg_tower.specs.declared.flat.FlatTerm.{FlatTerm}
use Rattle.sg_tower.specs.Elements.{Reading, raised}
use Rattle.sg_tower.specs.Terms.{term_of, HasTerms}
use Rattle.sg_sums.proofs.Building.{at_read, at_past}
use Rattle.sg_sums.specs.Flattened.{with_power, EndsFrom, IsFlatFrom}

each_append : {X : Type 0} (P : X → Type 0) (xs ys : List X) → Each P xs → Each P ys → Each P (xs ++ ys)
each_append P [] ys h k = k
each_append P (x ∷ xs) ys h k = (h.0, each_append P xs ys h.1 k)

each_into : {X Y : Type 0} (P : X → Type 0) (Q : Y → Type 0) (g : X → Y) (xs : List X) → ((x : X) → P x → Q (g x)) → Each P xs → Each Q (map g xs)
each_into P Q g [] h e = tt
each_into P Q g (x ∷ xs) h e = (h x e.0, each_into P Q g xs h e.1)

turned : (es : List ℤ) (n : ℕ) → reverse (es ++ pos n ∷ []) ≡ pos n ∷ reverse es
turned es n = reverse-append es (pos n ∷ [])

module _ {d : ℕ} where
  abbrev pub raised_term : ℕ → Term d → Term d
  raised_term n t = record { exponents = t.exponents ++ pos n ∷ []; coefficient = t.coefficient }

  after_raised : (n : ℕ) (t u : Term d) → IsAfter (reverse t.exponents) (reverse u.exponents) → IsAfter (reverse (raised_term n t).exponents) (reverse (raised_term n u).exponents)
  after_raised n t u h = rw (turned t.exponents n, turned u.exponents n) (inr (refl, h))

  descending_raised : (n : ℕ) (us : List (Term d)) → DescendingTerms us → DescendingTerms (map (raised_term n) us)
  descending_raised n [] h = tt
  descending_raised n (t ∷ []) h = tt
  descending_raised n (t ∷ (u ∷ us)) h = (after_raised n t u h.0, descending_raised n (u ∷ us) h.1)

  after_lower : (n : ℕ) (t u : Term d) → EndsFrom (suc n) t → IsAfter (reverse t.exponents) (reverse (raised_term n u).exponents)
  after_lower n t u h = rw (h.are, turned h.before h.last, turned u.exponents n) (inl (below n h.last h.high))
    where
      below : (n k : ℕ) → suc n ≤ k → pos n <ℤ pos k
      below n k l = omega (arith, ints)

  descending_append : (n : ℕ) (ts us : List (Term d)) → DescendingTerms ts → Each (EndsFrom (suc n)) ts → DescendingTerms (map (raised_term n) us) → DescendingTerms (ts ++ map (raised_term n) us)
  descending_append n [] us h e k = k
  descending_append n (t ∷ []) [] h e k = tt
  descending_append n (t ∷ []) (u ∷ us) h e k = (after_lower n t u e.0, k)
  descending_append n (t ∷ (s ∷ ts)) us h e k = (h.0, descending_append n (s ∷ ts) us h.1 e.1 k)

  module _ (f : Formal d) (β : Element f) where
    abbrev R : Ring
    R = elements f

    abbrev P : Ring
    P = PolyR R

    open R use {◌≈◌, ◌⊞◌, O, rfl, symm, trans, add_cong, add_O}
    open PolyR R use {◌≈◌ as ◌≋◌, ◌⊞◌ as ◌⊕◌}

    raised_is : (n : ℕ) (x : Element f) → raised_to R n x ≡ monomial (shifted f) β n x
    raised_is zero x = refl
    raised_is (suc n) x = ap (◌∷◌ O) (raised_is n x)

    of_term-raised : (n : ℕ) (t : Term d) → of_term (one_more f β) (raised_term n t) ≡ monomial (shifted f) β n (of_term f t)
    of_term-raised n t = rw (turned t.exponents n) (raised_is n (of_term f t))

    pub of_terms-append : (ts us : List (Term d)) → of_terms (one_more f β) (ts ++ us) ≋ of_terms (one_more f β) ts ⊕ of_terms (one_more f β) us
    of_terms-append [] us = P.symm (O_add P {x = of_terms (one_more f β) us})
    of_terms-append (t ∷ ts) us = P.trans (P.add_cong (P.rfl {x = of_term (one_more f β) t}) (of_terms-append ts us)) (P.symm (P.add_assoc {x = of_term (one_more f β) t} {y = of_terms (one_more f β) ts} {z = of_terms (one_more f β) us}))

    pub of_terms-raised : (n : ℕ) (us : List (Term d)) → of_terms (one_more f β) (map (raised_term n) us) ≋ monomial (shifted f) β n (of_terms f us)
    of_terms-raised n [] = P.symm (monomials-none (shifted f) β n)
    of_terms-raised n (t ∷ us) = rw (of_term-raised n t)
        (P.trans (P.add_cong (P.rfl {x = monomial (shifted f) β n (of_term f t)}) (of_terms-raised n us)) (P.symm (monomials-add (shifted f) β n (of_term f t) (of_terms f us))))

    under_monomial : (n k : ℕ) (x : Element f) → k < n → coef R (monomial (shifted f) β n x) k ≈ O
    under_monomial zero k x l = absurd (omega arith)
    under_monomial (suc n) zero x l = rfl
    under_monomial (suc n) (suc k) x l = under_monomial n k x (omega arith)

    natural_raised : (n m : ℕ) (es : List ℤ) → m ≤ length es → Each (λ e. pos 0 ≤ℤ e) (drop m es) → Each (λ e. pos 0 ≤ℤ e) (drop m (es ++ pos n ∷ []))
    natural_raised n m es l h = rw (drop-append-le m es (pos n ∷ []) l) (each_append (λ e. pos 0 ≤ℤ e) (drop m es) (pos n ∷ []) h (low n, tt))
      where
        low : (n : ℕ) → pos 0 ≤ℤ pos n
        low n = omega (arith, ints)

    naturals_raised : (n : ℕ) (us : List (Term d)) → Each (λ t. length t.exponents ≡ length f.products + f.sums) us → Each (λ t. Each (λ e. pos 0 ≤ℤ e) (drop (length f.products) t.exponents)) us
        → Each (λ t. Each (λ e. pos 0 ≤ℤ e) (drop (length f.products) t.exponents)) (map (raised_term n) us)
    naturals_raised n [] s h = tt
    naturals_raised n (t ∷ us) s h = (natural_raised n (length f.products) t.exponents (omega (arith, s.0)) h.0, naturals_raised n us s.1 h.1)

    lowered_ends : (k : ℕ) (ts : List (Term d)) → Each (EndsFrom (suc k)) ts → Each (EndsFrom k) ts
    lowered_ends k [] e = tt
    lowered_ends k (t ∷ ts) e = (record { before = e.0.before; last = e.0.last; high = omega (arith, e.0.high); are = e.0.are }, lowered_ends k ts e.1)

    pub flat_start : (q : List (Element f)) (k : ℕ) → ((i : ℕ) → k ≤ i → coef R q i ≈ O) → IsFlatFrom f β q k []
    flat_start q k past = record { above = λ i l. symm (past i l); under = λ i l. rfl; sized = tt; natural = tt; descending = tt; nonzero = tt; lowest = tt; ends = tt }

    pub flat_next : (q : List (Element f)) (n : ℕ) (x : Element f) (ts us : List (Term d)) → IsFlatFrom f β q (suc n) ts → x ≈ coef R q n → IsFlat f x us → IsFlatFrom f β q n (ts ++ map (raised_term n) us)
    flat_next q n x ts us h e u = record {
      above = λ i l. at i (side i l);
      under = λ i l. trans (whole i) (trans (add_cong (h.under i (omega (arith, l))) (trans ((of_terms-raised n us).image.at i) (under_monomial n i (of_terms f us) l))) add_O);
      sized = each_append (λ t. length t.exponents ≡ length f.products + suc f.sums) ts (map (raised_term n) us) h.sized
          (each_into (λ t. length t.exponents ≡ length f.products + f.sums) (λ t. length t.exponents ≡ length f.products + suc f.sums) (raised_term n) us (λ t s. longer t.exponents (length f.products) f.sums s) u.sized);
      natural = each_append (λ t. Each (λ e. pos 0 ≤ℤ e) (drop (length f.products) t.exponents)) ts (map (raised_term n) us) h.natural (naturals_raised n us u.sized u.natural);
      descending = descending_append n ts us h.descending h.ends (descending_raised n us u.descending);
      nonzero = each_append (λ t. t.coefficient ≡ zero_value → ⊥) ts (map (raised_term n) us) h.nonzero (each_into (λ t. ¬ (t.coefficient ≡ zero_value)) (λ t. t.coefficient ≡ zero_value → ⊥) (raised_term n) us (λ t z. z) u.nonzero);
      lowest = each_append (λ t. IsLowestForm t.coefficient) ts (map (raised_term n) us) h.lowest (each_into (λ t. IsLowestForm t.coefficient) (λ t. IsLowestForm t.coefficient) (raised_term n) us (λ t z. z) u.lowest);
      ends = each_append (EndsFrom n) ts (map (raised_term n) us) (lowered_ends n ts h.ends) (own_ends us);
    }
      where
        longer : (es : List ℤ) (a b : ℕ) → length es ≡ a + b → length (es ++ pos n ∷ []) ≡ a + suc b
        longer es a b s = omega (arith, s, length-append es (pos n ∷ []))

        own_ends : (us : List (Term d)) → Each (EndsFrom n) (map (raised_term n) us)
        own_ends [] = tt
        own_ends (t ∷ us) = (record { before = t.exponents; last = n; high = omega arith; are = refl }, own_ends us)

        side : (i : ℕ) → n ≤ i → (suc n ≤ i) ⊎ (i ≡ n)
        side i l = grind arith

        whole : (i : ℕ) → coef R (of_terms (one_more f β) (ts ++ map (raised_term n) us)) i ≈ coef R (of_terms (one_more f β) ts) i ⊞ coef R (of_terms (one_more f β) (map (raised_term n) us)) i
        whole i = trans ((of_terms-append ts (map (raised_term n) us)).image.at i) (coef-zip R (of_terms (one_more f β) ts) (of_terms (one_more f β) (map (raised_term n) us)) i)

        at : (i : ℕ) → (suc n ≤ i) ⊎ (i ≡ n) → coef R (of_terms (one_more f β) (ts ++ map (raised_term n) us)) i ≈ coef R q i
        at i (inl l) = trans (whole i) (trans (add_cong (h.above i l) (trans ((of_terms-raised n us).image.at i) (monomial-past (shifted f) β n i (of_terms f us) l))) add_O)
        at i (inr z) = subst (λ (j : ℕ). coef R (of_terms (one_more f β) (ts ++ map (raised_term n) us)) j ≈ coef R q j) (sym z)
            (trans (whole n) (trans (add_cong (h.under n (omega arith)) (trans ((of_terms-raised n us).image.at n) (monomial-at (shifted f) β n (of_terms f us)))) (trans (O_add R) (trans (symm u.same) e))))

    pub flat_end : (q : List (Element f)) (ts : List (Term d)) → IsFlatFrom f β q 0 ts → IsFlat (one_more f β) q ts
    flat_end q ts h = record { same = record { image = record { at = λ i. symm (h.above i (omega arith)) } }; sized = h.sized; natural = h.natural; descending = h.descending; nonzero = h.nonzero; lowest = h.lowest }

-- ---- The same for items
module _ {d : ℕ} {E : Type 0} (ρ : Reading d E) {K : Type 0} (v : K → Value d) where
  pub terms-raised : (n : ℕ) (us : List (FlatTerm K)) → map (term_of v) (map (with_power n) us) ≡ map (raised_term n) (map (term_of v) us)
  terms-raised n [] = refl
  terms-raised n (t ∷ us) = ap (◌∷◌ (term_of v (with_power n t))) (terms-raised n us)

  pub flat_first : (β : E) (p : List E) (ts : List (FlatTerm K)) (k : ℕ) → ts ≡ [] → k ≡ length p → IsFlatFrom ρ.formal (ρ.of β) (map ρ.of p) k (map (term_of v) ts)
  flat_first β p ts k e l = rw e (flat_start ρ.formal (ρ.of β) (map ρ.of p) k (λ i h. past p i (omega (arith, l, h))))
    where
      past : (p : List E) (i : ℕ) → length p ≤ i → (elements ρ.formal).◌≈◌ (coef (elements ρ.formal) (map ρ.of p) i) (elements ρ.formal).O
      past p i h = rw (at_past (elements ρ.formal) ρ.of p i h) (elements ρ.formal).rfl

  pub flat_more : (β : E) (p : List E) (n : ℕ) (x : E) (old new us : List (FlatTerm K)) → IsFlatFrom ρ.formal (ρ.of β) (map ρ.of p) (n + 1) (map (term_of v) old) → n < length p → x ≡ get_or p n x → HasTerms ρ v x us → new ≡ old ++ map (with_power n) us
      → IsFlatFrom ρ.formal (ρ.of β) (map ρ.of p) n (map (term_of v) new)
  flat_more β p n x old new us h l e u w = rw (w, map-append (term_of v) old (map (with_power n) us), terms-raised n us)
      (flat_next ρ.formal (ρ.of β) (map ρ.of p) n (ρ.of x) (map (term_of v) old) (map (term_of v) us) (subst (λ (k : ℕ). IsFlatFrom ρ.formal (ρ.of β) (map ρ.of p) k (map (term_of v) old)) (up n) h) (rw (at_read (elements ρ.formal) ρ.of p n x l e) (elements ρ.formal).rfl) u)
    where
      up : (n : ℕ) → n + 1 ≡ suc n
      up n = omega arith

  pub flat_whole : (β : E) (p : List E) (k : ℕ) (ts : List (FlatTerm K)) → IsFlatFrom ρ.formal (ρ.of β) (map ρ.of p) k (map (term_of v) ts) → k ≡ 0 → HasTerms (raised ρ β) v p ts
  flat_whole β p k ts h e = flat_end ρ.formal (ρ.of β) (map ρ.of p) (map (term_of v) ts) (subst (λ (j : ℕ). IsFlatFrom ρ.formal (ρ.of β) (map ρ.of p) j (map (term_of v) ts)) e h)
