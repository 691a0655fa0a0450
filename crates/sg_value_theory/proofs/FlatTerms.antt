-- The terms of a flat list are apart, so its value is the sum of theirs.
--   after_trans       to come after is transitive
--   after-differ      of exponents that fit, one list of which comes after the other, some differ
--   fits_flat         the exponents of a flat list fit
--   flat-value        where an element has a value, it is that of its flat list
use Rattle.std.proofs.Common.{◌≡◌, ◌≢◌, ℕ, zero, suc, ◌+◌, ℤ, pos, negsuc, ◌<ℤ◌, ◌≤ℤ◌, unsigned_abs, refl, sym, ap, ◌∙◌, subst, List, [], ◌∷◌, ◌++◌, length, reverse, take, drop, arith, inl, inr}
use Rattle.std.proofs.lemmas.Int.{ints}
use Rattle.std.proofs.lemmas.List.{length-map, length-reverse, length-take, length-drop, reverse-append, take-append-drop}
use Rattle.sg_algebra.specs.Coefficients.{Each}
use Rattle.sg_algebra.proofs.Value.{Value}
use Rattle.sg_tower_theory.proofs.Formal.{Formal, Element, elements, factors, repaired}
use Rattle.sg_tower_theory.proofs.Flat.{Term, IsAfter, DescendingTerms, IsFlat, of_term, of_terms}
use Rattle.sg_value_theory.proofs.Elements.{Point, HasElement}
use Rattle.sg_value_theory.proofs.Lists.{each-more}
use Rattle.sg_value_theory.proofs.FlatValues.{Fits, Differ, all, AllFit, AllApart, Apart, HasFlat, flat-has}

pub after_trans : (es fs gs : List ℤ) → IsAfter es fs → IsAfter fs gs → IsAfter es gs
after_trans [] fs gs h i = h
after_trans (a ∷ es) [] gs h i = absurd h
after_trans (a ∷ es) (b ∷ fs) [] h i = absurd i
after_trans (a ∷ es) (b ∷ fs) (c ∷ gs) (inl h) (inl i) = inl (omega (arith, ints, h, i))
after_trans (a ∷ es) (b ∷ fs) (c ∷ gs) (inl h) (inr i) = inl (subst (λ (z : ℤ). z <ℤ a) i.0 h)
after_trans (a ∷ es) (b ∷ fs) (c ∷ gs) (inr h) (inl i) = inl (subst (λ (z : ℤ). c <ℤ z) (sym h.0) i)
after_trans (a ∷ es) (b ∷ fs) (c ∷ gs) (inr h) (inr i) = inr (h.0 ∙ i.0, after_trans es fs gs h.1 i.1)

pub after_self : (es : List ℤ) → IsAfter es es → ⊥
after_self [] h = h
after_self (a ∷ es) (inl h) = not_less a h
  where
    not_less : (a : ℤ) → a <ℤ a → ⊥
    not_less a h = omega (arith, ints, h)
after_self (a ∷ es) (inr h) = after_self es h.1

natural_less : (a b : ℤ) → pos 0 ≤ℤ a → pos 0 ≤ℤ b → b <ℤ a → unsigned_abs a ≢ unsigned_abs b
natural_less (pos m) (pos n) h k l e = omega (arith, ints, l, e)
natural_less (pos m) (negsuc n) h k l e = absurd (omega (arith, ints, k))
natural_less (negsuc m) b h k l e = absurd (omega (arith, ints, h))

module _ {d : ℕ} (αs : List (Value (suc d))) where
  pub after-differ : (n : ℕ) (es fs : List ℤ) → Fits αs n es → Fits αs n fs → IsAfter es fs → Differ n es fs
  after-differ zero es fs h i a = λ e. after_self fs (subst (λ (xs : List ℤ). IsAfter xs fs) e a)
  after-differ (suc n) [] fs h i a = absurd h
  after-differ (suc n) (e ∷ es) [] h i a = absurd i
  after-differ (suc n) (e ∷ es) (f ∷ fs) h i (inl l) = inl (natural_less e f h.0 i.0 l)
  after-differ (suc n) (e ∷ es) (f ∷ fs) h i (inr a) = inr (after-differ n es fs h.1 i.1 a.1)

  after-first : (n : ℕ) (t u : Term d) (ts : List (Term d)) → Fits αs n (reverse t.exponents) → IsAfter (reverse t.exponents) (reverse u.exponents) → AllFit αs n (u ∷ ts) → DescendingTerms (u ∷ ts) → Each (Apart αs n t) (u ∷ ts)
  after-first n t u [] z a h i = (after-differ n (reverse t.exponents) (reverse u.exponents) z h.0 a, tt)
  after-first n t u (w ∷ ts) z a h i = (
    after-differ n (reverse t.exponents) (reverse u.exponents) z h.0 a,
    after-first n t w ts z (after_trans (reverse t.exponents) (reverse u.exponents) (reverse w.exponents) a i.0) h.1 i.1,
  )

  pub descending-apart : (n : ℕ) (ts : List (Term d)) → AllFit αs n ts → DescendingTerms ts → AllApart αs n ts
  descending-apart n [] h i = tt
  descending-apart n (t ∷ []) h i = (tt, tt)
  descending-apart n (t ∷ (u ∷ ts)) h i = (after-first n t u ts h.0 i.0 h.1 i.1, descending-apart n (u ∷ ts) h.1 i.1)

  -- ---- The exponents, the last first

  fits_append : (n : ℕ) (es fs : List ℤ) → length es ≡ n → Each (λ e. pos 0 ≤ℤ e) es → length fs ≡ length (factors αs) → Fits αs n (es ++ fs)
  fits_append zero [] fs l h m = m
  fits_append zero (e ∷ es) fs l h m = absurd (omega (arith, l))
  fits_append (suc n) [] fs l h m = absurd (omega (arith, l))
  fits_append (suc n) (e ∷ es) fs l h m = (h.0, fits_append n es fs (omega (arith, l)) h.1 m)

each-reverse : (P : ℤ → Type 0) (es : List ℤ) → Each P es → Each P (reverse es)
each-reverse P [] h = tt
each-reverse P (e ∷ es) h = subst (λ (xs : List ℤ). Each P xs) (sym (reverse-append (e ∷ []) es)) (each-more P (reverse es) e (each-reverse P es h.1) h.0)

module _ {d : ℕ} (f : Formal d) where
  term_fits : (es : List ℤ) → length es ≡ length f.products + f.sums → Each (λ e. pos 0 ≤ℤ e) (drop (length f.products) es) → Fits f.products f.sums (reverse es)
  term_fits es l h =
      let r : ℕ = length f.products in
      subst (Fits f.products f.sums) (sym (ap reverse (sym (take-append-drop r es)) ∙ reverse-append (take r es) (drop r es)))
      (fits_append f.products f.sums (reverse (drop r es)) (reverse (take r es))
      (length-reverse (drop r es) ∙ after es l) (each-reverse (λ e. pos 0 ≤ℤ e) (drop r es) h)
      (length-reverse (take r es) ∙ before es l ∙ sym (length-map f.products (repaired {d = d}))))
    where
      after : (es : List ℤ) → length es ≡ length f.products + f.sums → length (drop (length f.products) es) ≡ f.sums
      after es l = let m = length-drop (length f.products) es in omega (arith, l, m)

      before : (es : List ℤ) → length es ≡ length f.products + f.sums → length (take (length f.products) es) ≡ length f.products
      before es l = let m = length-take (length f.products) es in omega (arith, l, m)

  pub fits_flat : (ts : List (Term d)) → Each (λ t. length t.exponents ≡ length f.products + f.sums) ts → Each (λ t. Each (λ e. pos 0 ≤ℤ e) (drop (length f.products) t.exponents)) ts → AllFit f.products f.sums ts
  fits_flat [] h i = tt
  fits_flat (t ∷ ts) h i = (term_fits t.exponents h.0 i.0, fits_flat ts h.1 i.1)

  all-is : (ts : List (Term d)) → of_terms f ts ≡ all f.products f.sums ts
  all-is [] = refl
  all-is (t ∷ ts) = ap (λ x. (elements f).◌⊞◌ (of_term f t) x) (all-is ts)

  pub flat-value : (p : Point d) (x : Element f) (ts : List (Term d)) (v : Value d) → IsFlat f x ts → HasElement f p x v → HasFlat f.products f.sums p ts v
  flat-value p x ts v h i =
      let fit = fits_flat ts h.sized h.natural in
      flat-has f.products f.sums p x ts v fit (descending-apart f.products f.sums ts fit h.descending) (subst (λ (z : Element f). (elements f).◌≈◌ x z) (all-is ts) h.same) i
