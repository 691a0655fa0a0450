-- Elements without products as canonical forms, where `W c u l` says that the rational function c is written as u over l.
--   IsTermBy W r t u     u is the term t as it is written, over r products
--   form-of              what is written of the terms of an element is a form; `idle-of`: sums that it doesn't hold have the exponent 0
--   element-of           each form is written of the terms of an element
use Rattle.std.proofs.Common.{◌≡◌, ℕ, zero, suc, ◌+◌, ◌≤◌, ℤ, pos, negsuc, ◌≤ℤ◌, unsigned_abs, refl, sym, ap, ap₂, ◌∙◌, subst, List, [], ◌∷◌, ◌++◌, length, map, reverse, take, drop, append-nil, inl, inr, arith}
use Rattle.std.proofs.lemmas.Int.{ints}
use Rattle.std.proofs.lemmas.List.{length-map, length-reverse, length-drop, reverse-append, reverse-reverse, take-append-drop, map-append}
use Rattle.sg_algebra.specs.Coefficients.{Each}
use Rattle.sg_algebra.proofs.Place.{Pairwise}
use Rattle.sg_algebra.proofs.Value.{Value, zero_value}
use Rattle.sg_spec.specs.Tree.{Tree}
use Rattle.sg_spec.specs.Canonical.{Plane, Written, element_tree, ranks, Descending, IsAfter}
use Rattle.sg_tower_theory.proofs.Formal.{Formal, Element, elements}
use Rattle.sg_tower_theory.proofs.Flat.{Term, DescendingTerms, IsLowestForm, IsFlat, of_terms, IsAfter as ComesAfter}
use Rattle.sg_forms_theory.specs.Forms.{IsFormOver}
use Rattle.sg_forms_theory.proofs.Terms.{LiesBelow}
use Rattle.sg_forms_theory.proofs.Narrow.{AreIdle, IsFormBy}

pub record IsTermBy {d : ℕ} (W : Value (suc d) → Plane → Plane → Type 0) (r : ℕ) (t : Term d) (u : Written) : Type 0 where
  pub powers : u.powers ≡ reverse (map unsigned_abs (drop r t.exponents))
  pub exponents : u.exponents ≡ take r t.exponents
  pub coefficient : W t.coefficient u.upper u.lower

-- ---- Lists

map-reverse : {A B : Type 0} (f : A → B) (xs : List A) → map f (reverse xs) ≡ reverse (map f xs)
map-reverse f [] = refl
map-reverse f (x ∷ xs) = ap (map f) (reverse-append (x ∷ []) xs) ∙ map-append f (reverse xs) (x ∷ []) ∙ ap (λ ys. ys ++ f x ∷ []) (map-reverse f xs) ∙ sym (reverse-append (f x ∷ []) (map f xs))

after-same : (es fs : List ℤ) → ComesAfter es fs → IsAfter es fs
after-same [] fs h = h
after-same (e ∷ es) [] h = h
after-same (e ∷ es) (f ∷ fs) (inl h) = inl h
after-same (e ∷ es) (f ∷ fs) (inr h) = inr (h.0, after-same es fs h.1)

after-back : (es fs : List ℤ) → IsAfter es fs → ComesAfter es fs
after-back [] fs h = h
after-back (e ∷ es) [] h = h
after-back (e ∷ es) (f ∷ fs) (inl h) = inl h
after-back (e ∷ es) (f ∷ fs) (inr h) = inr (h.0, after-back es fs h.1)

natural-abs : (l : List ℤ) → Each (λ e. pos 0 ≤ℤ e) l → map (λ e. pos e) (map unsigned_abs l) ≡ l
natural-abs [] h = refl
natural-abs (pos n ∷ l) h = ap (λ (t : List ℤ). pos n ∷ t) (natural-abs l h.1)
natural-abs (negsuc n ∷ l) h = absurd (omega (arith, ints, h.0))

abs-natural : (l : List ℕ) → map unsigned_abs (map (λ e. pos e) l) ≡ l
abs-natural [] = refl
abs-natural (n ∷ l) = ap (λ (t : List ℕ). n ∷ t) (abs-natural l)

-- ---- From an element to a form

module _ {d : ℕ} (W : Value (suc d) → Plane → Plane → Type 0) where
  ranks-are : (r : ℕ) (t : Term d) (u : Written) → IsTermBy W r t u → Each (λ e. pos 0 ≤ℤ e) (drop r t.exponents) → ranks u ≡ reverse t.exponents
  ranks-are r t u h n =
      ap₂ (λ (l : List ℕ) (m : List ℤ). map (λ e. pos e) l ++ reverse m) h.powers h.exponents
      ∙ ap (λ (l : List ℤ). l ++ reverse (take r t.exponents)) (map-reverse (λ e. pos e) (map unsigned_abs (drop r t.exponents)) ∙ ap reverse (natural-abs (drop r t.exponents) n))
      ∙ sym (reverse-append (take r t.exponents) (drop r t.exponents)) ∙ ap reverse (take-append-drop r t.exponents)

  descends : (r : ℕ) (ts : List (Term d)) (us : List Written) → Pairwise (IsTermBy W r) ts us → Each (λ t. Each (λ e. pos 0 ≤ℤ e) (drop r t.exponents)) ts → DescendingTerms ts → Descending us
  descends r [] [] h n i = tt
  descends r [] (u ∷ us) h n i = absurd h
  descends r (t ∷ ts) [] h n i = absurd h
  descends r (t ∷ []) (u ∷ []) h n i = tt
  descends r (t ∷ []) (u ∷ (w ∷ us)) h n i = absurd h.1
  descends r (t ∷ (s ∷ ts)) (u ∷ []) h n i = absurd h.1
  descends r (t ∷ (s ∷ ts)) (u ∷ (w ∷ us)) h n i = (
    subst (λ (l : List ℤ). IsAfter l (ranks w)) (sym (ranks-are r t u h.0 n.0)) (subst (IsAfter (reverse t.exponents)) (sym (ranks-are r s w h.1.0 n.1.0)) (after-same (reverse t.exponents) (reverse s.exponents) i.0)),
    descends r (s ∷ ts) (w ∷ us) h.1 n.1 i.1,
  )

  sizes : (r n : ℕ) (gs : List Tree) (ts : List (Term d)) (us : List Written) → r ≡ 0 → length gs ≡ n → Pairwise (IsTermBy W r) ts us → Each (λ t. length t.exponents ≡ r + n) ts
      → Each (λ t. (length t.powers ≡ length gs) × (t.exponents ≡ [])) us
  sizes r n gs [] [] a b h l = tt
  sizes r n gs [] (u ∷ us) a b h l = absurd h
  sizes r n gs (t ∷ ts) [] a b h l = absurd h
  sizes r n gs (t ∷ ts) (u ∷ us) a b h l =
      let e : length u.powers ≡ length (drop r t.exponents) = ap length h.0.powers ∙ length-reverse (map unsigned_abs (drop r t.exponents)) ∙ length-map (drop r t.exponents) unsigned_abs in
      let m = length-drop r t.exponents in
      ((omega (arith, e, m, l.0, b, a), h.0.exponents ∙ ap (λ (i : ℕ). take i t.exponents) a), sizes r n gs ts us a b h.1 l.1)

  module _ (Q : Plane → Plane → Type 0) where
    coefficients-of : ((c : Value (suc d)) (u l : Plane) → W c u l → ¬ (c ≡ zero_value) → Q u l) → (r : ℕ) (ts : List (Term d)) (us : List Written) → Pairwise (IsTermBy W r) ts us → Each (λ t. ¬ (t.coefficient ≡ zero_value)) ts
        → Each (λ u. Q u.upper u.lower) us
    coefficients-of q r [] [] h n = tt
    coefficients-of q r [] (u ∷ us) h n = absurd h
    coefficients-of q r (t ∷ ts) [] h n = absurd h
    coefficients-of q r (t ∷ ts) (u ∷ us) h n = (q t.coefficient u.upper u.lower h.0.coefficient n.0, coefficients-of q r ts us h.1 n.1)

    pub form-of : (F : Formal d) (x : Element F) (gs : List Tree) (h : Tree) (ts : List (Term d)) (us : List Written) → ((c : Value (suc d)) (u l : Plane) → W c u l → ¬ (c ≡ zero_value) → Q u l)
        → length F.products ≡ 0 → length gs ≡ F.sums → IsFlat F x ts → Pairwise (IsTermBy W (length F.products)) ts us → h ≡ element_tree [] gs us → IsFormBy Q gs h us
    form-of F x gs h ts us q z l flat each form = record {
      sized = sizes (length F.products) F.sums gs ts us z l each flat.sized;
      descending = descends (length F.products) ts us each flat.natural flat.descending;
      coefficients = coefficients-of q (length F.products) ts us each flat.nonzero;
      form = form;
    }

  -- ---- Sums that an element doesn't hold

  idle-abs : (n m k : ℕ) (es : List ℤ) → LiesBelow n m es → k + m ≤ n → AreIdle k (map unsigned_abs es)
  idle-abs n m zero es h l = tt
  idle-abs zero m (suc k) es h l = absurd (omega (arith, l))
  idle-abs (suc n) m (suc k) [] h l = (refl, idle-abs n m k [] h.1 (omega (arith, l)))
  idle-abs (suc n) m (suc k) (e ∷ es) h l = (h.0 (omega (arith, l)), idle-abs n m k es h.1 (omega (arith, l)))

  pub idle-of : (n m k r : ℕ) (ts : List (Term d)) (us : List Written) → r ≡ 0 → k + m ≤ n → Pairwise (IsTermBy W r) ts us → Each (λ t. LiesBelow n m (reverse t.exponents)) ts → Each (λ u. AreIdle k u.powers) us
  idle-of n m k r [] [] z l h b = tt
  idle-of n m k r [] (u ∷ us) z l h b = absurd h
  idle-of n m k r (t ∷ ts) [] z l h b = absurd h
  idle-of n m k r (t ∷ ts) (u ∷ us) z l h b =
      let powers : u.powers ≡ map unsigned_abs (reverse t.exponents) = h.0.powers ∙ ap (λ (i : ℕ). reverse (map unsigned_abs (drop i t.exponents))) z ∙ sym (map-reverse unsigned_abs t.exponents) in
      (subst (AreIdle k) (sym powers) (idle-abs n m k (reverse t.exponents) b.0 l), idle-of n m k r ts us z l h.1 b.1)

  -- ---- From a form to an element

  module _ (Q : Plane → Plane → Type 0) (q : (u l : Plane) → Q u l → (c : Value (suc d)) × W c u l × ¬ (c ≡ zero_value) × IsLowestForm c) where
    abbrev term_at : (u : Written) → Q u.upper u.lower → Term d
    term_at u h = record { exponents = map (λ e. pos e) (reverse u.powers); coefficient = (q u.upper u.lower h).0 }

    abbrev terms_at : (us : List Written) → Each (λ u. Q u.upper u.lower) us → List (Term d)
    terms_at [] h = []
    terms_at (u ∷ us) h = term_at u h.0 ∷ terms_at us h.1

    exponents-back : (u : Written) → reverse (map (λ e. pos e) (reverse u.powers)) ≡ map (λ e. pos e) u.powers
    exponents-back u = sym (map-reverse (λ e. pos e) (reverse u.powers)) ∙ ap (map (λ e. pos e)) (reverse-reverse u.powers)

    ranks-of : (u : Written) → u.exponents ≡ [] → ranks u ≡ reverse (map (λ e. pos e) (reverse u.powers))
    ranks-of u e = ap (λ (l : List ℤ). map (λ e. pos e) u.powers ++ reverse l) e ∙ append-nil (map (λ e. pos e) u.powers) ∙ sym (exponents-back u)

    written-at : (r : ℕ) (us : List Written) (h : Each (λ u. Q u.upper u.lower) us) (n : ℕ) → r ≡ 0 → Each (λ t. (length t.powers ≡ n) × (t.exponents ≡ [])) us → Pairwise (IsTermBy W r) (terms_at us h) us
    written-at r [] h n z s = tt
    written-at r (u ∷ us) h n z s = (
      record {
        powers =
            sym (ap (λ (i : ℕ). reverse (map unsigned_abs (drop i (map (λ e. pos e) (reverse u.powers))))) z ∙ ap reverse (abs-natural (reverse u.powers)) ∙ reverse-reverse u.powers);
        exponents = s.0.1 ∙ sym (ap (λ (i : ℕ). take i (map (λ e. pos e) (reverse u.powers))) z);
        coefficient = (q u.upper u.lower h.0).1;
      },
      written-at r us h.1 n z s.1,
    )

    sized-at : (r m n : ℕ) (us : List Written) (h : Each (λ u. Q u.upper u.lower) us) → r ≡ 0 → n ≡ m → Each (λ t. (length t.powers ≡ n) × (t.exponents ≡ [])) us → Each (λ t. length t.exponents ≡ r + m) (terms_at us h)
    sized-at r m n [] h z e s = tt
    sized-at r m n (u ∷ us) h z e s = (
      let a = length-map (reverse u.powers) (λ e. pos e) in let b = length-reverse u.powers in let c = s.0.0 in omega (arith, a, b, c, z, e),
      sized-at r m n us h.1 z e s.1,
    )

    natural-drop : (r : ℕ) (es : List ℕ) → Each (λ e. pos 0 ≤ℤ e) (drop r (map (λ e. pos e) es))
    natural-drop zero [] = tt
    natural-drop zero (e ∷ es) = (omega (arith, ints), natural-drop zero es)
    natural-drop (suc r) [] = tt
    natural-drop (suc r) (e ∷ es) = natural-drop r es

    natural-at : (r : ℕ) (us : List Written) (h : Each (λ u. Q u.upper u.lower) us) → Each (λ t. Each (λ e. pos 0 ≤ℤ e) (drop r t.exponents)) (terms_at us h)
    natural-at r [] h = tt
    natural-at r (u ∷ us) h = (natural-drop r (reverse u.powers), natural-at r us h.1)

    descends-at : (n : ℕ) (us : List Written) (h : Each (λ u. Q u.upper u.lower) us) → Each (λ t. (length t.powers ≡ n) × (t.exponents ≡ [])) us → Descending us → DescendingTerms (terms_at us h)
    descends-at n [] h s i = tt
    descends-at n (u ∷ []) h s i = tt
    descends-at n (u ∷ (w ∷ us)) h s i = (
      after-back (reverse (map (λ e. pos e) (reverse u.powers))) (reverse (map (λ e. pos e) (reverse w.powers)))
          (subst (λ (l : List ℤ). IsAfter l (reverse (map (λ e. pos e) (reverse w.powers)))) (ranks-of u s.0.1) (subst (IsAfter (ranks u)) (ranks-of w s.1.0.1) i.0)),
      descends-at n (w ∷ us) h.1 s.1 i.1,
    )

    nonzero-at : (us : List Written) (h : Each (λ u. Q u.upper u.lower) us) → Each (λ t. ¬ (t.coefficient ≡ zero_value)) (terms_at us h)
    nonzero-at [] h = tt
    nonzero-at (u ∷ us) h = ((q u.upper u.lower h.0).2, nonzero-at us h.1)

    lowest-at : (us : List Written) (h : Each (λ u. Q u.upper u.lower) us) → Each (λ t. IsLowestForm t.coefficient) (terms_at us h)
    lowest-at [] h = tt
    lowest-at (u ∷ us) h = ((q u.upper u.lower h.0).3, lowest-at us h.1)

    pub record IsWrittenOf (F : Formal d) (gs : List Tree) (h : Tree) : Type 0 where
      pub element : Element F
      pub terms : List (Term d)
      pub written : List Written
      pub flat : IsFlat F element terms
      pub each : Pairwise (IsTermBy W (length F.products)) terms written
      pub form : h ≡ element_tree [] gs written

    pub element-of : (F : Formal d) (gs : List Tree) (h : Tree) → length F.products ≡ 0 → length gs ≡ F.sums → IsFormOver Q gs h → IsWrittenOf F gs h
    element-of F gs h z l f = record {
      element = of_terms F (terms_at f.terms f.coefficients);
      terms = terms_at f.terms f.coefficients;
      written = f.terms;
      flat = record {
        same = (elements F).rfl;
        sized = sized-at (length F.products) F.sums (length gs) f.terms f.coefficients z l f.sized;
        natural = natural-at (length F.products) f.terms f.coefficients;
        descending = descends-at (length gs) f.terms f.coefficients f.sized f.descending;
        nonzero = nonzero-at f.terms f.coefficients;
        lowest = lowest-at f.terms f.coefficients;
      };
      each = written-at (length F.products) f.terms f.coefficients (length gs) z f.sized;
      form = f.form;
    }
