-- Terms at points.
--   power-natural, power-negative, power-none      a power with a whole exponent, by its sign
--   sum-of-terms, ..   the value of a list of terms by cases
--   element-terms      where an element has a value at a point with these values, its terms have it
--   terms-element      where its terms have one, the element has it at each such point
use Rattle.std.proofs.Common.{◌≡◌, ℕ, zero, suc, ◌+◌, ◌-◌, ◌<◌, ◌≤◌, ◌⊎◌, inl, inr, zero-add, get_or, ℤ, pos, negsuc, ◌≤ℤ◌, ◌<ℤ◌, unsigned_abs, refl, sym, ap, ap₂, subst, ◌∙◌, List, [], ◌∷◌, ◌++◌, length, reverse, take, drop, arith}
use Rattle.std.proofs.lemmas.Int.{ints}
use Rattle.std.proofs.Math.Path.{fun_ext}
use Rattle.std.proofs.lemmas.List.{length-reverse, length-take, length-drop, reverse-append, reverse-reverse, take-append-drop, get_or-drop}
use Rattle.sg_algebra.specs.Coefficients.{Each}
use Rattle.sg_algebra.proofs.Polynomial.{coefficient}
use Rattle.sg_algebra.proofs.Ring.{pow}
use Rattle.sg_algebra.proofs.Solver.{ring, reads}
use Rattle.sg_algebra.proofs.Value.{Value, ◌+ᵛ◌, ◌*ᵛ◌, inv_value, zero_value, one_value}
use Rattle.sg_algebra.proofs.ValueField.{ValueR, ValueF}
use Rattle.sg_tower_theory.specs.Powers.{power}
use Rattle.sg_tower_theory.proofs.Formal.{Formal, Element, elements}
use Rattle.sg_tower_theory.proofs.Flat.{Term, IsFlat, of_term, of_terms}
use Rattle.sg_value_theory.proofs.Elements.{Point, IsQuotientAt, HasIn, HasElement}
use Rattle.sg_value_theory.proofs.Evaluations.{evaluation, evaluation_in}
use Rattle.sg_value_theory.proofs.FlatValues.{units_value, powers_at, HasFlat, AllFit, all, one, term-has}
use Rattle.sg_value_theory.proofs.FlatTerms.{flat-value, fits_flat}
use Rattle.sg_value_theory.proofs.Lists.{each-more, each-at}
use Rattle.sg_build.specs.Points.{IsPointAt}
use Rattle.sg_build.specs.TermValues.{IsPowerOf, ArePowers, AreTermsAt}

low_or_high : (i n : ℕ) → (i < n) ⊎ (n ≤ i)
low_or_high i zero = inr (omega arith)
low_or_high zero (suc n) = inl (omega arith)
low_or_high (suc i) (suc n) = elim (low_or_high i n) [ inl l ↦ inl (omega (arith, l)) | inr l ↦ inr (omega (arith, l)) ]

each-reverse : (P : ℤ → Type 0) (es : List ℤ) → Each P es → Each P (reverse es)
each-reverse P [] h = tt
each-reverse P (e ∷ es) h = subst (λ (xs : List ℤ). Each P xs) (sym (reverse-append (e ∷ []) es)) (each-more P (reverse es) e (each-reverse P es h.1) h.0)

module _ {d : ℕ} where
  -- ---- Powers

  pub power-natural : (v a : Value d) (e : ℤ) → pos 0 ≤ℤ e → a ≡ pow (ValueR d) v (unsigned_abs e) → IsPowerOf v e a
  power-natural v a (pos n) l h = h
  power-natural v a (negsuc n) l h = absurd (omega (arith, ints, l))

  pub power-negative : (v a : Value d) (e : ℤ) → e <ℤ pos 0 → ¬ (v ≡ zero_value) → a ≡ pow (ValueR d) (inv_value v) (unsigned_abs e) → IsPowerOf v e a
  power-negative v a (pos n) l m h = absurd (omega (arith, ints, l))
  power-negative v a (negsuc n) l m h = (m, h)

  pub power-none : (v : Value d) (e : ℤ) → e <ℤ pos 0 → v ≡ zero_value → (a : Value d) → ¬ IsPowerOf v e a
  power-none v (pos n) l z a h = absurd (omega (arith, ints, l))
  power-none v (negsuc n) l z a h = h.0 z

  power-is : (v a : Value d) (e : ℤ) → IsPowerOf v e a → a ≡ power (ValueF d) v e
  power-is v a (pos n) h = h
  power-is v a (negsuc n) h = h.1

  power-some : (v : Value d) (e : ℤ) → ¬ (v ≡ zero_value) → IsPowerOf v e (power (ValueF d) v e)
  power-some v (pos n) m = refl
  power-some v (negsuc n) m = (m, refl)

  power-whole : (v : Value d) (e : ℤ) → pos 0 ≤ℤ e → IsPowerOf v e (pow (ValueR d) v (unsigned_abs e))
  power-whole v e l = power-natural v (pow (ValueR d) v (unsigned_abs e)) e l refl

  -- ---- Products of powers

  units-append : (ts : ℕ → Value d) (as' bs : List ℤ) → units_value ts (as' ++ bs) ≡ units_value ts as' *ᵛ units_value (λ i. ts (length as' + i)) bs
  units-append ts [] bs = ap (λ (us : ℕ → Value d). units_value us bs) (fun_ext (λ i. ap ts (sym (zero-add i)))) ∙ alone (units_value (λ i. ts (length {A = ℤ} [] + i)) bs)
    where
      alone : (a : Value d) → a ≡ one_value *ᵛ a
      alone a = ring (ValueR d) (a ∷ []) (search reads depth 12) refl
  units-append ts (a ∷ as') bs =
      ap (λ e. power (ValueF d) (ts 0) a *ᵛ e) (units-append (λ i. ts (suc i)) as' bs)
      ∙ regrouped (power (ValueF d) (ts 0) a) (units_value (λ i. ts (suc i)) as') (units_value (λ i. ts (suc (length as' + i))) bs)
      ∙ ap (λ (us : ℕ → Value d). (power (ValueF d) (ts 0) a *ᵛ units_value (λ i. ts (suc i)) as') *ᵛ units_value us bs) (fun_ext (λ i. ap ts (next (length as') i)))
    where
      next : (m i : ℕ) → suc (m + i) ≡ suc m + i
      next m i = omega arith

      regrouped : (a b c : Value d) → a *ᵛ (b *ᵛ c) ≡ (a *ᵛ b) *ᵛ c
      regrouped a b c = ring (ValueR d) (a ∷ b ∷ c ∷ []) (search reads depth 16) refl

  units-same : (ts us : ℕ → Value d) (es : List ℤ) → ((i : ℕ) → i < length es → ts i ≡ us i) → units_value ts es ≡ units_value us es
  units-same ts us [] h = refl
  units-same ts us (e ∷ es) h =
      ap₂ (λ a b. power (ValueF d) a e *ᵛ b) (h 0 (omega arith)) (units-same (λ i. ts (suc i)) (λ i. us (suc i)) es (λ i l. h (suc i) (omega (arith, l))))

  natural-power : (v : Value d) (e : ℤ) → pos 0 ≤ℤ e → power (ValueF d) v e ≡ pow (ValueR d) v (unsigned_abs e)
  natural-power v (pos n) l = refl
  natural-power v (negsuc n) l = absurd (omega (arith, ints, l))

  powers-split : (n : ℕ) (p : Point d) (rs bs : List ℤ) → length rs ≡ n → Each (λ e. pos 0 ≤ℤ e) rs → powers_at n p (rs ++ reverse bs) ≡ units_value p.products bs *ᵛ units_value p.sums (reverse rs)
  powers-split zero p [] bs l h = ap (units_value p.products) (reverse-reverse bs) ∙ ring (ValueR d) (units_value p.products bs ∷ []) (search reads depth 12) refl
  powers-split zero p (a ∷ rs) bs l h = absurd (omega (arith, l))
  powers-split (suc n) p [] bs l h = absurd (omega (arith, l))
  powers-split (suc n) p (a ∷ rs) bs l h =
      ap (λ e. pow (ValueR d) (p.sums n) (unsigned_abs a) *ᵛ e) (powers-split n p rs bs (omega (arith, l)) h.1)
      ∙ turned (pow (ValueR d) (p.sums n) (unsigned_abs a)) (units_value p.products bs) (units_value p.sums (reverse rs))
      ∙ ap (λ e. units_value p.products bs *ᵛ (units_value p.sums (reverse rs) *ᵛ (e *ᵛ one_value))) (sym (natural-power (p.sums n) a h.0) ∙ ap (λ (m : ℕ). power (ValueF d) (p.sums m) a) last)
      ∙ ap (λ e. units_value p.products bs *ᵛ e) (sym (units-append p.sums (reverse rs) (a ∷ [])))
      ∙ ap (λ (es : List ℤ). units_value p.products bs *ᵛ units_value p.sums es) (sym (reverse-append (a ∷ []) rs))
    where
      last : n ≡ length (reverse rs) + 0
      last = let m = length-reverse rs in omega (arith, l, m)

      turned : (a b c : Value d) → a *ᵛ (b *ᵛ c) ≡ b *ᵛ (c *ᵛ (a *ᵛ one_value))
      turned a b c = ring (ValueR d) (a ∷ b ∷ c ∷ []) (search reads depth 16) refl

  -- the powers of the values
  powers-units : (vs : List (Value d)) (es : List ℤ) (u : Value d) → length es ≤ length vs → ArePowers vs es u → u ≡ units_value (coefficient vs) es
  powers-units vs [] u l h = h
  powers-units [] (e ∷ es) u l h = absurd (omega (arith, l))
  powers-units (v ∷ vs) (e ∷ es) u l h = h.4 ∙ ap₂ ◌*ᵛ◌ (power-is v h.0 e h.2) (powers-units vs es h.1 (omega (arith, l)) h.3)

  units-powers : (vs : List (Value d)) (es : List ℤ) → length es ≤ length vs → ((i : ℕ) (e : ℤ) → i < length es → e ≡ get_or es i e → IsPowerOf (coefficient vs i) e (power (ValueF d) (coefficient vs i) e)) → ArePowers vs es (units_value (coefficient vs) es)
  units-powers vs [] l h = refl
  units-powers [] (e ∷ es) l h = absurd (omega (arith, l))
  units-powers (v ∷ vs) (e ∷ es) l h =
      (power (ValueF d) v e, units_value (coefficient vs) es, h 0 e (omega arith) refl, units-powers vs es (omega (arith, l)) (λ i a m q. h (suc i) a (omega (arith, m)) q), refl)

  module _ (f : Formal d) (k : ℤ) (vs : List (Value d)) (p : Point d) (at : IsPointAt f k vs p) (size : length vs ≡ length f.products + f.sums) where
    abbrev r : ℕ
    r = length f.products

    powers-at : (es : List ℤ) → length es ≡ length f.products + f.sums → Each (λ e. pos 0 ≤ℤ e) (drop (length f.products) es) → powers_at f.sums p (reverse es) ≡ units_value (coefficient vs) es
    powers-at es l h =
        ap (powers_at f.sums p) (ap reverse (sym (take-append-drop r es)) ∙ reverse-append (take r es) (drop r es))
        ∙ powers-split f.sums p (reverse (drop r es)) (take r es) (length-reverse (drop r es) ∙ after) (each-reverse (λ e. pos 0 ≤ℤ e) (drop r es) h)
        ∙ ap (λ (l : List ℤ). units_value p.products (take r es) *ᵛ units_value p.sums l) (reverse-reverse (drop r es))
        ∙ ap₂ ◌*ᵛ◌ (units-same p.products (coefficient vs) (take r es) (λ i m. at.products i (omega (arith, before, m)))) (units-same p.sums (λ i. coefficient vs (r + i)) (drop r es) (λ i m. at.sums i (omega (arith, after, m))))
        ∙ ap (λ (m : ℕ). units_value (coefficient vs) (take r es) *ᵛ units_value (λ i. coefficient vs (m + i)) (drop r es)) (sym before)
        ∙ sym (units-append (coefficient vs) (take r es) (drop r es))
        ∙ ap (units_value (coefficient vs)) (take-append-drop r es)
      where
        after : length (drop r es) ≡ f.sums
        after = let m = length-drop r es in omega (arith, l, m)

        before : length (take r es) ≡ r
        before = let m = length-take r es in omega (arith, l, m)

    -- each power is defined: a product isn't 0, an exponent of a sum is natural
    defined : (es : List ℤ) → length es ≡ length f.products + f.sums → Each (λ e. pos 0 ≤ℤ e) (drop (length f.products) es) → (i : ℕ) (e : ℤ) → i < length es → e ≡ get_or es i e → IsPowerOf (coefficient vs i) e (power (ValueF d) (coefficient vs i) e)
    defined es l h i e m q = go (low_or_high i r)
      where
        go : (i < r) ⊎ (r ≤ i) → IsPowerOf (coefficient vs i) e (power (ValueF d) (coefficient vs i) e)
        go (inl n) = power-some (coefficient vs i) e (λ z. p.nonzero i (at.products i n ∙ z))
        go (inr n) =
            let natural : pos 0 ≤ℤ e = each-natural (drop r es) (i - r) e (let b = length-drop r es in omega (arith, m, n, b)) (q ∙ sym (get_or-drop r es (i - r) e ∙ ap (λ (j : ℕ). get_or es j e) (omega (arith, n)))) h in
            subst (IsPowerOf (coefficient vs i) e) (sym (natural-power (coefficient vs i) e natural)) (power-whole (coefficient vs i) e natural)
          where
            each-natural : (xs : List ℤ) (j : ℕ) (e : ℤ) → j < length xs → e ≡ get_or xs j e → Each (λ e. pos 0 ≤ℤ e) xs → pos 0 ≤ℤ e
            each-natural xs j e l q h = subst (λ (z : ℤ). pos 0 ≤ℤ z) (sym q) (each-at (λ e. pos 0 ≤ℤ e) xs j e l h)

    abbrev IsSized : Term d → Type 0
    IsSized t = length t.exponents ≡ length f.products + f.sums

    abbrev IsNatural : Term d → Type 0
    IsNatural t = Each (λ e. pos 0 ≤ℤ e) (drop (length f.products) t.exponents)

    terms-of : (ts : List (Term d)) (v : Value d) → Each IsSized ts → Each IsNatural ts → HasFlat f.products f.sums p ts v → AreTermsAt k vs ts v
    terms-of [] v s n h = h
    terms-of (t ∷ ts) v s n h =
        let u = powers_at f.sums p (reverse t.exponents) in
        let room : length t.exponents ≤ length vs = let z = s.0 in omega (arith, z, size) in (
          h.0 *ᵛ u,
          h.1,
          (
            h.0,
            u,
            subst (λ (j : ℤ). IsQuotientAt j t.coefficient h.0) at.variable h.2,
            subst (ArePowers vs t.exponents) (sym (powers-at t.exponents s.0 n.0)) (units-powers vs t.exponents room (defined t.exponents s.0 n.0)),
            refl,
          ),
          terms-of ts h.1 s.1 n.1 h.3,
          h.4,
        )

    has-terms : (ts : List (Term d)) (v : Value d) → Each IsSized ts → Each IsNatural ts → AllFit f.products f.sums ts → AreTermsAt k vs ts v → HasIn f.products f.sums p (all f.products f.sums ts) v
    has-terms [] v s n fit h = subst (HasIn f.products f.sums p (all f.products f.sums [])) (sym h) (evaluation_in f.products f.sums p).zero_has
    has-terms (t ∷ ts) v s n fit h =
        let room : length t.exponents ≤ length vs = let z = s.0 in omega (arith, z, size) in
        let term = h.2 in
        let u : h.0 ≡ term.0 *ᵛ powers_at f.sums p (reverse t.exponents) = term.4 ∙ ap (λ e. term.0 *ᵛ e) (powers-units vs t.exponents term.1 room term.3 ∙ sym (powers-at t.exponents s.0 n.0)) in
        subst (HasIn f.products f.sums p (all f.products f.sums (t ∷ ts))) (sym (h.4 ∙ ap (λ e. e +ᵛ h.1) u))
        ((evaluation_in f.products f.sums p).add_has (one f.products f.sums t) (all f.products f.sums ts) (term.0 *ᵛ powers_at f.sums p (reverse t.exponents)) h.1
        (term-has f.products f.sums p (reverse t.exponents) t.coefficient term.0 fit.0 (subst (λ (j : ℤ). IsQuotientAt j t.coefficient term.0) (sym at.variable) term.2))
        (has-terms ts h.1 s.1 n.1 fit.1 h.3))

    all-is : (ts : List (Term d)) → of_terms f ts ≡ all f.products f.sums ts
    all-is [] = refl
    all-is (t ∷ ts) = ap (λ x. (elements f).◌⊞◌ (of_term f t) x) (all-is ts)

    pub element-terms : (x : Element f) (ts : List (Term d)) (v : Value d) → IsFlat f x ts → HasElement f p x v → AreTermsAt k vs ts v
    element-terms x ts v flat h = terms-of ts v flat.sized flat.natural (flat-value f p x ts v flat h)

    pub terms-element : (x : Element f) (ts : List (Term d)) (v : Value d) → IsFlat f x ts → AreTermsAt k vs ts v → HasElement f p x v
    terms-element x ts v flat h =
        (evaluation f p).same (of_terms f ts) x v ((elements f).symm flat.same)
        (subst (λ (y : Element f). HasElement f p y v) (sym (all-is ts)) (has-terms ts v flat.sized flat.natural (fits_flat f ts flat.sized flat.natural) h))
