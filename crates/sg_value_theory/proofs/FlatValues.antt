-- The value of an element is that of its flat list of terms.
--   Fits αs n es            natural exponents of n sums, the last first, and then those of the products, the last first
--   Differ αs n es fs       two such lists differ
--   coef_in αs n es x       the coefficient of the element x at these exponents
--   coef_in_cong, -add, -term, -other     its laws
--   coefficient-has         where x has a value, each coefficient has one
--   powers_at αs n p es     the product of the powers of the values at a point
--   flat-has                the coefficients of a flat list have values, and the element that of the terms
use Rattle.std.proofs.Common.{◌≡◌, ◌≢◌, ℕ, zero, suc, ℤ, pos, negsuc, ◌≤ℤ◌, refl, sym, ap, ap₂, ◌∙◌, subst, List, [], ◌∷◌, length, reverse, arith, ◌⊎◌, inl, inr}
use Rattle.std.proofs.lemmas.List.{length-reverse, reverse-reverse}
use Rattle.sg_algebra.specs.Ring.{Ring, Domain}
use Rattle.sg_algebra.specs.Coefficients.{coef, Each, eval}
use Rattle.sg_algebra.proofs.Ring.{pow}
use Rattle.sg_algebra.proofs.Solver.{ring, by, scale, reads}
use Rattle.sg_algebra.proofs.PolynomialRing.{PolyR, X, coef-zip, cons_cong}
use Rattle.sg_algebra.proofs.Value.{Value, ◌+ᵛ◌, ◌*ᵛ◌, zero_value, one_value}
use Rattle.sg_algebra.proofs.ValueField.{ValueR, ValueF}
use Rattle.sg_algebra.proofs.Place.{Pairwise}
use Rattle.sg_algebra.proofs.Lists.{each_to}
use Rattle.sg_tower_theory.specs.Powers.{power}
use Rattle.sg_tower_theory.proofs.Laurent.{LaurentR}
use Rattle.sg_tower_theory.proofs.LaurentCoefficients.{at, at_cong, fetch, up, term}
use Rattle.sg_tower_theory.proofs.Products.{Exponents, listed, LaurentsD, LaurentsR, coefficient, coefficient_cong, coefficient-add, coefficient-none}
use Rattle.sg_tower_theory.proofs.ProductSlices.{monomial, monomial-at, monomial-past}
use Rattle.sg_tower_theory.proofs.Monomials.{one_term, one_term-is}
use Rattle.sg_tower_theory.proofs.Nested.{NestedR}
use Rattle.sg_tower_theory.proofs.Formal.{base, factors}
use Rattle.sg_tower_theory.proofs.Flat.{Term, raised_to, term_in, exponent_of, without_first}
use Rattle.sg_value_theory.proofs.Evaluation.{Evaluation, evaluation_of}
use Rattle.sg_value_theory.proofs.Elements.{Point, IsQuotientAt, IsPolynomialAt, IsLaurentAt, HasLaurent, HasIn}
use Rattle.sg_value_theory.proofs.Evaluations.{laurent_laws, evaluation_in}
use Rattle.sg_value_theory.proofs.Polynomials.{raised, raised-constant}
use Rattle.sg_value_theory.proofs.LaurentValues.{power_has}

module _ (E : Ring) where
  raised_to-at : (n : ℕ) (x : E.A) → E.◌≈◌ (coef E (raised_to E n x) n) x
  raised_to-at zero x = E.rfl
  raised_to-at (suc n) x = raised_to-at n x

  raised_to-other : (m n : ℕ) (x : E.A) → m ≢ n → E.◌≈◌ (coef E (raised_to E m x) n) E.O
  raised_to-other zero zero x h = absurd (h refl)
  raised_to-other zero (suc n) x h = E.rfl
  raised_to-other (suc m) zero x h = E.rfl
  raised_to-other (suc m) (suc n) x h = raised_to-other m n x (λ e. h (ap suc e))

  picked : {d : ℕ} (V : Evaluation E d) (cs : List E.A) (vs : List (Value d)) → Pairwise V.Has cs vs → (n : ℕ) → (v : Value d) × V.Has (coef E cs n) v
  picked V [] vs h n = (zero_value, V.zero_has)
  picked V (c ∷ cs) [] h n = absurd h
  picked V (c ∷ cs) (v ∷ vs) h zero = (v, h.0)
  picked V (c ∷ cs) (v ∷ vs) h (suc n) = picked V cs vs h.1 n

  coefficient-at : {d : ℕ} (V : Evaluation E d) (t : Value d) (p : List E.A) (v : Value d) → IsPolynomialAt E V.Has t p v → (n : ℕ) → (w : Value d) × V.Has (coef E p n) w
  coefficient-at V t p v h n = let r = picked V h.coefficients h.values h.each n in (r.0, V.same (coef E h.coefficients n) (coef E p n) r.0 (E.symm (h.same.image.at n)) r.1)

  later : {d : ℕ} (v t q e : Value d) → v *ᵛ q ≡ e → v *ᵛ (q *ᵛ t) ≡ zero_value +ᵛ t *ᵛ e
  later {d} v t q e h = by (ValueR d) (v ∷ t ∷ q ∷ e ∷ []) (scale (ValueR d) t h) (search reads depth 16) refl

  raised_to-has : {d : ℕ} (V : Evaluation E d) (t : Value d) (n : ℕ) (x : E.A) (v : Value d) → V.Has x v → IsPolynomialAt E V.Has t (raised_to E n x) (v *ᵛ pow (ValueR d) t n)
  raised_to-has {d} V t zero x v h = subst (IsPolynomialAt E V.Has t (x ∷ [])) (ring (ValueR d) (v ∷ []) (search reads depth 16) refl) (raised-constant E V t x v h)
  raised_to-has {d} V t (suc n) x v h =
      let i = raised_to-has V t n x v h in
      record {
        coefficients = E.O ∷ i.coefficients;
        values = zero_value ∷ i.values;
        same = cons_cong E E.O E.O (raised_to E n x) i.coefficients E.rfl i.same;
        each = (V.zero_has, i.each);
        value = later v t (pow (ValueR d) t n) (eval (ValueR d) i.values t) i.value;
      }

-- ---- Exponents, the last first

module _ {d : ℕ} where
  abbrev pub Fits : List (Value (suc d)) → ℕ → List ℤ → Type 0
  Fits αs zero es = length es ≡ length (factors αs)
  Fits αs (suc n) [] = ⊥
  Fits αs (suc n) (e ∷ es) = (pos 0 ≤ℤ e) × Fits αs n es

  fits_rest : (αs : List (Value (suc d))) (n : ℕ) (es : List ℤ) → Fits αs (suc n) es → Fits αs n (without_first es)
  fits_rest αs n [] h = absurd h
  fits_rest αs n (e ∷ es) h = h.1

abbrev pub Differ : ℕ → List ℤ → List ℤ → Type 0
Differ zero es fs = es ≢ fs
Differ (suc n) es fs = (exponent_of es ≢ exponent_of fs) ⊎ Differ n (without_first es) (without_first fs)

pub differ-sym : (n : ℕ) (es fs : List ℤ) → Differ n es fs → Differ n fs es
differ-sym zero es fs h = λ e. h (sym e)
differ-sym (suc n) es fs (inl h) = inl (λ e. h (sym e))
differ-sym (suc n) es fs (inr h) = inr (differ-sym n (without_first es) (without_first fs) h)

pub same_or_not : (m n : ℕ) → (m ≡ n) ⊎ (m ≢ n)
same_or_not zero zero = inl refl
same_or_not zero (suc n) = inr (λ e. omega (arith, e))
same_or_not (suc m) zero = inr (λ e. omega (arith, e))
same_or_not (suc m) (suc n) = next (same_or_not m n)
  where
    next : (m ≡ n) ⊎ (m ≢ n) → (suc m ≡ suc n) ⊎ (suc m ≢ suc n)
    next (inl e) = inl (ap suc e)
    next (inr h) = inr (λ e. h (omega (arith, e)))

-- one exponent for each product, 0 where there is none
abbrev tuple : (n : ℕ) → List ℤ → Exponents n
tuple zero es = tt
tuple (suc n) [] = (pos 0, tuple n [])
tuple (suc n) (e ∷ es) = (e, tuple n es)

tuple_listed : (n : ℕ) (es : List ℤ) → length es ≡ n → listed n (tuple n es) ≡ es
tuple_listed zero [] h = refl
tuple_listed zero (e ∷ es) h = absurd (omega (arith, h))
tuple_listed (suc n) [] h = absurd (omega (arith, h))
tuple_listed (suc n) (e ∷ es) h = ap (λ (xs : List ℤ). e ∷ xs) (tuple_listed n es (omega (arith, h)))

-- ---- Products

module _ {d : ℕ} where
  -- the product of the powers of the values
  abbrev pub units_value : (ℕ → Value d) → List ℤ → Value d
  units_value ts [] = one_value
  units_value ts (e ∷ es) = power (ValueF d) (ts 0) e *ᵛ units_value (λ i. ts (suc i)) es

  term-value : (D : Domain) (V : Evaluation D.R d) (t : Value d) → ¬ (t ≡ zero_value) → (e : ℤ) (c : D.R.A) (v : Value d) → V.Has c v → IsLaurentAt D V.Has t (term D e c) (v *ᵛ power (ValueF d) t e)
  term-value D V t n (pos m) c v h = record {
    upper = (PolyR D.R).◌⊠◌ (c ∷ []) (pow (PolyR D.R) (X D.R) m);
    lag = 0;
    same = (LaurentR D).rfl;
    upper_value = v *ᵛ pow (ValueR d) t m;
    upper_has = (raised D.R V t).mul_has (c ∷ []) (pow (PolyR D.R) (X D.R) m) v (pow (ValueR d) t m) (raised-constant D.R V t c v h) (power_has D V t n m);
    value = ring (ValueR d) ((v *ᵛ pow (ValueR d) t m) ∷ []) (search reads depth 16) refl;
  }
  term-value D V t n (negsuc m) c v h = record { upper = c ∷ []; lag = suc m; same = (LaurentR D).rfl; upper_value = v; upper_has = raised-constant D.R V t c v h; value = refl }

  one_term-has : (n : ℕ) (k : ℤ) (ts : ℕ → Value d) (ne : (i : ℕ) → ¬ (ts i ≡ zero_value)) (es : List ℤ) (c : Value (suc d)) (w : Value d) → length es ≡ n → IsQuotientAt k c w → HasLaurent n k ts (one_term (ValueF (suc d)) n es c) (w *ᵛ units_value ts es)
  one_term-has zero k ts ne [] c w l h = subst (IsQuotientAt k c) (ring (ValueR d) (w ∷ []) (search reads depth 16) refl) h
  one_term-has zero k ts ne (e ∷ es) c w l h = absurd (omega (arith, l))
  one_term-has (suc n) k ts ne [] c w l h = absurd (omega (arith, l))
  one_term-has (suc n) k ts ne (e ∷ es) c w l h =
      subst (HasLaurent (suc n) k ts (one_term (ValueF (suc d)) (suc n) (e ∷ es) c)) (turned w (power (ValueF d) (ts 0) e) (units_value (λ i. ts (suc i)) es))
      (term-value (LaurentsD (ValueF (suc d)) n) (evaluation_of (laurent_laws n k (λ i. ts (suc i)) (λ i. ne (suc i)))) (ts 0) (ne 0) e (one_term (ValueF (suc d)) n es c) (w *ᵛ units_value (λ i. ts (suc i)) es)
      (one_term-has n k (λ i. ts (suc i)) (λ i. ne (suc i)) es c w (omega (arith, l)) h))
    where
      turned : (w p u : Value d) → (w *ᵛ u) *ᵛ p ≡ w *ᵛ (p *ᵛ u)
      turned w p u = ring (ValueR d) (w ∷ p ∷ u ∷ []) (search reads depth 16) refl

  laurent-coefficient : (n : ℕ) (k : ℤ) (ts : ℕ → Value d) (ne : (i : ℕ) → ¬ (ts i ≡ zero_value)) (t : Exponents n) (x : (LaurentsR (ValueF (suc d)) n).A) (v : Value d) → HasLaurent n k ts x v → (w : Value d) × IsQuotientAt k (coefficient (ValueF (suc d)) n t x) w
  laurent-coefficient zero k ts ne t x v h = (v, h)
  laurent-coefficient (suc n) k ts ne t x v h = go (fetched (up h.lag t.0)) (λ w i. laurent-coefficient n k (λ i. ts (suc i)) (λ i. ne (suc i)) t.1 (at (LaurentsD (ValueF (suc d)) n) t.0 x) w i)
    where
      V : Evaluation (LaurentsR (ValueF (suc d)) n) d
      V = evaluation_of (laurent_laws n k (λ i. ts (suc i)) (λ i. ne (suc i)))

      fetched : (z : ℤ) → (w : Value d) × HasLaurent n k (λ i. ts (suc i)) (fetch (LaurentsR (ValueF (suc d)) n) h.upper z) w
      fetched (pos m) = coefficient-at (LaurentsR (ValueF (suc d)) n) (evaluation_of (laurent_laws n k (λ i. ts (suc i)) (λ i. ne (suc i)))) (ts 0) h.upper h.upper_value h.upper_has m
      fetched (negsuc m) = (zero_value, (laurent_laws n k (λ i. ts (suc i)) (λ i. ne (suc i))).zero_has)

      go : (w : Value d) × HasLaurent n k (λ i. ts (suc i)) (fetch (LaurentsR (ValueF (suc d)) n) h.upper (up h.lag t.0)) w
          → ((w : Value d) → HasLaurent n k (λ i. ts (suc i)) (at (LaurentsD (ValueF (suc d)) n) t.0 x) w → (u : Value d) × IsQuotientAt k (coefficient (ValueF (suc d)) (suc n) t x) u) → (w : Value d) × IsQuotientAt k (coefficient (ValueF (suc d)) (suc n) t x) w
      go r again = again r.0 ((laurent_laws n k (λ i. ts (suc i)) (λ i. ne (suc i))).same (fetch (LaurentsR (ValueF (suc d)) n) h.upper (up h.lag t.0)) (at (LaurentsD (ValueF (suc d)) n) t.0 x) r.0
          ((LaurentsR (ValueF (suc d)) n).symm (at_cong (LaurentsD (ValueF (suc d)) n) x (record { poly = h.upper; lag = h.lag }) h.same t.0)) r.1)

-- ---- Coefficients

module _ {d : ℕ} (αs : List (Value (suc d))) where
  abbrev r : ℕ
  r = length (factors αs)

  abbrev R : ℕ → Ring
  R n = NestedR (base αs) n

  abbrev pub coef_in : (n : ℕ) → List ℤ → (NestedR (base αs) n).A → Value (suc d)
  coef_in zero es x = coefficient (ValueF (suc d)) (length (factors αs)) (tuple (length (factors αs)) (reverse es)) x
  coef_in (suc n) es x = coef_in n (without_first es) (coef (NestedR (base αs) n) x (exponent_of es))

  pub coef_in_cong : (n : ℕ) (es : List ℤ) (x y : (NestedR (base αs) n).A) → (NestedR (base αs) n).◌≈◌ x y → coef_in n es x ≡ coef_in n es y
  coef_in_cong zero es x y h = coefficient_cong (ValueF (suc d)) r (tuple r (reverse es)) x y h
  coef_in_cong (suc n) es x y h = coef_in_cong n (without_first es) (coef (R n) x (exponent_of es)) (coef (R n) y (exponent_of es)) (h.image.at (exponent_of es))

  pub coef_in-add : (n : ℕ) (es : List ℤ) (x y : (NestedR (base αs) n).A) → coef_in n es ((NestedR (base αs) n).◌⊞◌ x y) ≡ coef_in n es x +ᵛ coef_in n es y
  coef_in-add zero es x y = coefficient-add (ValueF (suc d)) r (tuple r (reverse es)) x y
  coef_in-add (suc n) es x y =
      coef_in_cong n (without_first es) (coef (R n) ((R (suc n)).◌⊞◌ x y) (exponent_of es)) ((R n).◌⊞◌ (coef (R n) x (exponent_of es)) (coef (R n) y (exponent_of es))) (coef-zip (R n) x y (exponent_of es))
      ∙ coef_in-add n (without_first es) (coef (R n) x (exponent_of es)) (coef (R n) y (exponent_of es))

  pub coef_in-zero : (n : ℕ) (es : List ℤ) → coef_in n es (NestedR (base αs) n).O ≡ zero_value
  coef_in-zero zero es = coefficient-none (ValueF (suc d)) r (tuple r (reverse es))
  coef_in-zero (suc n) es = coef_in-zero n (without_first es)

  -- a term of the base is a monomial
  base_term : (es : List ℤ) (c : Value (suc d)) → length es ≡ length (factors αs) → one_term (ValueF (suc d)) r (reverse es) c ≡ monomial (ValueF (suc d)) r (tuple r (reverse es)) c
  base_term es c l = ap (λ (xs : List ℤ). one_term (ValueF (suc d)) r xs c) (sym (tuple_listed r (reverse es) (length-reverse es ∙ l))) ∙ one_term-is (ValueF (suc d)) r (tuple r (reverse es)) c

  pub coef_in-term : (n : ℕ) (es : List ℤ) (c : Value (suc d)) → Fits αs n es → coef_in n es (term_in αs n es c) ≡ c
  coef_in-term zero es c l = ap (coefficient (ValueF (suc d)) r (tuple r (reverse es))) (base_term es c l) ∙ monomial-at (ValueF (suc d)) r (tuple r (reverse es)) c
  coef_in-term (suc n) es c l =
      coef_in_cong n (without_first es) (coef (R n) (raised_to (R n) (exponent_of es) (term_in αs n (without_first es) c)) (exponent_of es)) (term_in αs n (without_first es) c)
      (raised_to-at (R n) (exponent_of es) (term_in αs n (without_first es) c))
      ∙ coef_in-term n (without_first es) c (fits_rest αs n es l)

  base_other : (es fs : List ℤ) (c : Value (suc d)) → length es ≡ length (factors αs) → length fs ≡ length (factors αs) → fs ≢ es → coef_in zero es (term_in αs zero fs c) ≡ zero_value
  base_other es fs c l m h =
      ap (coefficient (ValueF (suc d)) r (tuple r (reverse es))) (base_term fs c m)
      ∙ monomial-past (ValueF (suc d)) r (tuple r (reverse fs)) (tuple r (reverse es)) c
      (λ e. h (sym (reverse-reverse fs) ∙ ap reverse (sym (tuple_listed r (reverse fs) (length-reverse fs ∙ m)) ∙ ap (listed r) (sym e) ∙ tuple_listed r (reverse es) (length-reverse es ∙ l)) ∙ reverse-reverse es))

  pub coef_in-other : (n : ℕ) (es fs : List ℤ) (c : Value (suc d)) → Fits αs n es → Fits αs n fs → Differ n fs es → coef_in n es (term_in αs n fs c) ≡ zero_value
  coef_in-other zero es fs c l m h = base_other es fs c l m h
  coef_in-other (suc n) es fs c l m h = cases (λ i. coef_in-other n (without_first es) (without_first fs) c (fits_rest αs n es l) (fits_rest αs n fs m) i) (same_or_not (exponent_of fs) (exponent_of es)) h
    where
      other : exponent_of fs ≢ exponent_of es → coef_in (suc n) es (term_in αs (suc n) fs c) ≡ zero_value
      other e =
          coef_in_cong n (without_first es) (coef (R n) (raised_to (R n) (exponent_of fs) (term_in αs n (without_first fs) c)) (exponent_of es)) (R n).O
          (raised_to-other (R n) (exponent_of fs) (exponent_of es) (term_in αs n (without_first fs) c) e)
          ∙ coef_in-zero n (without_first es)

      below : exponent_of fs ≡ exponent_of es → coef_in n (without_first es) (term_in αs n (without_first fs) c) ≡ zero_value → coef_in (suc n) es (term_in αs (suc n) fs c) ≡ zero_value
      below e z =
          coef_in_cong n (without_first es) (coef (R n) (raised_to (R n) (exponent_of fs) (term_in αs n (without_first fs) c)) (exponent_of es)) (term_in αs n (without_first fs) c)
          (subst (λ (m : ℕ). (R n).◌≈◌ (coef (R n) (raised_to (R n) (exponent_of fs) (term_in αs n (without_first fs) c)) m) (term_in αs n (without_first fs) c)) e
          (raised_to-at (R n) (exponent_of fs) (term_in αs n (without_first fs) c)))
          ∙ z

      cases : (Differ n (without_first fs) (without_first es) → coef_in n (without_first es) (term_in αs n (without_first fs) c) ≡ zero_value) → (exponent_of fs ≡ exponent_of es) ⊎ (exponent_of fs ≢ exponent_of es)
          → (exponent_of fs ≢ exponent_of es) ⊎ Differ n (without_first fs) (without_first es) → coef_in (suc n) es (term_in αs (suc n) fs c) ≡ zero_value
      cases lower (inr e) i = other e
      cases lower (inl e) (inl i) = absurd (i e)
      cases lower (inl e) (inr i) = below e (lower i)

  pub coefficient-has : (n : ℕ) (p : Point d) (es : List ℤ) (x : (NestedR (base αs) n).A) (v : Value d) → HasIn αs n p x v → (w : Value d) × IsQuotientAt p.variable (coef_in n es x) w
  coefficient-has zero p es x v h = laurent-coefficient r p.variable p.products p.nonzero (tuple r (reverse es)) x v h
  coefficient-has (suc n) p es x v h =
      let q = coefficient-at (R n) (evaluation_in αs n p) (p.sums n) x v h (exponent_of es) in
      coefficient-has n p (without_first es) (coef (R n) x (exponent_of es)) q.0 q.1

-- the product of the powers of the values at a point
abbrev pub powers_at : {d : ℕ} → ℕ → Point d → List ℤ → Value d
powers_at zero p es = units_value p.products (reverse es)
powers_at {d} (suc n) p es = pow (ValueR d) (p.sums n) (exponent_of es) *ᵛ powers_at n p (without_first es)

module _ {d : ℕ} (αs : List (Value (suc d))) where
  pub term-has : (n : ℕ) (p : Point d) (es : List ℤ) (c : Value (suc d)) (w : Value d) → Fits αs n es → IsQuotientAt p.variable c w → HasIn αs n p (term_in αs n es c) (w *ᵛ powers_at n p es)
  term-has zero p es c w l h = one_term-has (length (factors αs)) p.variable p.products p.nonzero (reverse es) c w (length-reverse es ∙ l) h
  term-has (suc n) p es c w l h =
      subst (IsPolynomialAt (NestedR (base αs) n) (HasIn αs n p) (p.sums n) (raised_to (NestedR (base αs) n) (exponent_of es) (term_in αs n (without_first es) c)))
      (turned w (powers_at n p (without_first es)) (pow (ValueR d) (p.sums n) (exponent_of es)))
      (raised_to-has (NestedR (base αs) n) (evaluation_in αs n p) (p.sums n) (exponent_of es) (term_in αs n (without_first es) c) (w *ᵛ powers_at n p (without_first es)) (term-has n p (without_first es) c w (fits_rest αs n es l) h))
    where
      turned : (w u p : Value d) → (w *ᵛ u) *ᵛ p ≡ w *ᵛ (p *ᵛ u)
      turned w u p = ring (ValueR d) (w ∷ u ∷ p ∷ []) (search reads depth 16) refl

  -- ---- Lists of terms

  module _ (n : ℕ) where
    abbrev pub E : Ring
    E = NestedR (base αs) n

    abbrev pub one : Term d → E.A
    one t = term_in αs n (reverse t.exponents) t.coefficient

    abbrev pub all : List (Term d) → E.A
    all [] = E.O
    all (t ∷ ts) = E.◌⊞◌ (one t) (all ts)

    abbrev pub AllFit : List (Term d) → Type 0
    AllFit ts = Each (λ t. Fits αs n (reverse t.exponents)) ts

    abbrev pub Apart : Term d → Term d → Type 0
    Apart t u = Differ n (reverse t.exponents) (reverse u.exponents)

    abbrev pub AllApart : List (Term d) → Type 0
    AllApart [] = Unit {0}
    AllApart (t ∷ ts) = Each (Apart t) ts × AllApart ts

    none : (es : List ℤ) → Fits αs n es → (ts : List (Term d)) → AllFit ts → Each (λ u. Differ n es (reverse u.exponents)) ts → coef_in αs n es (all ts) ≡ zero_value
    none es l [] f h = coef_in-zero αs n es
    none es l (u ∷ ts) f h =
        coef_in-add αs n es (one u) (all ts)
        ∙ ap₂ ◌+ᵛ◌ (coef_in-other αs n es (reverse u.exponents) u.coefficient l f.0 (differ-sym n es (reverse u.exponents) h.0)) (none es l ts f.1 h.1)
        ∙ ring (ValueR (suc d)) [] (search reads depth 16) refl

    first-is : (t : Term d) (ts : List (Term d)) → AllFit (t ∷ ts) → Each (Apart t) ts → coef_in αs n (reverse t.exponents) (all (t ∷ ts)) ≡ t.coefficient
    first-is t ts f h =
        coef_in-add αs n (reverse t.exponents) (one t) (all ts)
        ∙ ap₂ ◌+ᵛ◌ (coef_in-term αs n (reverse t.exponents) t.coefficient f.0) (none (reverse t.exponents) f.0 ts f.1 h)
        ∙ ring (ValueR (suc d)) (t.coefficient ∷ []) (search reads depth 16) refl

    later-is : (t u : Term d) (ts : List (Term d)) → Fits αs n (reverse t.exponents) → Fits αs n (reverse u.exponents) → Apart t u → coef_in αs n (reverse u.exponents) (all ts) ≡ u.coefficient → coef_in αs n (reverse u.exponents) (all (t ∷ ts)) ≡ u.coefficient
    later-is t u ts k l h e =
        coef_in-add αs n (reverse u.exponents) (one t) (all ts)
        ∙ ap₂ ◌+ᵛ◌ (coef_in-other αs n (reverse u.exponents) (reverse t.exponents) t.coefficient l k h) e
        ∙ ring (ValueR (suc d)) (u.coefficient ∷ []) (search reads depth 16) refl

    laters : (t : Term d) (all-of ts : List (Term d)) → Fits αs n (reverse t.exponents) → AllFit ts → Each (Apart t) ts → Each (λ u. coef_in αs n (reverse u.exponents) (all all-of) ≡ u.coefficient) ts
        → Each (λ u. coef_in αs n (reverse u.exponents) (all (t ∷ all-of)) ≡ u.coefficient) ts
    laters t all-of [] k f h i = tt
    laters t all-of (u ∷ ts) k f h i = (later-is t u all-of k f.0 h.0 i.0, laters t all-of ts k f.1 h.1 i.1)

    pub coefficients-are : (ts : List (Term d)) → AllFit ts → AllApart ts → Each (λ t. coef_in αs n (reverse t.exponents) (all ts) ≡ t.coefficient) ts
    coefficients-are [] f h = tt
    coefficients-are (t ∷ ts) f h = (first-is t ts f h.0, laters t ts ts f.0 f.1 h.0 (coefficients-are ts f.1 h.1))

    -- the terms have values, and v is their sum
    abbrev pub HasFlat : Point d → List (Term d) → Value d → Type 0
    HasFlat p [] v = v ≡ zero_value
    HasFlat p (t ∷ ts) v = (c : Value d) × (w : Value d) × IsQuotientAt p.variable t.coefficient c × HasFlat p ts w × (v ≡ c *ᵛ powers_at n p (reverse t.exponents) +ᵛ w)

    some-flat : (p : Point d) (ts : List (Term d)) → AllFit ts → Each (λ t. (w : Value d) × IsQuotientAt p.variable t.coefficient w) ts → (v : Value d) × HasFlat p ts v × HasIn αs n p (all ts) v
    some-flat p [] f h = (zero_value, refl, (evaluation_in αs n p).zero_has)
    some-flat p (t ∷ ts) f h =
        let q = some-flat p ts f.1 h.1 in (
          h.0.0 *ᵛ powers_at n p (reverse t.exponents) +ᵛ q.0,
          (h.0.0, q.0, h.0.1, q.1, refl),
          (evaluation_in αs n p).add_has (one t) (all ts) (h.0.0 *ᵛ powers_at n p (reverse t.exponents)) q.0 (term-has n p (reverse t.exponents) t.coefficient h.0.0 f.0 h.0.1) q.2,
        )

    pub flat-has : (p : Point d) (x : E.A) (ts : List (Term d)) (v : Value d) → AllFit ts → AllApart ts → E.◌≈◌ x (all ts) → HasIn αs n p x v → HasFlat p ts v
    flat-has p x ts v f apart same h =
        let V = evaluation_in αs n p in
        let each = each_to (λ t. coef_in αs n (reverse t.exponents) (all ts) ≡ t.coefficient) (λ t. (w : Value d) × IsQuotientAt p.variable t.coefficient w) ts
        (λ t e. let q = coefficient-has αs n p (reverse t.exponents) (all ts) v (V.same x (all ts) v same h) in (q.0, subst (λ (c : Value (suc d)). IsQuotientAt p.variable c q.0) e q.1))
        (coefficients-are ts f apart) in
        let q = some-flat p ts f each in
        subst (HasFlat p ts) (V.unique (all ts) q.0 v q.2 (V.same x (all ts) v same h)) q.1
