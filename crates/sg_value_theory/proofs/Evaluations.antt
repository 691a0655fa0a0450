-- The values of the elements of a formal tower.
--   laurent_laws        Laurent polynomials in n products
--   laws f p            the laws of `HasElement f p`; `evaluation f p` is the evaluation
--   lifted-has          a rational function has as an element the value that it has
--   constant-has        a constant has itself
--   own-has             a sum has its value
--   same-at             the value of an element hangs on the variable and the values of the products and sums of the tower
use Rattle.std.proofs.Common.{◌≡◌, ◌≢◌, ℕ, zero, suc, ◌<◌, ◌==◌, cond, Bool, true, false, ◌⊎◌, inl, inr, ℤ, sym, ap, ◌∙◌, subst, List, [], ◌∷◌, length, arith}
use Rattle.std.proofs.lemmas.Bool.Decides.{eqb_tells}
use Rattle.sg_algebra.specs.Coefficients.{eval}
use Rattle.sg_algebra.proofs.Ring.{pow}
use Rattle.sg_algebra.proofs.Value.{Value, ◌*ᵛ◌, inv_value, zero_value}
use Rattle.sg_algebra.proofs.ValueField.{ValueR, ValueF}
use Rattle.sg_algebra.proofs.Embedding.{constant_value}
use Rattle.sg_tower_theory.proofs.Slices.{pairwise_to}
use Rattle.sg_tower_theory.proofs.Products.{LaurentsD, LaurentsR, lift}
use Rattle.sg_tower_theory.proofs.Nested.{NestedR, Shape, tower}
use Rattle.sg_tower_theory.proofs.Formal.{Formal, Element, elements, shifted, base, base_shift, factors, lifted, lifted_in, own_sum, own_in}
use Rattle.sg_value_theory.proofs.Evaluation.{Laws, Evaluation, evaluation_of, laws_of}
use Rattle.sg_value_theory.proofs.Elements.{Point, IsQuotientAt, HasLaurent, HasIn, HasElement}
use Rattle.sg_value_theory.proofs.Quotients.{quotients, quotient-constant}
use Rattle.sg_value_theory.proofs.Polynomials.{raised, raised-constant, raised-variable}
use Rattle.sg_value_theory.proofs.LaurentValues.{laurent_values, laurent-constant}

module _ {d : ℕ} where
  abbrev pub laurent_laws : (n : ℕ) (k : ℤ) (ts : ℕ → Value d) → ((i : ℕ) → ¬ (ts i ≡ zero_value)) → Laws (LaurentsR (ValueF (suc d)) n) d (HasLaurent n k ts)
  laurent_laws zero k ts h = laws_of (quotients d k)
  laurent_laws (suc n) k ts h = laws_of (laurent_values (LaurentsD (ValueF (suc d)) n) (evaluation_of (laurent_laws n k (λ i. ts (suc i)) (λ i. h (suc i)))) (ts 0) (h 0))

  abbrev pub laws_in : (αs : List (Value (suc d))) (n : ℕ) (p : Point d) → Laws (NestedR (base αs) n) d (HasIn αs n p)
  laws_in αs zero p = laurent_laws (length (factors αs)) p.variable p.products p.nonzero
  laws_in αs (suc n) p = laws_of (raised (NestedR (base αs) n) (evaluation_of (laws_in αs n p)) (p.sums n))

  abbrev pub evaluation_in : (αs : List (Value (suc d))) (n : ℕ) (p : Point d) → Evaluation (NestedR (base αs) n) d
  evaluation_in αs n p = evaluation_of (laws_in αs n p)

  abbrev pub laws : (f : Formal d) (p : Point d) → Laws (elements f) d (HasElement f p)
  laws f p = laws_in f.products f.sums p

  abbrev pub evaluation : (f : Formal d) → Point d → Evaluation (elements f) d
  evaluation f p = evaluation_of (laws f p)

  -- ---- Some elements

  pub laurent-lifted : (n : ℕ) (k : ℤ) (ts : ℕ → Value d) (h : (i : ℕ) → ¬ (ts i ≡ zero_value)) (c : Value (suc d)) (w : Value d) → IsQuotientAt k c w → HasLaurent n k ts ((lift (ValueF (suc d)) n).on c) w
  laurent-lifted zero k ts h c w i = i
  laurent-lifted (suc n) k ts h c w i = laurent-constant (LaurentsD (ValueF (suc d)) n) (evaluation_of (laurent_laws n k (λ i. ts (suc i)) (λ i. h (suc i)))) (ts 0) (h 0)
      ((lift (ValueF (suc d)) n).on c) w (laurent-lifted n k (λ i. ts (suc i)) (λ i. h (suc i)) c w i)

  pub lifted-has_in : (αs : List (Value (suc d))) (n : ℕ) (p : Point d) (c : Value (suc d)) (w : Value d) → IsQuotientAt p.variable c w → HasIn αs n p (lifted_in αs n c) w
  lifted-has_in αs zero p c w i = laurent-lifted (length (factors αs)) p.variable p.products p.nonzero c w i
  lifted-has_in αs (suc n) p c w i = raised-constant (NestedR (base αs) n) (evaluation_in αs n p) (p.sums n) (lifted_in αs n c) w (lifted-has_in αs n p c w i)

  pub lifted-has : (f : Formal d) (p : Point d) (c : Value (suc d)) (w : Value d) → IsQuotientAt p.variable c w → HasElement f p (lifted f c) w
  lifted-has f p c w i = lifted-has_in f.products f.sums p c w i

  constant_in : (αs : List (Value (suc d))) (n : ℕ) (s : Shape (base αs) n) (p : Point d) (c : Value d) → HasIn αs n p ((tower (base αs) (base_shift αs) n s).κ.on c) c
  constant_in αs zero s p c = laurent-lifted (length (factors αs)) p.variable p.products p.nonzero (constant_value d c) c (quotient-constant p.variable c)
  constant_in αs (suc n) s p c = raised-constant (NestedR (base αs) n) (evaluation_in αs n p) (p.sums n) ((tower (base αs) (base_shift αs) n s.0).κ.on c) c (constant_in αs n s.0 p c)

  pub constant-has : (f : Formal d) (p : Point d) (c : Value d) → HasElement f p ((shifted f).κ.on c) c
  constant-has f p c = constant_in f.products f.sums f.shape p c

  -- the sum i, where there are more
  own_has_in : (αs : List (Value (suc d))) (n i : ℕ) (p : Point d) → i < n → HasIn αs n p (own_in αs n i) (p.sums i)
  own_has_in αs zero i p l = absurd (omega (arith, l))
  own_has_in αs (suc n) i p l = go (λ k. own_has_in αs n i p k) (eqb_tells i n)
    where
      go : (i < n → HasIn αs n p (own_in αs n i) (p.sums i)) → (((i == n) ≡ true) × (i ≡ n)) ⊎ (((i == n) ≡ false) × (i ≢ n)) → HasIn αs (suc n) p (own_in αs (suc n) i) (p.sums i)
      go below (inl h) = subst (λ (b : Bool). HasIn αs (suc n) p (cond b ((NestedR (base αs) n).O ∷ (NestedR (base αs) n).I ∷ []) (own_in αs n i ∷ [])) (p.sums i)) (sym h.0)
          (subst (λ (j : ℕ). HasIn αs (suc n) p ((NestedR (base αs) n).O ∷ (NestedR (base αs) n).I ∷ []) (p.sums j)) (sym h.1) (raised-variable (NestedR (base αs) n) (evaluation_in αs n p) (p.sums n)))
      go below (inr h) = subst (λ (b : Bool). HasIn αs (suc n) p (cond b ((NestedR (base αs) n).O ∷ (NestedR (base αs) n).I ∷ []) (own_in αs n i ∷ [])) (p.sums i)) (sym h.0)
          (raised-constant (NestedR (base αs) n) (evaluation_in αs n p) (p.sums n) (own_in αs n i) (p.sums i) (below (less i n l h.1)))
        where
          less : (i n : ℕ) → i < suc n → i ≢ n → i < n
          less i n l h = grind arith

  pub own-has : (f : Formal d) (p : Point d) (i : ℕ) → i < f.sums → HasElement f p (own_sum f i) (p.sums i)
  own-has f p i l = own_has_in f.products f.sums i p l

  -- ---- Points that look alike

  same_laurent : (n : ℕ) (k : ℤ) (ts us : ℕ → Value d) → ((i : ℕ) → i < n → ts i ≡ us i) → (x : (LaurentsR (ValueF (suc d)) n).A) (v : Value d) → HasLaurent n k ts x v → HasLaurent n k us x v
  same_laurent zero k ts us e x v i = i
  same_laurent (suc n) k ts us e x v i = record {
    upper = i.upper;
    lag = i.lag;
    same = i.same;
    upper_value = i.upper_value;
    upper_has = record {
      coefficients = i.upper_has.coefficients;
      values = i.upper_has.values;
      same = i.upper_has.same;
      each = pairwise_to (HasLaurent n k (λ i. ts (suc i))) (HasLaurent n k (λ i. us (suc i))) i.upper_has.coefficients i.upper_has.values (same_laurent n k (λ i. ts (suc i)) (λ i. us (suc i)) (λ j l. e (suc j) (omega (arith, l)))) i.upper_has.each;
      value = i.upper_has.value ∙ ap (eval (ValueR d) i.upper_has.values) (e 0 (omega arith));
    };
    value = i.value ∙ ap (λ z. i.upper_value *ᵛ pow (ValueR d) (inv_value z) i.lag) (e 0 (omega arith));
  }

  same_in : (αs : List (Value (suc d))) (n : ℕ) (p q : Point d) → p.variable ≡ q.variable → ((i : ℕ) → i < length (factors αs) → p.products i ≡ q.products i) → ((i : ℕ) → i < n → p.sums i ≡ q.sums i) → (x : (NestedR (base αs) n).A) (v : Value d)
      → HasIn αs n p x v → HasIn αs n q x v
  same_in αs zero p q e t h x v i = subst (λ (k : ℤ). HasLaurent (length (factors αs)) k q.products x v) e (same_laurent (length (factors αs)) p.variable p.products q.products t x v i)
  same_in αs (suc n) p q e t h x v i = record {
    coefficients = i.coefficients;
    values = i.values;
    same = i.same;
    each = pairwise_to (HasIn αs n p) (HasIn αs n q) i.coefficients i.values (same_in αs n p q e t (λ j l. h j (omega (arith, l)))) i.each;
    value = i.value ∙ ap (eval (ValueR d) i.values) (h n (omega arith));
  }

  -- the value of an element hangs on the variable and the values of the products and sums of the tower
  pub same-at : (f : Formal d) (p q : Point d) → p.variable ≡ q.variable → ((i : ℕ) → i < length (factors f.products) → p.products i ≡ q.products i) → ((i : ℕ) → i < f.sums → p.sums i ≡ q.sums i) → (x : Element f) (v : Value d)
      → HasElement f p x v → HasElement f q x v
  same-at f p q e t h x v i = same_in f.products f.sums p q e t h x v i
