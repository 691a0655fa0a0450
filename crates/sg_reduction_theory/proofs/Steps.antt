-- The steps of the reduction: a sum of shares moved, split, joined and dropped.
--   forward a s           a times the share s at k + 1; negated s: its negative
--   move_forward          a share is replaced by its forward one, its negative is noted
--   move_back             a forward share is replaced by the one before, which is noted
--   Adds x y ls ns ms     each item of ls is x times that of ns plus y times that of ms
--   sum_term              a share over a common multiple of two denominators is the sum of two shares
--   split, join           a share by two, two by one; drop: one with numerators 0; swap: the first two exchanged
use Rattle.std.proofs.Common.{◌≡◌, ℕ, suc, refl, sym, ◌∙◌, ap, ap₂, List, [], ◌∷◌, ◌++◌, map}
use Rattle.sg_algebra.proofs.Solver.{ring, by, scale, reads}
use Rattle.sg_algebra.proofs.Divides.{on-neg}
use Rattle.sg_algebra.proofs.Value.{Value, inv_value, neg_value, ◌+ᵛ◌, ◌*ᵛ◌, ◌/ᵛ◌}
use Rattle.sg_algebra.proofs.ValueField.{ValueR, value_quotient, value_product}
use Rattle.sg_algebra.proofs.Embedding.{constant_value}
use Rattle.sg_algebra.proofs.Polynomial.{Polynomial, PolynomialR, constant, zero_polynomial, ◌+ᵖ◌, ◌*ᵖ◌, neg_polynomial}
use Rattle.sg_first_order_theory.proofs.Next.{next, nextH, next-constant, next_keeps, next-zero}
use Rattle.sg_algebra.proofs.ShiftValue.{shift_value}
use Rattle.sg_first_order_theory.proofs.ValueFractions.{whole, wholeH, whole-add, whole-mul}
use Rattle.sg_first_order_theory.proofs.Weighted.{weighted, Linear, weighted-map}
use Rattle.sg_first_order_theory.proofs.FirstOrder.{whole_ne}
use Rattle.sg_reduction_theory.proofs.Moves.{Share, sum_at, difference, difference-add, next-neg, next_quotient, Reduced, whole-constant}

module _ {d : ℕ} where
  abbrev pub term : (ℕ → Value d) → Share d → Value (suc d)
  term c s = whole (weighted c s.uppers) /ᵛ whole s.lower

  up-add : (a : Value d) (x y : Polynomial d) → constant a *ᵖ next (x +ᵖ y) ≡ constant a *ᵖ next x +ᵖ constant a *ᵖ next y
  up-add a x y = by (PolynomialR d) (constant a ∷ next x ∷ next y ∷ next (x +ᵖ y) ∷ []) (scale (PolynomialR d) (constant a) ((nextH d).on-add x y)) (search reads depth 16) refl

  up-scale : (a c : Value d) (x : Polynomial d) → constant a *ᵖ next (constant c *ᵖ x) ≡ constant c *ᵖ (constant a *ᵖ next x)
  up-scale a c x = by (PolynomialR d) (constant a ∷ constant c ∷ next x ∷ next (constant c *ᵖ x) ∷ [])
      (scale (PolynomialR d) (constant a) ((nextH d).on-mul (constant c) x ∙ ap (λ z. z *ᵖ next x) (next-constant c))) (search reads depth 16) refl

  up-none : (a : Value d) → constant a *ᵖ next zero_polynomial ≡ zero_polynomial
  up-none a = by (PolynomialR d) (constant a ∷ next zero_polynomial ∷ []) (scale (PolynomialR d) (constant a) next-zero) (search reads depth 16) refl

  abbrev up_linear : (a : Value d) → Linear d
  up_linear a = record { on = λ x. constant a *ᵖ next x; on-add = up-add a; on-scale = up-scale a; on-none = up-none a }

  minus-add : (x y : Polynomial d) → neg_polynomial (x +ᵖ y) ≡ neg_polynomial x +ᵖ neg_polynomial y
  minus-add x y = ring (PolynomialR d) (x ∷ y ∷ []) (search reads depth 16) refl

  minus-scale : (c : Value d) (x : Polynomial d) → neg_polynomial (constant c *ᵖ x) ≡ constant c *ᵖ neg_polynomial x
  minus-scale c x = ring (PolynomialR d) (constant c ∷ x ∷ []) (search reads depth 16) refl

  minus-none : neg_polynomial {d = d} zero_polynomial ≡ zero_polynomial
  minus-none = ring (PolynomialR d) [] (search reads depth 16) refl

  abbrev neg_linear : Linear d
  neg_linear = record { on = neg_polynomial; on-add = minus-add; on-scale = minus-scale; on-none = minus-none }

  abbrev pub forward : Value d → Share d → Share d
  forward a s = record { uppers = map (λ x. constant a *ᵖ next x) s.uppers; lower = next s.lower }

  abbrev pub negated : Share d → Share d
  negated s = record { uppers = map neg_polynomial s.uppers; lower = s.lower }

  pub term-forward : (a : Value d) (c : ℕ → Value d) (s : Share d) → ¬ (s.lower ≡ zero_polynomial) → term c (forward a s) ≡ constant_value d a *ᵛ shift_value d (term c s)
  term-forward a c s h =
      ap (λ z. whole z /ᵛ whole (next s.lower)) (sym (weighted-map (up_linear a) c s.uppers))
      ∙ ap (λ z. z /ᵛ whole (next s.lower)) (whole-mul (constant a) (next n) ∙ ap (λ z. z *ᵛ whole (next n)) (whole-constant a))
      ∙ by (ValueR (suc d)) (constant_value d a ∷ whole (next n) ∷ inv_value (whole (next s.lower)) ∷ shift_value d (term c s) ∷ [])
      (scale (ValueR (suc d)) (constant_value d a) (sym (next_quotient n s.lower h (next_keeps s.lower h)))) (search reads depth 16) refl
    where
      n : Polynomial d
      n = weighted c s.uppers

  pub term-negated : (c : ℕ → Value d) (s : Share d) → term c (negated s) ≡ neg_value (term c s)
  term-negated c s = ap (λ z. z /ᵛ whole s.lower) (ap whole (sym (weighted-map neg_linear c s.uppers)) ∙ on-neg (PolynomialR d) (ValueR (suc d)) (wholeH d) (weighted c s.uppers))
      ∙ ring (ValueR (suc d)) (whole (weighted c s.uppers) ∷ inv_value (whole s.lower) ∷ []) (search reads depth 16) refl

  -- from the sums before and after a step
  pub step : (a : Value d) (fs : List (Value (suc d))) (ps : List (Polynomial d)) (ss moved ss' moved' : List (Share d))
      → ((c : ℕ → Value d) → sum_at c ss +ᵛ difference a (sum_at c moved) ≡ sum_at c ss' +ᵛ difference a (sum_at c moved')) → Reduced a fs ps ss moved → Reduced a fs ps ss' moved'
  step a fs ps ss moved ss' moved' h r = record {
    is = λ c. r.is c
        ∙ by (ValueR (suc d)) (whole (weighted c ps) ∷ sum_at c ss ∷ sum_at c ss' ∷ difference a (sum_at c moved) ∷ difference a (sum_at c moved') ∷ []) (h c) (search reads depth 16) refl;
  }

  pub move_forward : (a : Value d) (fs : List (Value (suc d))) (ps : List (Polynomial d)) (s : Share d) (ss moved : List (Share d)) → ¬ (s.lower ≡ zero_polynomial) → Reduced a fs ps (s ∷ ss) moved
      → Reduced a fs ps (forward a s ∷ ss) (negated s ∷ moved)
  move_forward a fs ps s ss moved h r = step a fs ps (s ∷ ss) moved (forward a s ∷ ss) (negated s ∷ moved) (λ c. same c) r
    where
      same : (c : ℕ → Value d) → term c s +ᵛ sum_at c ss +ᵛ difference a (sum_at c moved) ≡ term c (forward a s) +ᵛ sum_at c ss +ᵛ difference a (term c (negated s) +ᵛ sum_at c moved)
      same c = by (ValueR (suc d)) (constant_value d a ∷ term c s ∷ shift_value d (term c s) ∷ term c (forward a s) ∷ term c (negated s) ∷ shift_value d (term c (negated s)) ∷ sum_at c ss
          ∷ difference a (sum_at c moved) ∷ difference a (term c (negated s) +ᵛ sum_at c moved) ∷ [])
          ((ValueR (suc d)).add_cong ((ValueR (suc d)).symm (term-forward a c s h)) ((ValueR (suc d)).add_cong ((ValueR (suc d)).symm (difference-add a (term c (negated s)) (sum_at c moved)))
          ((ValueR (suc d)).add_cong (term-negated c s) (scale (ValueR (suc d)) (neg_value (constant_value d a)) (ap (shift_value d) (term-negated c s) ∙ next-neg (term c s)))))) (search reads depth 24 fits 6000) refl

  pub move_back : (a : Value d) (fs : List (Value (suc d))) (ps : List (Polynomial d)) (s : Share d) (ss moved : List (Share d)) → ¬ (s.lower ≡ zero_polynomial) → Reduced a fs ps (forward a s ∷ ss) moved
      → Reduced a fs ps (s ∷ ss) (s ∷ moved)
  move_back a fs ps s ss moved h r = step a fs ps (forward a s ∷ ss) moved (s ∷ ss) (s ∷ moved) (λ c. same c) r
    where
      same : (c : ℕ → Value d) → term c (forward a s) +ᵛ sum_at c ss +ᵛ difference a (sum_at c moved) ≡ term c s +ᵛ sum_at c ss +ᵛ difference a (term c s +ᵛ sum_at c moved)
      same c = by (ValueR (suc d)) (constant_value d a ∷ term c s ∷ shift_value d (term c s) ∷ term c (forward a s) ∷ sum_at c ss ∷ difference a (sum_at c moved) ∷ difference a (term c s +ᵛ sum_at c moved) ∷ [])
          ((ValueR (suc d)).add_cong (term-forward a c s h) ((ValueR (suc d)).symm (difference-add a (term c s) (sum_at c moved)))) (search reads depth 24 fits 6000) refl

  -- ---- Two denominators

  abbrev pub Adds : Polynomial d → Polynomial d → List (Polynomial d) → List (Polynomial d) → List (Polynomial d) → Type 0
  Adds x y [] [] [] = Unit {0}
  Adds x y (l ∷ ls) (n ∷ ns) (m ∷ ms) = (l ≡ n *ᵖ x +ᵖ m *ᵖ y) × Adds x y ls ns ms
  Adds x y [] [] (m ∷ ms) = ⊥
  Adds x y [] (n ∷ ns) ms = ⊥
  Adds x y (l ∷ ls) [] ms = ⊥
  Adds x y (l ∷ ls) (n ∷ ns) [] = ⊥

  pub adds-weighted : (x y : Polynomial d) (c : ℕ → Value d) (ls ns ms : List (Polynomial d)) → Adds x y ls ns ms → weighted c ls ≡ weighted c ns *ᵖ x +ᵖ weighted c ms *ᵖ y
  adds-weighted x y c [] [] [] h = ring (PolynomialR d) (x ∷ y ∷ []) (search reads depth 16) refl
  adds-weighted x y c (l ∷ ls) (n ∷ ns) (m ∷ ms) h = by (PolynomialR d) (x ∷ y ∷ l ∷ n ∷ m ∷ constant (c 0) ∷ weighted (λ i. c (suc i)) ls ∷ weighted (λ i. c (suc i)) ns ∷ weighted (λ i. c (suc i)) ms ∷ [])
      ((PolynomialR d).add_cong (scale (PolynomialR d) (constant (c 0)) h.0) (adds-weighted x y (λ i. c (suc i)) ls ns ms h.1)) (search reads depth 24 fits 6000) refl
  adds-weighted x y c [] [] (m ∷ ms) h = absurd h
  adds-weighted x y c [] (n ∷ ns) ms h = absurd h
  adds-weighted x y c (l ∷ ls) [] ms h = absurd h
  adds-weighted x y c (l ∷ ls) (n ∷ ns) [] h = absurd h

  -- l/w = n/v + m/u where w = v x and w = u y, and l = n x + m y
  pub sum_term : (c : ℕ → Value d) (s t r : Share d) (x y : Polynomial d) → ¬ (s.lower ≡ zero_polynomial) → ¬ (t.lower ≡ zero_polynomial) → ¬ (r.lower ≡ zero_polynomial)
      → s.lower ≡ t.lower *ᵖ x → s.lower ≡ r.lower *ᵖ y → Adds x y s.uppers t.uppers r.uppers → term c s ≡ term c t +ᵛ term c r
  sum_term c s t r x y hs ht hr e k a = sym (value_quotient (whole (weighted c s.uppers)) (whole s.lower) (term c t +ᵛ term c r) (whole_ne d s.lower hs) cross)
    where
      cross : (term c t +ᵛ term c r) *ᵛ whole s.lower ≡ whole (weighted c s.uppers)
      cross = by (ValueR (suc d)) (term c t ∷ term c r ∷ whole s.lower ∷ whole t.lower ∷ whole r.lower ∷ whole x ∷ whole y ∷ whole (weighted c s.uppers) ∷ whole (weighted c t.uppers) ∷ whole (weighted c r.uppers) ∷ [])
          ((ValueR (suc d)).add_cong (scale (ValueR (suc d)) (term c t) (ap whole e ∙ whole-mul t.lower x)) ((ValueR (suc d)).add_cong (scale (ValueR (suc d)) (term c r) (ap whole k ∙ whole-mul r.lower y))
          ((ValueR (suc d)).add_cong (scale (ValueR (suc d)) (whole x) (value_product (whole (weighted c t.uppers)) (whole t.lower) (whole_ne d t.lower ht)))
          ((ValueR (suc d)).add_cong (scale (ValueR (suc d)) (whole y) (value_product (whole (weighted c r.uppers)) (whole r.lower) (whole_ne d r.lower hr)))
          ((ValueR (suc d)).symm (ap whole (adds-weighted x y c s.uppers t.uppers r.uppers a) ∙ whole-add (weighted c t.uppers *ᵖ x) (weighted c r.uppers *ᵖ y) ∙ ap₂ ◌+ᵛ◌ (whole-mul (weighted c t.uppers) x) (whole-mul (weighted c r.uppers) y))))))) (search reads depth 24 fits 8000) refl

  pub split : (a : Value d) (fs : List (Value (suc d))) (ps : List (Polynomial d)) (s t r : Share d) (ss moved : List (Share d)) → ((c : ℕ → Value d) → term c s ≡ term c t +ᵛ term c r) → Reduced a fs ps (s ∷ ss) moved → Reduced a fs ps (t ∷ r ∷ ss) moved
  split a fs ps s t r ss moved h red = step a fs ps (s ∷ ss) moved (t ∷ r ∷ ss) moved (λ c. by (ValueR (suc d)) (term c s ∷ term c t ∷ term c r ∷ sum_at c ss ∷ difference a (sum_at c moved) ∷ []) (h c) (search reads depth 16) refl) red

  pub join : (a : Value d) (fs : List (Value (suc d))) (ps : List (Polynomial d)) (s t r : Share d) (ss moved : List (Share d)) → ((c : ℕ → Value d) → term c s ≡ term c t +ᵛ term c r) → Reduced a fs ps (t ∷ r ∷ ss) moved → Reduced a fs ps (s ∷ ss) moved
  join a fs ps s t r ss moved h red = step a fs ps (t ∷ r ∷ ss) moved (s ∷ ss) moved (λ c. by (ValueR (suc d)) (term c s ∷ term c t ∷ term c r ∷ sum_at c ss ∷ difference a (sum_at c moved) ∷ []) ((ValueR (suc d)).symm (h c)) (search reads depth 16) refl) red

  pub sum-append : (c : ℕ → Value d) (xs ys : List (Share d)) → sum_at c (xs ++ ys) ≡ sum_at c xs +ᵛ sum_at c ys
  sum-append c [] ys = ring (ValueR (suc d)) (sum_at c ys ∷ []) (search reads depth 12) refl
  sum-append c (x ∷ xs) ys = by (ValueR (suc d)) (term c x ∷ sum_at c xs ∷ sum_at c ys ∷ sum_at c (xs ++ ys) ∷ []) (sum-append c xs ys) (search reads depth 16) refl
