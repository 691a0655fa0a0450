-- Products of powers of products, in values and formally.
--   product_one, product_mul, product_pow, product_over    a product of powers is a product whose factor is that of the powers of the
--                                                          factors
--   powers_product         of a list of products with whole exponents
--   function_at r          the rational function of an expression without sums and products; `function-at`
--   Relation A             a function other than 0 whose next value is A times it
--   relation_of_meet       a product that agrees with a rational function from some point on: its factor has a relation
--   meet_of_relation       and the other way: it agrees with a rational function, where each constant is an expression
use Rattle.std.proofs.Common.{◌≡◌, ℕ, suc, ℤ, pos, negsuc, ◌+ℤ◌, ◌≤ℤ◌, refl, sym, ap, ap₂, ◌∙◌, subst, List, [], ◌∷◌, Bool, arith}
use Rattle.std.proofs.lemmas.Int.{ints}
use Rattle.sg_algebra.proofs.Ring.{pow}
use Rattle.sg_algebra.proofs.Solver.{by, ring, reads}
use Rattle.sg_algebra.proofs.Place.{Pairwise}
use Rattle.sg_algebra.proofs.Value.{Value, ◌+ᵛ◌, ◌*ᵛ◌, ◌/ᵛ◌, neg_value, inv_value, zero_value, one_value}
use Rattle.sg_algebra.proofs.ValueField.{ValueR, ValueF, ValueD}
use Rattle.sg_algebra.proofs.Embedding.{constant_value}
use Rattle.sg_algebra.proofs.Rational.{whole_value}
use Rattle.sg_spec.specs.Tree.{Tree, numeral, here, param, add, neg, mul, div, power, sum_from, prod_from}
use Rattle.sg_spec.specs.Worth.{HasWorth}
use Rattle.sg_worth_theory.proofs.Worths.{worth_unique}
use Rattle.sg_tower_theory.specs.Powers.{power as power_in, powers}
use Rattle.sg_tower_theory.proofs.ShiftValue.{shift_value, shift_valueH}
use Rattle.sg_value_theory.proofs.Elements.{IsQuotientAt}
use Rattle.sg_value_theory.proofs.Evaluation.{pow_has}
use Rattle.sg_value_theory.proofs.Quotients.{quotients, both_ne, quotient-over, quotient-constant}
use Rattle.sg_value_theory.proofs.Moving.{inverse-has}
use Rattle.sg_value_theory.proofs.NextPlace.{quotient-moves}
use Rattle.sg_value_theory.proofs.Places.{Places}
use Rattle.sg_value_theory.proofs.First.{zero_only}
use Rattle.sg_value_theory.proofs.RationalPlaces.{rational_places, lawful_rational, variable, variable_at, whole_at}
use Rattle.sg_answers_theory.specs.Matches.{power_tree, powers_tree, IsRational}
use Rattle.sg_answers_theory.proofs.InverseValues.{pow_ne, inverse_ne, inverse_mul, inverse_pow, pow-mul}
use Rattle.sg_answers_theory.proofs.Answers.{IsProductOf}
use Rattle.sg_answers_theory.proofs.Meeting.{Meet}
use Rattle.sg_answers_theory.proofs.ZeroPast.{later}

module _ {d : ℕ} (letter : Value d) where
  -- ---- Products of powers are products

  module _ (s : ℤ) where
    pub product_one : IsProductOf letter s (numeral (pos 1)) one_value
    product_one = record {
      some = (ValueF (suc d)).one_ne;
      next = λ k l. (one_value, one_value, one_value, (quotients d k).one_has, one_is, one_is, ring (ValueR d) [] (search reads depth 12) refl, (ValueF d).one_ne);
    }
      where
        one_is : one_value ≡ whole_value d (pos 1)
        one_is = ring (ValueR d) [] (search reads depth 12) refl

    pub product_mul : (p q : Tree) (α β : Value (suc d)) → IsProductOf letter s p α → IsProductOf letter s q β → IsProductOf letter s (mul p q) (α *ᵛ β)
    product_mul p q α β h i = record {
      some = both_ne α β h.some i.some;
      next = λ k l.
          let a = h.next k l in
          let b = i.next k l in
          (a.0 *ᵛ b.0, a.1 *ᵛ b.1, a.2 *ᵛ b.2, (quotients d k).mul_has α β a.0 b.0 a.3 b.3, (a.1, b.1, a.4, b.4, refl), (a.2, b.2, a.5, b.5, refl), swap a.0 a.1 a.2 b.0 b.1 b.2 a.6 b.6, both_ne a.1 b.1 a.7 b.7);
    }
      where
        swap : (a v v' b w w' : Value d) → v' ≡ a *ᵛ v → w' ≡ b *ᵛ w → v' *ᵛ w' ≡ (a *ᵛ b) *ᵛ (v *ᵛ w)
        swap a v v' b w w' h i = ap₂ ◌*ᵛ◌ h i ∙ ring (ValueR d) (a ∷ v ∷ b ∷ w ∷ []) (search reads depth 16) refl

    pub product_pow : (p : Tree) (α : Value (suc d)) (e : ℕ) → IsProductOf letter s p α → IsProductOf letter s (power p e) (pow (ValueR (suc d)) α e)
    product_pow p α e h = record {
      some = pow_ne α e h.some;
      next = λ k l.
          let a = h.next k l in
          (pow (ValueR d) a.0 e, pow (ValueR d) a.1 e, pow (ValueR d) a.2 e, pow_has (quotients d k) α a.0 e a.3, (a.1, a.4, refl), (a.2, a.5, refl), ap (λ x. pow (ValueR d) x e) a.6 ∙ pow-mul a.0 a.1 e, pow_ne a.1 e a.7);
    }

    pub product_over : (p : Tree) (α : Value (suc d)) → IsProductOf letter s p α → IsProductOf letter s (div (numeral (pos 1)) p) (inv_value α)
    product_over p α h = record {
      some = inverse_ne α h.some;
      next = λ k l.
          let a = h.next k l in
          let n = factor_ne a.0 a.1 a.2 (next_ne k l) a.6 in (
            inv_value a.0,
            inv_value a.1,
            inv_value a.2,
            inverse-has k α a.0 a.3 n,
            (whole_value d (pos 1), a.1, refl, a.4, a.7, one_over a.1),
            (whole_value d (pos 1), a.2, refl, a.5, next_ne k l, one_over a.2),
            ap inv_value a.6 ∙ inverse_mul a.0 a.1 n a.7,
            inverse_ne a.1 a.7,
          );
    }
      where
        one_over : (v : Value d) → inv_value v ≡ whole_value d (pos 1) /ᵛ v
        one_over v = ring (ValueR d) (inv_value v ∷ []) (search reads depth 12) refl

        up : (k : ℤ) → s ≤ℤ k → s ≤ℤ (k +ℤ pos 1)
        up k l = omega (arith, ints, l)

        next_ne : (k : ℤ) (l : s ≤ℤ k) → ¬ ((h.next k l).2 ≡ zero_value)
        next_ne k l z =
            let a = h.next k l in
            let b = h.next (k +ℤ pos 1) (up k l) in
            b.7 (worth_unique letter p (k +ℤ pos 1) b.1 a.2 b.4 a.5 ∙ z)

        factor_ne : (a v v' : Value d) → ¬ (v' ≡ zero_value) → v' ≡ a *ᵛ v → ¬ (a ≡ zero_value)
        factor_ne a v v' n e z = n (e ∙ ap (λ x. x *ᵛ v) z ∙ ring (ValueR d) (v ∷ []) (search reads depth 12) refl)

    pub product_power : (p : Tree) (α : Value (suc d)) (e : ℤ) → IsProductOf letter s p α
        → IsProductOf letter s (power_tree p e) (power_in (ValueF (suc d)) α e)
    product_power p α (pos e) h = product_pow p α e h
    product_power p α (negsuc e) h = subst (λ x. IsProductOf letter s (power_tree p (negsuc e)) x) (inverse_pow α (suc e) h.some) (product_over (power p (suc e)) (pow (ValueR (suc d)) α (suc e)) (product_pow p α (suc e) h))

    abbrev pub AreProducts : List Tree → List (Value (suc d)) → Type 0
    AreProducts ps αs = Pairwise (IsProductOf letter s) ps αs

    pub powers_product : (ps : List Tree) (αs : List (Value (suc d))) (es : List ℤ) → AreProducts ps αs
        → IsProductOf letter s (powers_tree ps es) (powers (ValueF (suc d)) αs es)
    powers_product [] [] es h = product_one
    powers_product [] (α ∷ αs) es h = absurd h
    powers_product (p ∷ ps) [] es h = absurd h
    powers_product (p ∷ ps) (α ∷ αs) [] h = product_one
    powers_product (p ∷ ps) (α ∷ αs) (e ∷ es) h = product_mul (power_tree p e) (powers_tree ps es) (power_in (ValueF (suc d)) α e) (powers (ValueF (suc d)) αs es) (product_power p α e h.0) (powers_product ps αs es h.1)

  -- ---- Rational functions

  unfoldable pub function_at : Tree → Value (suc d)
  function_at (numeral c) = whole_value (suc d) c
  function_at here = variable d
  function_at param = constant_value d letter
  function_at (add x y) = function_at x +ᵛ function_at y
  function_at (neg x) = neg_value (function_at x)
  function_at (mul x y) = function_at x *ᵛ function_at y
  function_at (div x y) = function_at x /ᵛ function_at y
  function_at (power x e) = pow (ValueR (suc d)) (function_at x) e
  function_at (sum_from a b) = zero_value
  function_at (prod_from a b) = zero_value

  pub function-at : (b : Bool) (r : Tree) → IsRational b r → (k : ℤ) (v : Value d) → HasWorth letter r k v → IsQuotientAt k (function_at r) v
  unfolding function_at
  function-at b (numeral c) o k v h = subst (IsQuotientAt k (whole_value (suc d) c)) (sym h) (whole_at d k c)
  function-at b here o k v h = subst (IsQuotientAt k (variable d)) (sym h) (variable_at d k)
  function-at b param o k v h = subst (IsQuotientAt k (constant_value d letter)) (sym h) (quotient-constant k letter)
  function-at b (add x y) o k v h = subst (IsQuotientAt k (function_at x +ᵛ function_at y)) (sym h.4) ((quotients d k).add_has (function_at x) (function_at y) h.0 h.1 (function-at b x o.0 k h.0 h.2) (function-at b y o.1 k h.1 h.3))
  function-at b (neg x) o k v h = subst (IsQuotientAt k (neg_value (function_at x))) (sym h.2) ((quotients d k).neg_has (function_at x) h.0 (function-at b x o k h.0 h.1))
  function-at b (mul x y) o k v h = subst (IsQuotientAt k (function_at x *ᵛ function_at y)) (sym h.4) ((quotients d k).mul_has (function_at x) (function_at y) h.0 h.1 (function-at b x o.0 k h.0 h.2) (function-at b y o.1 k h.1 h.3))
  function-at b (div x y) o k v h = subst (IsQuotientAt k (function_at x /ᵛ function_at y)) (sym h.5) (quotient-over k (function_at x) (function_at y) h.0 h.1 (function-at b x o.0 k h.0 h.2) (function-at b y o.1 k h.1 h.3) h.4)
  function-at b (power x e) o k v h = subst (IsQuotientAt k (pow (ValueR (suc d)) (function_at x) e)) (sym h.2) (pow_has (quotients d k) (function_at x) h.0 e (function-at b x o k h.0 h.1))
  function-at b (sum_from x y) o k v h = absurd o
  function-at b (prod_from x y) o k v h = absurd o

  -- ---- From agreement to a relation

  pub record Relation (A : Value (suc d)) : Type 0 where
    pub ratio : Value (suc d)
    pub some : ¬ (ratio ≡ zero_value)
    pub is : shift_value d ratio ≡ A *ᵛ ratio

  module _ (s : ℤ) (t : Tree) (A : Value (suc d)) (product : IsProductOf letter s t A) where
    pub relation_of_meet : (b : Bool) (r : Tree) → IsRational b r → Meet letter t r → Relation A
    relation_of_meet b r o m = go (later s m.from)
      where
        ρ : Value (suc d)
        ρ = function_at r

        go : (z : ℤ) × (s ≤ℤ z) × (m.from ≤ℤ z) → Relation A
        go z = record { ratio = ρ; some = some; is = by (ValueR (suc d)) (shift_value d ρ ∷ A ∷ ρ ∷ []) (zero_only (ValueD (suc d)) (ValueD d) (shift_valueH d) P (lawful_rational d) (shift_value d ρ +ᵛ neg_value (A *ᵛ ρ)) 0 (λ j v l h. none j v h)) (search reads depth 12) refl }
          where
            P : Places (ValueR (suc d)) (ValueR d) (shift_valueH d)
            P = rational_places d z.0

            up : (a z : ℤ) (j : ℕ) → a ≤ℤ z → a ≤ℤ (z +ℤ pos j)
            up a z j l = omega (arith, ints, l)

            up_one : (a z : ℤ) (j : ℕ) → a ≤ℤ z → a ≤ℤ ((z +ℤ pos j) +ℤ pos 1)
            up_one a z j l = omega (arith, ints, l)

            -- the function has the values of the product
            at : (k : ℤ) → m.from ≤ℤ k → (v : Value d) → HasWorth letter t k v → IsQuotientAt k ρ v
            at k l v h = let n = m.meet k l in function-at b r o k v (subst (λ (x : Value d). HasWorth letter r k x) (worth_unique letter t k n.0 v n.1 h) n.2)

            some : ¬ (ρ ≡ zero_value)
            some e =
                let n = product.next z.0 z.1 in
                n.7 ((quotients d z.0).unique zero_value n.1 zero_value (subst (λ (x : Value (suc d)). IsQuotientAt z.0 x n.1) e (at z.0 z.2 n.1 n.4)) (quotients d z.0).zero_has)

            none : (j : ℕ) (v : Value d) → IsQuotientAt (z.0 +ℤ pos j) (shift_value d ρ +ᵛ neg_value (A *ᵛ ρ)) v → v ≡ zero_value
            none j v h =
                let k = z.0 +ℤ pos j in
                let n = product.next k (up s z.0 j z.1) in
                let q = quotients d k in
                q.unique (shift_value d ρ +ᵛ neg_value (A *ᵛ ρ)) v (n.2 +ᵛ neg_value (n.0 *ᵛ n.1)) h
                (q.add_has (shift_value d ρ) (neg_value (A *ᵛ ρ)) n.2 (neg_value (n.0 *ᵛ n.1)) (quotient-moves k ρ n.2 (at (k +ℤ pos 1) (up_one m.from z.0 j z.2) n.2 n.5))
                (q.neg_has (A *ᵛ ρ) (n.0 *ᵛ n.1) (q.mul_has A ρ n.0 n.1 n.3 (at k (up m.from z.0 j z.2) n.1 n.4))))
                ∙ ap (λ x. x +ᵛ neg_value (n.0 *ᵛ n.1)) n.6 ∙ ring (ValueR d) (n.0 ∷ n.1 ∷ []) (search reads depth 12) refl
