-- Expressions over products and sums, with divisors that hold no sum, are elements.
--   unit_row n i          the exponents of the product i of n
--   function_of y         the rational function of a polynomial; `function-has`
--   inverse_of y          the element of 1/y for a divisor y; `inverse-agrees`
--   element_over e        the element of an expression; it agrees with it at every point: `element-agrees`
use Rattle.std.proofs.Common.{◌≡◌, ℕ, zero, suc, ◌<◌, ◌⊎◌, inl, inr, ℤ, pos, neg_ℤ, ◌≤ℤ◌, refl, sym, ap, ◌∙◌, subst, List, [], ◌∷◌, length, map, Contains, arith}
use Rattle.std.proofs.lemmas.List.{length-map}
use Rattle.sg_algebra.specs.Ring.{Ring}
use Rattle.sg_algebra.proofs.Ring.{pow}
use Rattle.sg_algebra.proofs.Solver.{ring, by, reads}
use Rattle.sg_algebra.proofs.Value.{Value, ◌+ᵛ◌, ◌*ᵛ◌, neg_value, inv_value, zero_value, one_value}
use Rattle.sg_algebra.proofs.ValueField.{ValueR, ValueF, value_mul-inv, value_quotient}
use Rattle.sg_algebra.proofs.Embedding.{constant_value}
use Rattle.sg_algebra.proofs.Rational.{whole_value}
use Rattle.sg_spec.specs.Tree.{Tree, numeral, here, param, add, neg, mul, div, power, sum_from, prod_from}
use Rattle.sg_value_theory.proofs.Divisors.{IsPolynomial, IsDivisor}
use Rattle.sg_tower_theory.proofs.Formal.{Formal, Element, elements, factors, lifted, repaired}
use Rattle.sg_tower_theory.proofs.Flat.{unit_in}
use Rattle.sg_value_theory.proofs.Evaluation.{pow_has}
use Rattle.sg_value_theory.proofs.Elements.{Point, IsQuotientAt, HasElement}
use Rattle.sg_value_theory.proofs.Quotients.{quotients, quotient-constant}
use Rattle.sg_spec.specs.Worth.{HasWorth}
use Rattle.sg_value_theory.proofs.TreePoints.{AreValues, IsPointOf, Agrees}
use Rattle.sg_value_theory.proofs.TowerOf.{BuiltOver, IsTowerOf, at_places}
use Rattle.sg_worth_theory.proofs.Worths.{worth_unique}
use Rattle.sg_value_theory.proofs.RationalPlaces.{whole_at, variable, variable_at}
use Rattle.sg_value_theory.proofs.Evaluations.{evaluation, lifted-has}
use Rattle.sg_value_theory.proofs.Moving.{inverse-has}
use Rattle.sg_value_theory.proofs.FlatValues.{units_value}
use Rattle.sg_value_theory.proofs.Inverses.{has-unit, inverse-is}
use Rattle.sg_value_theory.proofs.OwnSums.{contains_cons, nothing}

abbrev pub unit_row : ℕ → ℕ → List ℤ
unit_row zero i = []
unit_row (suc n) zero = pos 1 ∷ unit_row n n
unit_row (suc n) (suc i) = pos 0 ∷ unit_row n i

module _ {d : ℕ} (letter : Value d) where
  -- ---- Polynomials

  pub function_of : Tree → Value (suc d)
  function_of (numeral c) = whole_value (suc d) c
  function_of here = variable d
  function_of param = constant_value d letter
  function_of (add x y) = function_of x +ᵛ function_of y
  function_of (neg x) = neg_value (function_of x)
  function_of (mul x y) = function_of x *ᵛ function_of y
  function_of (div x y) = zero_value
  function_of (power x e) = pow (ValueR (suc d)) (function_of x) e
  function_of (sum_from a b) = zero_value
  function_of (prod_from a b) = zero_value

  pub function-has : (y : Tree) → IsPolynomial y → (k : ℤ) (v : Value d) → HasWorth letter y k v → IsQuotientAt k (function_of y) v
  unfolding function_of
  function-has (numeral c) o k v h = subst (IsQuotientAt k (whole_value (suc d) c)) (sym h) (whole_at d k c)
  function-has here o k v h = subst (IsQuotientAt k (variable d)) (sym h) (variable_at d k)
  function-has param o k v h = subst (IsQuotientAt k (constant_value d letter)) (sym h) (quotient-constant k letter)
  function-has (add x y) o k v h = subst (IsQuotientAt k (function_of x +ᵛ function_of y)) (sym h.4) ((quotients d k).add_has (function_of x) (function_of y) h.0 h.1 (function-has x o.0 k h.0 h.2) (function-has y o.1 k h.1 h.3))
  function-has (neg x) o k v h = subst (IsQuotientAt k (neg_value (function_of x))) (sym h.2) ((quotients d k).neg_has (function_of x) h.0 (function-has x o k h.0 h.1))
  function-has (mul x y) o k v h = subst (IsQuotientAt k (function_of x *ᵛ function_of y)) (sym h.4) ((quotients d k).mul_has (function_of x) (function_of y) h.0 h.1 (function-has x o.0 k h.0 h.2) (function-has y o.1 k h.1 h.3))
  function-has (div x y) o k v h = absurd o
  function-has (power x e) o k v h = subst (IsQuotientAt k (pow (ValueR (suc d)) (function_of x) e)) (sym h.2) (pow_has (quotients d k) (function_of x) h.0 e (function-has x o k h.0 h.1))
  function-has (sum_from a b) o k v h = absurd o
  function-has (prod_from a b) o k v h = absurd o

  -- ---- The inverse of a listed product

  units-unit : (n : ℕ) (ts : ℕ → Value d) → units_value ts (map neg_ℤ (unit_row n n)) ≡ one_value
  units-unit zero ts = refl
  units-unit (suc n) ts = ap (◌*ᵛ◌ one_value) (units-unit n (λ i. ts (suc i))) ∙ ring (ValueR d) [] (search reads depth 12) refl

  unit-inverse : (n i : ℕ) (ts : ℕ → Value d) → i < n → units_value ts (map neg_ℤ (unit_row n i)) ≡ inv_value (ts i)
  unit-inverse zero i ts l = absurd (omega (arith, l))
  unit-inverse (suc n) zero ts l = ap (◌*ᵛ◌ (one_value *ᵛ inv_value (ts 0))) (units-unit n (λ i. ts (suc i))) ∙ ring (ValueR d) (inv_value (ts 0) ∷ []) (search reads depth 12) refl
  unit-inverse (suc n) (suc i) ts l = ap (◌*ᵛ◌ one_value) (unit-inverse n i (λ j. ts (suc j)) (omega (arith, l))) ∙ ring (ValueR d) (inv_value (ts (suc i)) ∷ []) (search reads depth 12) refl

  units-own : (n : ℕ) (ts : ℕ → Value d) → units_value ts (unit_row n n) ≡ one_value
  units-own zero ts = refl
  units-own (suc n) ts = ap (◌*ᵛ◌ one_value) (units-own n (λ i. ts (suc i))) ∙ ring (ValueR d) [] (search reads depth 12) refl

  unit-own : (n i : ℕ) (ts : ℕ → Value d) → i < n → units_value ts (unit_row n i) ≡ ts i
  unit-own zero i ts l = absurd (omega (arith, l))
  unit-own (suc n) zero ts l = ap (◌*ᵛ◌ (one_value *ᵛ ts 0)) (units-own n (λ i. ts (suc i))) ∙ ring (ValueR d) (ts 0 ∷ []) (search reads depth 12) refl
  unit-own (suc n) (suc i) ts l = ap (◌*ᵛ◌ one_value) (unit-own n i (λ j. ts (suc j)) (omega (arith, l))) ∙ ring (ValueR d) (ts (suc i) ∷ []) (search reads depth 12) refl

  row-length : (n i : ℕ) → length (unit_row n i) ≡ n
  row-length zero i = refl
  row-length (suc n) zero = ap suc (row-length n n)
  row-length (suc n) (suc i) = ap suc (row-length n i)

  -- where a listed product stands, and its value at a point
  place_in : (ps : List Tree) (g : Tree) → Contains ps g → (i : ℕ) × (i < length ps) × ((k : ℤ) (ts : ℕ → Value d) (v : Value d) → AreValues letter k ps ts → HasWorth letter g k v → v ≡ ts i)
  place_in [] g c = absurd (nothing c)
  place_in (p ∷ ps) g c = go (contains_cons p g ps c) (λ h. place_in ps g h)
    where
      go : (p ≡ g) ⊎ Contains ps g → (Contains ps g → (i : ℕ) × (i < length ps) × ((k : ℤ) (ts : ℕ → Value d) (v : Value d) → AreValues letter k ps ts → HasWorth letter g k v → v ≡ ts i))
          → (i : ℕ) × (i < suc (length ps)) × ((k : ℤ) (ts : ℕ → Value d) (v : Value d) → AreValues letter k (p ∷ ps) ts → HasWorth letter g k v → v ≡ ts i)
      go (inl e) again = (0, omega arith, λ k ts v h w. worth_unique letter g k v (ts 0) w (subst (λ (t : Tree). HasWorth letter t k (ts 0)) e h.0))
      go (inr h) again = let r = again h in (suc r.0, omega (arith, r.1), λ k ts v i w. r.2 k (λ j. ts (suc j)) v i.1 w)

  -- ---- Inverses of values

  inverse_neg : (w : Value d) → ¬ (neg_value w ≡ zero_value) → inv_value (neg_value w) ≡ neg_value (inv_value w)
  inverse_neg w n = sym (inverse-is (neg_value w) (neg_value (inv_value w)) n (turned w (inv_value w) (value_mul-inv d w (λ z. n (ap neg_value z ∙ ring (ValueR d) [] (search reads depth 12) refl)))))
    where
      turned : (w u : Value d) → w *ᵛ u ≡ one_value → neg_value u *ᵛ neg_value w ≡ one_value
      turned w u h = by (ValueR d) (w ∷ u ∷ []) h (search reads depth 16) refl

  left_ne : (u w : Value d) → ¬ (u *ᵛ w ≡ zero_value) → ¬ (u ≡ zero_value)
  left_ne u w n z = n (ap (λ a. a *ᵛ w) z ∙ ring (ValueR d) (w ∷ []) (search reads depth 12) refl)

  right_ne : (u w : Value d) → ¬ (u *ᵛ w ≡ zero_value) → ¬ (w ≡ zero_value)
  right_ne u w n z = n (ap (◌*ᵛ◌ u) z ∙ ring (ValueR d) (u ∷ []) (search reads depth 12) refl)

  inverse_mul : (u w : Value d) → ¬ (u *ᵛ w ≡ zero_value) → inv_value (u *ᵛ w) ≡ inv_value u *ᵛ inv_value w
  inverse_mul u w n = sym (inverse-is (u *ᵛ w) (inv_value u *ᵛ inv_value w) n (turned u (inv_value u) w (inv_value w) (value_mul-inv d u (left_ne u w n)) (value_mul-inv d w (right_ne u w n))))
    where
      turned : (u a w b : Value d) → u *ᵛ a ≡ one_value → w *ᵛ b ≡ one_value → (a *ᵛ b) *ᵛ (u *ᵛ w) ≡ one_value
      turned u a w b h i = by (ValueR d) (u ∷ a ∷ w ∷ b ∷ []) ((ValueR d).mul_cong h i) (search reads depth 16) refl

  inverse_one : inv_value {d = d} one_value ≡ one_value
  inverse_one = sym (value_quotient one_value one_value one_value (λ z. (ValueF d).one_ne z) (ring (ValueR d) [] (search reads depth 12) refl) ∙ ring (ValueR d) (inv_value (one_value {d = d}) ∷ []) (search reads depth 12) refl)

  inverse_pow : (w : Value d) (e : ℕ) → ¬ (pow (ValueR d) w e ≡ zero_value) → inv_value (pow (ValueR d) w e) ≡ pow (ValueR d) (inv_value w) e
  inverse_pow w zero n = inverse_one
  inverse_pow w (suc e) n = inverse_mul (pow (ValueR d) w e) w n ∙ ap (λ z. z *ᵛ inv_value w) (inverse_pow w e (left_ne (pow (ValueR d) w e) w n))

  module _ (s : ℤ) (ps ss : List Tree) (f : Formal d) (places : List ℕ) (known : List (Element f)) (is : IsTowerOf letter s ps ss f places known) where
    abbrev E : Ring
    E = elements f

    abbrev IsPoint : Point d → Type 0
    IsPoint p = IsPointOf letter ps (at_places ss places) p

    -- at every point from the start on the element has the values of the expression
    abbrev pub AgreesFrom : Element f → Tree → Type 0
    AgreesFrom x e = (p : Point d) → s ≤ℤ p.variable → IsPointOf letter ps (at_places ss places) p → Agrees letter f p x e

    -- and the inverse ones where these aren't 0
    abbrev pub InvertsFrom : Element f → Tree → Type 0
    InvertsFrom z y = (p : Point d) → s ≤ℤ p.variable → IsPointOf letter ps (at_places ss places) p → (w : Value d) → HasWorth letter y p.variable w → ¬ (w ≡ zero_value) → HasElement f p z (inv_value w)

    sized : (i : ℕ) → length (unit_row (length ps) i) ≡ length (factors f.products)
    sized i = row-length (length ps) i ∙ is.adjoined ∙ sym (length-map f.products (repaired {d = d}))

    negated : (i : ℕ) → length (map neg_ℤ (unit_row (length ps) i)) ≡ length (factors f.products)
    negated i = length-map (unit_row (length ps) i) neg_ℤ ∙ sized i

    one_at : (p : Point d) → IsQuotientAt {d = d} p.variable one_value one_value
    one_at p = (quotients d p.variable).one_has

    -- the product i, and its inverse
    abbrev pub own_product : ℕ → Element f
    own_product i = unit_in f.products f.sums (unit_row (length ps) i) one_value

    abbrev pub own_inverse : ℕ → Element f
    own_inverse i = unit_in f.products f.sums (map neg_ℤ (unit_row (length ps) i)) one_value

    times_one : (u : Value d) → one_value *ᵛ u ≡ u
    times_one u = ring (ValueR d) (u ∷ []) (search reads depth 12) refl

    pub product_over : (g : Tree) → Contains ps g → (x : Element f) × AgreesFrom x g
    product_over g c = let r = place_in ps g c in (
      own_product r.0,
      λ p l i v w.
          subst (HasElement f p (own_product r.0)) (times_one (units_value p.products (unit_row (length ps) r.0)) ∙ unit-own (length ps) r.0 p.products r.1 ∙ sym (r.2 p.variable p.products v i.0 w))
          (has-unit f.products f.sums p (unit_row (length ps) r.0) one_value one_value (sized r.0) (one_at p)),
    )

    pub inverse_over : (g : Tree) → Contains ps g → (z : Element f) × InvertsFrom z g
    inverse_over g c = let r = place_in ps g c in (
      own_inverse r.0,
      λ p l i v w n.
          subst (HasElement f p (own_inverse r.0)) (times_one (units_value p.products (map neg_ℤ (unit_row (length ps) r.0))) ∙ unit-inverse (length ps) r.0 p.products r.1 ∙ ap inv_value (sym (r.2 p.variable p.products v i.0 w)))
          (has-unit f.products f.sums p (map neg_ℤ (unit_row (length ps) r.0)) one_value one_value (negated r.0) (one_at p)),
    )

    polynomial_inverts : (y : Tree) → IsPolynomial y → InvertsFrom (lifted f (inv_value (function_of y))) y
    polynomial_inverts y o p l i w h n = lifted-has f p (inv_value (function_of y)) (inv_value w) (inverse-has p.variable (function_of y) w (function-has y o p.variable w h) n)

    pub divisor_over : (y : Tree) → IsDivisor ps y → (z : Element f) × InvertsFrom z y
    divisor_over (numeral c) o = (lifted f (inv_value (function_of (numeral c))), polynomial_inverts (numeral c) o)
    divisor_over here o = (lifted f (inv_value (function_of here)), polynomial_inverts here o)
    divisor_over param o = (lifted f (inv_value (function_of param)), polynomial_inverts param o)
    divisor_over (add x y) o = (lifted f (inv_value (function_of (add x y))), polynomial_inverts (add x y) o)
    divisor_over (neg x) o = let r = divisor_over x o in (
      E.⊟ r.0,
      λ p l i w h n.
          let m : ¬ (neg_value h.0 ≡ zero_value) = λ z. n (h.2 ∙ z) in
          subst (HasElement f p (E.⊟ r.0)) (sym (ap inv_value h.2 ∙ inverse_neg h.0 m)) ((evaluation f p).neg_has r.0 (inv_value h.0) (r.1 p l i h.0 h.1 (λ z. m (ap neg_value z ∙ ring (ValueR d) [] (search reads depth 12) refl)))),
    )
    divisor_over (mul x y) o = let r = divisor_over x o.0 in let q = divisor_over y o.1 in (
      E.◌⊠◌ r.0 q.0,
      λ p l i w h n.
          let m : ¬ (h.0 *ᵛ h.1 ≡ zero_value) = λ z. n (h.4 ∙ z) in
          subst (HasElement f p (E.◌⊠◌ r.0 q.0)) (sym (ap inv_value h.4 ∙ inverse_mul h.0 h.1 m)) ((evaluation f p).mul_has r.0 q.0 (inv_value h.0) (inv_value h.1) (r.1 p l i h.0 h.2 (left_ne h.0 h.1 m)) (q.1 p l i h.1 h.3 (right_ne h.0 h.1 m))),
    )
    divisor_over (div x y) o = absurd o
    divisor_over (power x zero) o = (E.I, λ p l i w h n. subst (HasElement f p E.I) (sym (ap inv_value h.2 ∙ inverse_one)) (evaluation f p).one_has)
    divisor_over (power x (suc e)) o = let r = divisor_over x o in (
      pow E r.0 (suc e),
      λ p l i w h n.
          let m : ¬ (pow (ValueR d) h.0 (suc e) ≡ zero_value) = λ z. n (h.2 ∙ z) in
          subst (HasElement f p (pow E r.0 (suc e))) (sym (ap inv_value h.2 ∙ inverse_pow h.0 (suc e) m)) (pow_has (evaluation f p) r.0 (inv_value h.0) (suc e) (r.1 p l i h.0 h.1 (right_ne (pow (ValueR d) h.0 e) h.0 m))),
    )
    divisor_over (sum_from a b) o = absurd o
    divisor_over (prod_from a b) o = inverse_over (prod_from a b) o

    module _ (sums : (t : Tree) → Contains ss t → (x : Element f) × AgreesFrom x t) where
      pub element_over : (e : Tree) → BuiltOver ps ss e → (x : Element f) × AgreesFrom x e
      element_over (numeral c) o = (lifted f (function_of (numeral c)), λ p l i v h. lifted-has f p (function_of (numeral c)) v (function-has (numeral c) tt p.variable v h))
      element_over here o = (lifted f (function_of here), λ p l i v h. lifted-has f p (function_of here) v (function-has here tt p.variable v h))
      element_over param o = (lifted f (function_of param), λ p l i v h. lifted-has f p (function_of param) v (function-has param tt p.variable v h))
      element_over (add x y) o = let r = element_over x o.0 in let q = element_over y o.1 in (E.◌⊞◌ r.0 q.0, λ p l i v h. subst (HasElement f p (E.◌⊞◌ r.0 q.0)) (sym h.4) ((evaluation f p).add_has r.0 q.0 h.0 h.1 (r.1 p l i h.0 h.2) (q.1 p l i h.1 h.3)))
      element_over (neg x) o = let r = element_over x o in (E.⊟ r.0, λ p l i v h. subst (HasElement f p (E.⊟ r.0)) (sym h.2) ((evaluation f p).neg_has r.0 h.0 (r.1 p l i h.0 h.1)))
      element_over (mul x y) o = let r = element_over x o.0 in let q = element_over y o.1 in (E.◌⊠◌ r.0 q.0, λ p l i v h. subst (HasElement f p (E.◌⊠◌ r.0 q.0)) (sym h.4) ((evaluation f p).mul_has r.0 q.0 h.0 h.1 (r.1 p l i h.0 h.2) (q.1 p l i h.1 h.3)))
      element_over (div x y) o = let r = element_over x o.0 in let q = divisor_over y o.2 in (E.◌⊠◌ r.0 q.0, λ p l i v h. subst (HasElement f p (E.◌⊠◌ r.0 q.0)) (sym h.5) ((evaluation f p).mul_has r.0 q.0 h.0 (inv_value h.1) (r.1 p l i h.0 h.2) (q.1 p l i h.1 h.3 h.4)))
      element_over (power x e) o = let r = element_over x o in (pow E r.0 e, λ p l i v h. subst (HasElement f p (pow E r.0 e)) (sym h.2) (pow_has (evaluation f p) r.0 h.0 e (r.1 p l i h.0 h.1)))
      element_over (sum_from a b) o = sums (sum_from a b) o
      element_over (prod_from a b) o = product_over (prod_from a b) o
