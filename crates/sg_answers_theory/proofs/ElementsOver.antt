-- Expressions over products and sums are elements of a tower over the free ones of them, where each product has an element and an inverse.
--   AgreesFrom x e       at each point from the start on the element x has the values of the expression e
--   InvertsFrom z e      and z has the inverse ones where these aren't 0
--   IsPlaced g           the product g has an element and an inverse
--   divisor_over, element_over    so divisors have inverses, and expressions have elements
--   both_true            each of two tests that hold together holds
--   built_over           what is built from what is allowed is built over its products and sums
use Rattle.std.proofs.Common.{◌≡◌, ℕ, zero, suc, ℤ, ◌≤ℤ◌, refl, sym, ap, ◌∙◌, subst, List, [], Contains, Bool, true, false, ◌&&◌, true≢false, IsTrue}
use Rattle.sg_algebra.specs.Ring.{Ring}
use Rattle.sg_algebra.proofs.Ring.{pow}
use Rattle.sg_algebra.proofs.Solver.{ring, reads}
use Rattle.sg_algebra.proofs.Value.{Value, ◌*ᵛ◌, neg_value, inv_value, zero_value}
use Rattle.sg_algebra.proofs.ValueField.{ValueR}
use Rattle.sg_spec.specs.Tree.{Tree, numeral, here, param, add, neg, mul, div, power, sum_from, prod_from}
use Rattle.sg_spec.specs.Shape.{is_polynomial_tree, is_divisor_tree}
use Rattle.sg_spec.specs.Generators.{Allowed, BuiltOver as OwnBuilt}
use Rattle.sg_spec.specs.Worth.{HasWorth}
use Rattle.sg_value_theory.proofs.Divisors.{IsPolynomial, IsDivisor}
use Rattle.sg_value_theory.proofs.Evaluation.{pow_has}
use Rattle.sg_value_theory.proofs.Elements.{Point, HasElement}
use Rattle.sg_value_theory.proofs.TreePoints.{IsPointOf, Agrees}
use Rattle.sg_value_theory.proofs.TowerOf.{BuiltOver}
use Rattle.sg_value_theory.proofs.Evaluations.{evaluation, lifted-has}
use Rattle.sg_value_theory.proofs.Moving.{inverse-has}
use Rattle.sg_answers_theory.proofs.InverseValues.{left_ne, right_ne, inverse_neg, inverse_one, inverse_mul, inverse_pow}
use Rattle.sg_value_theory.proofs.OverProducts.{function_of, function-has}
use Rattle.sg_tower_theory.proofs.Formal.{Formal, Element, elements, lifted}

-- ---- Shapes

pub both_true : (a b : Bool) → IsTrue (a && b) → IsTrue a × IsTrue b
both_true true true h = (refl, refl)
both_true true false h = absurd (true≢false (sym h))
both_true false b h = absurd (true≢false (sym h))

polynomial_of : (y : Tree) → IsTrue (is_polynomial_tree y) → IsPolynomial y
polynomial_of (numeral c) h = tt
polynomial_of here h = tt
polynomial_of param h = tt
polynomial_of (add x y) h = let r = both_true (is_polynomial_tree x) (is_polynomial_tree y) h in (polynomial_of x r.0, polynomial_of y r.1)
polynomial_of (neg x) h = polynomial_of x h
polynomial_of (mul x y) h = let r = both_true (is_polynomial_tree x) (is_polynomial_tree y) h in (polynomial_of x r.0, polynomial_of y r.1)
polynomial_of (div x y) h = absurd (true≢false (sym h))
polynomial_of (power x e) h = polynomial_of x h
polynomial_of (sum_from a b) h = absurd (true≢false (sym h))
polynomial_of (prod_from a b) h = absurd (true≢false (sym h))

module _ (allowed : Allowed) where
  divisor_of : (y : Tree) → OwnBuilt allowed y → IsTrue (is_divisor_tree y) → IsDivisor allowed.products y
  divisor_of (numeral c) o h = tt
  divisor_of here o h = tt
  divisor_of param o h = tt
  divisor_of (add x y) o h = let r = both_true (is_polynomial_tree x) (is_polynomial_tree y) h in (polynomial_of x r.0, polynomial_of y r.1)
  divisor_of (neg x) o h = divisor_of x o h
  divisor_of (mul x y) o h = let r = both_true (is_divisor_tree x) (is_divisor_tree y) h in (divisor_of x o.0 r.0, divisor_of y o.1 r.1)
  divisor_of (div x y) o h = absurd (true≢false (sym h))
  divisor_of (power x e) o h = divisor_of x o h
  divisor_of (sum_from a b) o h = absurd (true≢false (sym h))
  divisor_of (prod_from a b) o h = o

  pub built_over : (e : Tree) → OwnBuilt allowed e → BuiltOver allowed.products allowed.sums e
  built_over (numeral c) o = tt
  built_over here o = tt
  built_over param o = tt
  built_over (add x y) o = (built_over x o.0, built_over y o.1)
  built_over (neg x) o = built_over x o
  built_over (mul x y) o = (built_over x o.0, built_over y o.1)
  built_over (div x y) o = (built_over x o.0, built_over y o.1, divisor_of y o.1 o.2)
  built_over (power x e) o = built_over x o
  built_over (sum_from a b) o = o
  built_over (prod_from a b) o = o

-- ---- Elements

module _ {d : ℕ} (letter : Value d) where
  module _ (s : ℤ) (ps gens : List Tree) (f : Formal d) where
    abbrev E : Ring
    E = elements f

    abbrev pub AgreesFrom : Element f → Tree → Type 0
    AgreesFrom x e = (p : Point d) → s ≤ℤ p.variable → IsPointOf letter ps gens p → Agrees letter f p x e

    abbrev pub InvertsFrom : Element f → Tree → Type 0
    InvertsFrom z y = (p : Point d) → s ≤ℤ p.variable → IsPointOf letter ps gens p → (w : Value d) → HasWorth letter y p.variable w → ¬ (w ≡ zero_value) → HasElement f p z (inv_value w)

    pub record IsPlaced (g : Tree) : Type 0 where
      pub element : Element f
      pub inverse : Element f
      pub agrees : AgreesFrom element g
      pub inverts : InvertsFrom inverse g

    module _ (qs : List Tree) (products : (g : Tree) → Contains qs g → IsPlaced g) where
      polynomial_inverts : (y : Tree) → IsPolynomial y → InvertsFrom (lifted f (inv_value (function_of letter y))) y
      polynomial_inverts y o p l i w h n = lifted-has f p (inv_value (function_of letter y)) (inv_value w) (inverse-has p.variable (function_of letter y) w (function-has letter y o p.variable w h) n)

      pub divisor_over : (y : Tree) → IsDivisor qs y → (z : Element f) × InvertsFrom z y
      divisor_over (numeral c) o = (lifted f (inv_value (function_of letter (numeral c))), polynomial_inverts (numeral c) o)
      divisor_over here o = (lifted f (inv_value (function_of letter here)), polynomial_inverts here o)
      divisor_over param o = (lifted f (inv_value (function_of letter param)), polynomial_inverts param o)
      divisor_over (add x y) o = (lifted f (inv_value (function_of letter (add x y))), polynomial_inverts (add x y) o)
      divisor_over (neg x) o = let r = divisor_over x o in (
        E.⊟ r.0,
        λ p l i w h n.
            let m : ¬ (neg_value h.0 ≡ zero_value) = λ z. n (h.2 ∙ z) in
            subst (HasElement f p (E.⊟ r.0)) (sym (ap inv_value h.2 ∙ inverse_neg h.0 m)) ((evaluation f p).neg_has r.0 (inv_value h.0) (r.1 p l i h.0 h.1 (λ z. m (ap neg_value z ∙ ring (ValueR d) [] (search reads depth 12) refl)))),
      )
      divisor_over (mul x y) o = let r = divisor_over x o.0 in let q = divisor_over y o.1 in (
        E.◌⊠◌ r.0 q.0,
        λ p l i w h n.
            let m : ¬ (h.0 *ᵛ h.1 ≡ zero_value) = λ z. n (h.4 ∙ z) in
            subst (HasElement f p (E.◌⊠◌ r.0 q.0)) (sym (ap inv_value h.4 ∙ inverse_mul h.0 h.1 (left_ne h.0 h.1 m) (right_ne h.0 h.1 m))) ((evaluation f p).mul_has r.0 q.0 (inv_value h.0) (inv_value h.1) (r.1 p l i h.0 h.2 (left_ne h.0 h.1 m)) (q.1 p l i h.1 h.3 (right_ne h.0 h.1 m))),
      )
      divisor_over (div x y) o = absurd o
      divisor_over (power x zero) o = (E.I, λ p l i w h n. subst (HasElement f p E.I) (sym (ap inv_value h.2 ∙ inverse_one)) (evaluation f p).one_has)
      divisor_over (power x (suc e)) o = let r = divisor_over x o in (
        pow E r.0 (suc e),
        λ p l i w h n.
            let m : ¬ (pow (ValueR d) h.0 (suc e) ≡ zero_value) = λ z. n (h.2 ∙ z) in
            subst (HasElement f p (pow E r.0 (suc e))) (sym (ap inv_value h.2 ∙ inverse_pow h.0 (suc e) (right_ne (pow (ValueR d) h.0 e) h.0 m))) (pow_has (evaluation f p) r.0 (inv_value h.0) (suc e) (r.1 p l i h.0 h.1 (right_ne (pow (ValueR d) h.0 e) h.0 m))),
      )
      divisor_over (sum_from a b) o = absurd o
      divisor_over (prod_from a b) o = let r = products (prod_from a b) o in (r.inverse, r.inverts)

      module _ (ts : List Tree) (sums : (g : Tree) → Contains ts g → (x : Element f) × AgreesFrom x g) where
        pub element_over : (e : Tree) → BuiltOver qs ts e → (x : Element f) × AgreesFrom x e
        element_over (numeral c) o = (lifted f (function_of letter (numeral c)), λ p l i v h. lifted-has f p (function_of letter (numeral c)) v (function-has letter (numeral c) tt p.variable v h))
        element_over here o = (lifted f (function_of letter here), λ p l i v h. lifted-has f p (function_of letter here) v (function-has letter here tt p.variable v h))
        element_over param o = (lifted f (function_of letter param), λ p l i v h. lifted-has f p (function_of letter param) v (function-has letter param tt p.variable v h))
        element_over (add x y) o = let r = element_over x o.0 in let q = element_over y o.1 in (E.◌⊞◌ r.0 q.0, λ p l i v h. subst (HasElement f p (E.◌⊞◌ r.0 q.0)) (sym h.4) ((evaluation f p).add_has r.0 q.0 h.0 h.1 (r.1 p l i h.0 h.2) (q.1 p l i h.1 h.3)))
        element_over (neg x) o = let r = element_over x o in (E.⊟ r.0, λ p l i v h. subst (HasElement f p (E.⊟ r.0)) (sym h.2) ((evaluation f p).neg_has r.0 h.0 (r.1 p l i h.0 h.1)))
        element_over (mul x y) o = let r = element_over x o.0 in let q = element_over y o.1 in (E.◌⊠◌ r.0 q.0, λ p l i v h. subst (HasElement f p (E.◌⊠◌ r.0 q.0)) (sym h.4) ((evaluation f p).mul_has r.0 q.0 h.0 h.1 (r.1 p l i h.0 h.2) (q.1 p l i h.1 h.3)))
        element_over (div x y) o = let r = element_over x o.0 in let q = divisor_over y o.2 in (E.◌⊠◌ r.0 q.0, λ p l i v h. subst (HasElement f p (E.◌⊠◌ r.0 q.0)) (sym h.5) ((evaluation f p).mul_has r.0 q.0 h.0 (inv_value h.1) (r.1 p l i h.0 h.2) (q.1 p l i h.1 h.3 h.4)))
        element_over (power x e) o = let r = element_over x o in (pow E r.0 e, λ p l i v h. subst (HasElement f p (pow E r.0 e)) (sym h.2) (pow_has (evaluation f p) r.0 h.0 e (r.1 p l i h.0 h.1)))
        element_over (sum_from a b) o = sums (sum_from a b) o
        element_over (prod_from a b) o = let r = products (prod_from a b) o in (r.element, r.agrees)
