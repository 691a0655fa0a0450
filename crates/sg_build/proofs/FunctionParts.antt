-- The rational function of a polynomial from those of its parts.
--   function-number, -here, -param, -sum, -opposite, -product, -power     by cases
--   function-some        it isn't 0 where the polynomial somewhere has a value other than 0
--   function-over        1 over it
--   variable-is          the variable as a fraction of polynomials
use Rattle.std.proofs.Common.{◌≡◌, ℕ, suc, ℤ, refl, sym, ap, subst, ◌∙◌, List, [], ◌∷◌, map}
use Rattle.sg_algebra.proofs.Embedding.{constant_value}
use Rattle.sg_algebra.proofs.Polynomial.{poly, polynomial_one_ne}
use Rattle.sg_algebra.proofs.Rational.{whole_value}
use Rattle.sg_algebra.proofs.Ring.{pow}
use Rattle.sg_algebra.proofs.Solver.{ring, reads}
use Rattle.sg_algebra.proofs.Value.{Value, ◌+ᵛ◌, ◌-ᵛ◌, ◌*ᵛ◌, ◌/ᵛ◌, neg_value, inv_value, zero_value, one_value, over_value}
use Rattle.sg_algebra.proofs.ValueField.{ValueR}
use Rattle.sg_ratfun.proofs.Quotients.{over_equal}
use Rattle.sg_spec.specs.Tree.{Tree, numeral, here, param, add, neg, mul, power}
use Rattle.sg_value_theory.proofs.Elements.{IsQuotientAt}
use Rattle.sg_value_theory.proofs.Evaluation.{pow_has}
use Rattle.sg_value_theory.proofs.Moving.{inverse-has}
use Rattle.sg_value_theory.proofs.Quotients.{quotients, quotient-constant}
use Rattle.sg_value_theory.proofs.RationalPlaces.{variable, variable_at}
use Rattle.sg_build.specs.Placed.{IsFunctionOf, IsFunctionOver, HasSomeValue}

module _ {d : ℕ} (letter : Value d) where
  same-at : (x y : Value (suc d)) (k : ℤ) (v w : Value d) → x ≡ y → v ≡ w → IsQuotientAt k y w → IsQuotientAt k x v
  same-at x y k v w e f h = subst (λ (z : Value (suc d)). IsQuotientAt k z v) (sym e) (subst (IsQuotientAt k y) (sym f) h)

  pub function-number : (c : ℤ) (z : Value d) (r : Value (suc d)) → z ≡ whole_value d c → r ≡ constant_value d z → IsFunctionOf letter (numeral c) r
  function-number c z r e h k v w = same-at r (constant_value d z) k v z h (w ∙ sym e) (quotient-constant k z)

  pub function-here : (r : Value (suc d)) → r ≡ variable d → IsFunctionOf letter here r
  function-here r h k v w = same-at r (variable d) k v (whole_value d k) h w (variable_at d k)

  pub function-param : (z : Value d) (r : Value (suc d)) → z ≡ letter → r ≡ constant_value d z → IsFunctionOf letter param r
  function-param z r e h k v w = same-at r (constant_value d z) k v z h (w ∙ sym e) (quotient-constant k z)

  pub function-sum : (s t : Tree) (x y r : Value (suc d)) → IsFunctionOf letter s x → IsFunctionOf letter t y → r ≡ x +ᵛ y → IsFunctionOf letter (add s t) r
  function-sum s t x y r f g e k v w = same-at r (x +ᵛ y) k v (w.0 +ᵛ w.1) e w.4 ((quotients d k).add_has x y w.0 w.1 (f k w.0 w.2) (g k w.1 w.3))

  pub function-opposite : (s : Tree) (x z r : Value (suc d)) → IsFunctionOf letter s x → z ≡ zero_value → r ≡ z -ᵛ x → IsFunctionOf letter (neg s) r
  function-opposite s x z r f e h k v w = same-at r (neg_value x) k v (neg_value w.0) (h ∙ ap (λ a. a -ᵛ x) e ∙ ring (ValueR (suc d)) (x ∷ []) (search reads depth 16) refl) w.2 ((quotients d k).neg_has x w.0 (f k w.0 w.1))

  pub function-product : (s t : Tree) (x y r : Value (suc d)) → IsFunctionOf letter s x → IsFunctionOf letter t y → r ≡ x *ᵛ y → IsFunctionOf letter (mul s t) r
  function-product s t x y r f g e k v w = same-at r (x *ᵛ y) k v (w.0 *ᵛ w.1) e w.4 ((quotients d k).mul_has x y w.0 w.1 (f k w.0 w.2) (g k w.1 w.3))

  pub function-power : (s : Tree) (e : ℕ) (x r : Value (suc d)) → IsFunctionOf letter s x → r ≡ pow (ValueR (suc d)) x e → IsFunctionOf letter (power s e) r
  function-power s e x r f h k v w = same-at r (pow (ValueR (suc d)) x e) k v (pow (ValueR d) w.0 e) h w.2 (pow_has (quotients d k) x w.0 e (f k w.0 w.1))

  pub function-some : (t : Tree) (x : Value (suc d)) → IsFunctionOf letter t x → HasSomeValue letter t → ¬ (x ≡ zero_value)
  function-some t x f h z = let k = h.0 in h.3 ((quotients d k).unique zero_value h.1 zero_value ((quotients d k).same x zero_value h.1 z (f k h.1 h.2)) (quotients d k).zero_has)

  pub function-over : (t : Tree) (x o r : Value (suc d)) → IsFunctionOf letter t x → o ≡ one_value → r ≡ o /ᵛ x → IsFunctionOver letter t r
  function-over t x o r f e h k v w n = same-at r (inv_value x) k (inv_value v) (inv_value v) (h ∙ ap (λ a. a *ᵛ inv_value x) e ∙ alone (inv_value x)) refl (inverse-has k x v (f k v w) n)
    where
      alone : (a : Value (suc d)) → one_value *ᵛ a ≡ a
      alone a = ring (ValueR (suc d)) (a ∷ []) (search reads depth 12) refl

pub variable-is : {K : Type 0} {d : ℕ} (v : K → Value d) (p : List K) (c : K) (r : Value (suc d)) → poly (map v p) ≡ poly (zero_value ∷ v c ∷ []) → v c ≡ one_value → r ≡ over_value (map v p) (one_value ∷ []) → r ≡ variable d
variable-is v p c r h k e = e ∙ over_equal (map v p) (one_value ∷ []) (zero_value ∷ one_value ∷ []) (one_value ∷ []) polynomial_one_ne (h ∙ ap (λ a. poly (zero_value ∷ a ∷ [])) k) refl
