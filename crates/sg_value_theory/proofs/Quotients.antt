-- The values of quotients of polynomials at a whole number, in the field of their coefficients.
--   quotients d k     they are an evaluation
--   quotient-inverse  where the value isn't 0, the inverse has the inverse value
--   quotient-whole, quotient-variable, quotient-constant    constants and the variable
use Rattle.std.proofs.Common.{◌≡◌, ℕ, suc, refl, sym, ap, ap₂, ◌∙◌, subst, List, [], ◌∷◌, map, ℤ}
use Rattle.sg_algebra.specs.Coefficients.{eval, poly_mul, zip_longest}
use Rattle.sg_algebra.proofs.Solver.{ring, by, scale, reads}
use Rattle.sg_algebra.proofs.Field.{product_ne}
use Rattle.sg_algebra.proofs.FieldSolver.{field, freads, ne}
use Rattle.sg_algebra.proofs.PolynomialRing.{PolyR}
use Rattle.sg_algebra.proofs.Evaluation.{eval-add, eval-mul, eval-neg, eval-zero, eval_cong}
use Rattle.sg_algebra.proofs.Value.{Value, ◌+ᵛ◌, ◌*ᵛ◌, ◌/ᵛ◌, neg_value, inv_value, zero_value, one_value, over_value}
use Rattle.sg_algebra.proofs.ValueField.{ValueR, ValueF, ValueD, value_quotient, value_product, value_mul-inv, value_one_ne}
use Rattle.sg_algebra.proofs.OverValue.{over_value-add, over_value-mul, over_value-neg, over_value-div, over_value-zero, over_value-self, same_over_value}
use Rattle.sg_algebra.proofs.Rational.{whole_value}
use Rattle.sg_value_theory.proofs.Evaluation.{Evaluation}
use Rattle.sg_value_theory.proofs.Elements.{IsQuotientAt}

module _ {d : ℕ} where
  crossed : (a b c e : Value d) → ¬ (b ≡ zero_value) → ¬ (e ≡ zero_value) → a *ᵛ e ≡ c *ᵛ b → a /ᵛ b ≡ c /ᵛ e
  crossed a b c e h k s = value_quotient c e (a /ᵛ b) k (by (ValueR d) (a ∷ b ∷ c ∷ e ∷ inv_value b ∷ [])
      ((ValueR d).add_cong (scale (ValueR d) (inv_value b) s) (scale (ValueR d) c (value_mul-inv d b h))) (search reads depth 20) refl)

  pub both_ne : (b e : Value d) → ¬ (b ≡ zero_value) → ¬ (e ≡ zero_value) → ¬ (b *ᵛ e ≡ zero_value)
  both_ne b e h k = product_ne (ValueD d) h k

  split_add : (a b c e : Value d) → ¬ (b ≡ zero_value) → ¬ (e ≡ zero_value) → a /ᵛ b +ᵛ c /ᵛ e ≡ (a *ᵛ e +ᵛ c *ᵛ b) /ᵛ (b *ᵛ e)
  split_add a b c e h k = field (ValueF d) (a ∷ b ∷ c ∷ e ∷ []) (search freads depth 20) refl (search (ne (ValueF d) []))

  split_mul : (a b c e : Value d) → ¬ (b ≡ zero_value) → ¬ (e ≡ zero_value) → (a /ᵛ b) *ᵛ (c /ᵛ e) ≡ (a *ᵛ c) /ᵛ (b *ᵛ e)
  split_mul a b c e h k = field (ValueF d) (a ∷ b ∷ c ∷ e ∷ []) (search freads depth 20) refl (search (ne (ValueF d) []))

  split_neg : (a b : Value d) → neg_value (a /ᵛ b) ≡ neg_value a /ᵛ b
  split_neg a b = ring (ValueR d) (a ∷ inv_value b ∷ []) (search reads depth 12) refl

  split_div : (a b c e : Value d) → ¬ (b ≡ zero_value) → ¬ (e ≡ zero_value) → ¬ (c ≡ zero_value) → (a /ᵛ b) /ᵛ (c /ᵛ e) ≡ (a *ᵛ e) /ᵛ (b *ᵛ c)
  split_div a b c e h k n = sym (value_quotient (a /ᵛ b) (c /ᵛ e) ((a *ᵛ e) /ᵛ (b *ᵛ c)) (λ z. n (sym (value_product c e k) ∙ ap (λ y. y *ᵛ e) z ∙ ring (ValueR d) (e ∷ []) (search reads depth 12) refl))
      (field (ValueF d) (a ∷ b ∷ c ∷ e ∷ []) (search freads depth 20) refl (search (ne (ValueF d) []))))

  module _ (k : ℤ) where
    abbrev pub at : List (Value d) → Value d
    at p = eval (ValueR d) p (whole_value d k)

    pub at_mul : (p q : List (Value d)) → at (poly_mul (ValueR d) p q) ≡ at p *ᵛ at q
    at_mul p q = eval-mul (ValueR d) p q (whole_value d k)

    at_add : (p q : List (Value d)) → at (zip_longest ◌+ᵛ◌ p q) ≡ at p +ᵛ at q
    at_add p q = eval-add (ValueR d) p q (whole_value d k)

    pub apart : (q : List (Value d)) → ¬ (at q ≡ zero_value) → ¬ ((PolyR (ValueR d)).◌≈◌ q [])
    apart q n z = n (eval-zero (ValueR d) q (whole_value d k) z.image.at)

    pub unique : (x : Value (suc d)) (v w : Value d) → IsQuotientAt k x v → IsQuotientAt k x w → v ≡ w
    unique x v w h i =
        h.value ∙ crossed (at h.upper) (at h.lower) (at i.upper) (at i.lower) h.defined i.defined
        (sym (at_mul h.upper i.lower)
        ∙ eval_cong (ValueR d) (poly_mul (ValueR d) h.upper i.lower) (poly_mul (ValueR d) i.upper h.lower) (whole_value d k) (whole_value d k)
        (same_over_value d h.upper h.lower i.upper i.lower (apart h.lower h.defined) (apart i.lower i.defined) (sym h.quotient ∙ i.quotient)) refl
        ∙ at_mul i.upper h.lower)
        ∙ sym i.value

    pub plus : (x y : Value (suc d)) (v w : Value d) → IsQuotientAt k x v → IsQuotientAt k y w → IsQuotientAt k (x +ᵛ y) (v +ᵛ w)
    plus x y v w h i = record {
      upper = zip_longest ◌+ᵛ◌ (poly_mul (ValueR d) h.upper i.lower) (poly_mul (ValueR d) i.upper h.lower);
      lower = poly_mul (ValueR d) h.lower i.lower;
      quotient = ap₂ ◌+ᵛ◌ h.quotient i.quotient ∙ sym (over_value-add d h.upper h.lower i.upper i.lower (apart h.lower h.defined) (apart i.lower i.defined));
      defined = λ z. both_ne (at h.lower) (at i.lower) h.defined i.defined (sym (at_mul h.lower i.lower) ∙ z);
      value = ap₂ ◌+ᵛ◌ h.value i.value ∙ split_add (at h.upper) (at h.lower) (at i.upper) (at i.lower) h.defined i.defined
          ∙ ap₂ ◌/ᵛ◌ (sym (at_add (poly_mul (ValueR d) h.upper i.lower) (poly_mul (ValueR d) i.upper h.lower) ∙ ap₂ ◌+ᵛ◌ (at_mul h.upper i.lower) (at_mul i.upper h.lower))) (sym (at_mul h.lower i.lower));
    }

    pub times : (x y : Value (suc d)) (v w : Value d) → IsQuotientAt k x v → IsQuotientAt k y w → IsQuotientAt k (x *ᵛ y) (v *ᵛ w)
    times x y v w h i = record {
      upper = poly_mul (ValueR d) h.upper i.upper;
      lower = poly_mul (ValueR d) h.lower i.lower;
      quotient = ap₂ ◌*ᵛ◌ h.quotient i.quotient ∙ sym (over_value-mul d h.upper h.lower i.upper i.lower (apart h.lower h.defined) (apart i.lower i.defined));
      defined = λ z. both_ne (at h.lower) (at i.lower) h.defined i.defined (sym (at_mul h.lower i.lower) ∙ z);
      value = ap₂ ◌*ᵛ◌ h.value i.value ∙ split_mul (at h.upper) (at h.lower) (at i.upper) (at i.lower) h.defined i.defined
          ∙ ap₂ ◌/ᵛ◌ (sym (at_mul h.upper i.upper)) (sym (at_mul h.lower i.lower));
    }

    pub opposite : (x : Value (suc d)) (v : Value d) → IsQuotientAt k x v → IsQuotientAt k (neg_value x) (neg_value v)
    opposite x v h = record {
      upper = map neg_value h.upper;
      lower = h.lower;
      quotient = ap neg_value h.quotient ∙ sym (over_value-neg d h.upper h.lower (apart h.lower h.defined));
      defined = h.defined;
      value = ap neg_value h.value ∙ split_neg (at h.upper) (at h.lower) ∙ ap (λ v. v /ᵛ at h.lower) (sym (eval-neg (ValueR d) h.upper (whole_value d k)));
    }

    -- a polynomial, over 1
    at_one : at (one_value ∷ []) ≡ one_value
    at_one = ring (ValueR d) (whole_value d k ∷ []) (search reads depth 12) refl

    one_defined : ¬ (at (one_value ∷ []) ≡ zero_value)
    one_defined z = value_one_ne d (sym at_one ∙ z)

    over_one : (v : Value d) → v ≡ v /ᵛ one_value
    over_one v = value_quotient v one_value v (value_one_ne d) (ring (ValueR d) (v ∷ []) (search reads depth 12) refl)

    pub quotient-polynomial : (p : List (Value d)) → IsQuotientAt k (over_value p (one_value ∷ [])) (at p)
    quotient-polynomial p = record { upper = p; lower = one_value ∷ []; quotient = refl; defined = one_defined; value = over_one (at p) ∙ ap (λ w. at p /ᵛ w) (sym at_one) }

    pub quotient-constant : (c : Value d) → IsQuotientAt k (over_value (c ∷ []) (one_value ∷ [])) c
    quotient-constant c = subst (IsQuotientAt k (over_value (c ∷ []) (one_value ∷ []))) (ring (ValueR d) (c ∷ whole_value d k ∷ []) (search reads depth 12) refl) (quotient-polynomial (c ∷ []))

    nonzero-lower : (p : List (Value d)) (v : Value d) → ¬ (v ≡ zero_value) → (l : Value d) → v ≡ at p /ᵛ l → ¬ (at p ≡ zero_value)
    nonzero-lower p v h l e z = h (e ∙ ap (λ w. w /ᵛ l) z ∙ ring (ValueR d) (inv_value l ∷ []) (search reads depth 12) refl)

    pub quotient-over : (x y : Value (suc d)) (v w : Value d) → IsQuotientAt k x v → IsQuotientAt k y w → ¬ (w ≡ zero_value) → IsQuotientAt k (x /ᵛ y) (v /ᵛ w)
    quotient-over x y v w h i n =
        let u : ¬ (at i.upper ≡ zero_value) = nonzero-lower i.upper w n (at i.lower) i.value in
        record {
          upper = poly_mul (ValueR d) h.upper i.lower;
          lower = poly_mul (ValueR d) h.lower i.upper;
          quotient = ap₂ ◌/ᵛ◌ h.quotient i.quotient ∙ sym (over_value-div d h.upper h.lower i.upper i.lower (apart h.lower h.defined) (apart i.lower i.defined) (apart i.upper u));
          defined = λ z. both_ne (at h.lower) (at i.upper) h.defined u (sym (at_mul h.lower i.upper) ∙ z);
          value = ap₂ ◌/ᵛ◌ h.value i.value ∙ split_div (at h.upper) (at h.lower) (at i.upper) (at i.lower) h.defined i.defined u
              ∙ ap₂ ◌/ᵛ◌ (sym (at_mul h.upper i.lower)) (sym (at_mul h.lower i.upper));
        }

    pub zero_at : IsQuotientAt {d = d} k zero_value zero_value
    zero_at = record {
      upper = [];
      lower = one_value ∷ [];
      quotient = sym (over_value-zero d (one_value ∷ []) (apart (one_value ∷ []) one_defined));
      defined = one_defined;
      value = ring (ValueR d) (inv_value (at (one_value ∷ [])) ∷ []) (search reads depth 12) refl;
    }

    pub one_at : IsQuotientAt {d = d} k one_value one_value
    one_at = subst (λ (x : Value (suc d)). IsQuotientAt k x one_value) (over_value-self d (one_value ∷ []) (apart (one_value ∷ []) one_defined)) (quotient-constant one_value)

abbrev pub quotients : (d : ℕ) (k : ℤ) → Evaluation (ValueR (suc d)) d
quotients d k = record {
  Has = IsQuotientAt k;
  same = λ x y v e h. subst (λ (z : Value (suc d)). IsQuotientAt k z v) e h;
  unique = unique k;
  zero_has = zero_at k;
  one_has = one_at k;
  add_has = plus k;
  neg_has = opposite k;
  mul_has = times k;
}
