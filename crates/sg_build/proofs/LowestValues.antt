-- Values of quotients of polynomials in lowest terms.
--   no-value      where the lower polynomial is 0 the quotient has no value
use Rattle.std.proofs.Common.{◌≡◌, ℕ, ℤ, refl, sym, ap, ap₂, ◌∙◌, List, [], ◌∷◌}
use Rattle.std.proofs.Math.Path.{fun_ext}
use Rattle.sg_algebra.specs.Ring.{Ring}
use Rattle.sg_algebra.specs.Coefficients.{eval}
use Rattle.sg_algebra.proofs.Coprime.{Coprime}
use Rattle.sg_algebra.proofs.Evaluation.{eval_cong, eval-add, eval-mul, eval-zero}
use Rattle.sg_algebra.proofs.OverValue.{same_over_value}
use Rattle.sg_algebra.proofs.Polynomial.{PolynomialR, poly, ◌+ᵖ◌, ◌*ᵖ◌, one_polynomial, listed, same_list, poly-mul, poly-add}
use Rattle.sg_algebra.proofs.PolynomialRing.{PolyR}
use Rattle.sg_algebra.proofs.Rational.{whole_value}
use Rattle.sg_algebra.proofs.Solver.{ring, by, scale, reads}
use Rattle.sg_algebra.proofs.Value.{Value, ◌+ᵛ◌, ◌*ᵛ◌, neg_value, inv_value, zero_value, one_value, over_value}
use Rattle.sg_algebra.proofs.ValueField.{ValueR, value_one_ne, value_mul-inv}
use Rattle.sg_value_theory.proofs.Elements.{IsQuotientAt}

module _ (d : ℕ) where
  abbrev P : Ring
  P = PolyR (ValueR d)

  nothing : (a : Value d) → a *ᵛ zero_value ≡ zero_value
  nothing a = ring (ValueR d) (a ∷ []) (search reads depth 16) refl

  module _ (p q : List (Value d)) (x : Value d) (upper : eval (ValueR d) p x ≡ zero_value) (lower : eval (ValueR d) q x ≡ zero_value) where
    by-lists : (u w : List (Value d)) → poly u *ᵖ poly p +ᵖ poly w *ᵖ poly q ≡ one_polynomial → ⊥
    by-lists u w h =
        value_one_ne d
        (one
        ∙ sym (eval_cong (ValueR d) (P.◌⊞◌ (P.◌⊠◌ u p) (P.◌⊠◌ w q)) (one_value ∷ []) x x (same_list (P.◌⊞◌ (P.◌⊠◌ u p) (P.◌⊠◌ w q)) (one_value ∷ []) (poly-add (P.◌⊠◌ u p) (P.◌⊠◌ w q) ∙ ap₂ ◌+ᵖ◌ (poly-mul u p) (poly-mul w q) ∙ h)) refl)
        ∙ eval-add (ValueR d) (P.◌⊠◌ u p) (P.◌⊠◌ w q) x
        ∙ ap₂ ◌+ᵛ◌ (eval-mul (ValueR d) u p x ∙ ap (λ a. eval (ValueR d) u x *ᵛ a) upper ∙ nothing (eval (ValueR d) u x)) (eval-mul (ValueR d) w q x ∙ ap (λ a. eval (ValueR d) w x *ᵛ a) lower ∙ nothing (eval (ValueR d) w x))
        ∙ ring (ValueR d) [] (search reads depth 12) refl)
      where
        one : one_value ≡ eval (ValueR d) (one_value ∷ []) x
        one = ring (ValueR d) (x ∷ []) (search reads depth 16) refl

    not-coprime : Coprime (PolynomialR d) (poly p) (poly q) → ⊥
    not-coprime c =
        listed (λ u. u *ᵖ poly p +ᵖ c.w *ᵖ poly q ≡ one_polynomial → ⊥) (λ u a b. fun_ext (λ h. absurd (a h)))
        (λ u h. listed (λ w. poly u *ᵖ poly p +ᵖ w *ᵖ poly q ≡ one_polynomial → ⊥) (λ w a b. fun_ext (λ i. absurd (a i))) (λ w i. by-lists u w i) c.w h) c.u c.comb

  left-zero : (a b : Value d) → ¬ (b ≡ zero_value) → a *ᵛ b ≡ zero_value → a ≡ zero_value
  left-zero a b n h = whole a b (inv_value b) (value_mul-inv d b n) ∙ ap (λ e. e *ᵛ inv_value b) h ∙ ring (ValueR d) (inv_value b ∷ []) (search reads depth 12) refl
    where
      whole : (a b c : Value d) → b *ᵛ c ≡ one_value → a ≡ (a *ᵛ b) *ᵛ c
      whole a b c e = by (ValueR d) (a ∷ b ∷ c ∷ []) (scale (ValueR d) (neg_value a) e) (search reads depth 16) refl

  pub no-value : (k : ℤ) (p q : List (Value d)) → ¬ (P.◌≈◌ q []) → Coprime (PolynomialR d) (poly p) (poly q) → eval (ValueR d) q (whole_value d k) ≡ zero_value → (v : Value d) → ¬ IsQuotientAt k (over_value p q) v
  no-value k p q some coprime z v h = not-coprime p q x upper z coprime
    where
      x : Value d
      x = whole_value d k

      other : ¬ (P.◌≈◌ h.lower [])
      other e = h.defined (eval-zero (ValueR d) h.lower x e.image.at)

      cross : eval (ValueR d) p x *ᵛ eval (ValueR d) h.lower x ≡ eval (ValueR d) h.upper x *ᵛ eval (ValueR d) q x
      cross =
          sym (eval-mul (ValueR d) p h.lower x)
          ∙ eval_cong (ValueR d) (P.◌⊠◌ p h.lower) (P.◌⊠◌ h.upper q) x x (same_over_value d p q h.upper h.lower some other h.quotient) refl
          ∙ eval-mul (ValueR d) h.upper q x

      upper : eval (ValueR d) p x ≡ zero_value
      upper = left-zero (eval (ValueR d) p x) (eval (ValueR d) h.lower x) h.defined (cross ∙ ap (λ a. eval (ValueR d) h.upper x *ᵛ a) z ∙ nothing (eval (ValueR d) h.upper x))
