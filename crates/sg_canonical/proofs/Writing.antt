-- The value of what is written for a coefficient.
--   at k p, quotient_value k p q    the values at the whole number k of the polynomial with the coefficients p, the lowest first, and of the quotient of two
--   plane-eval         the value of a polynomial without the parameter
--   coprime-at         coprime polynomials aren't both 0 at a whole number
--   whole-writes       where the lower polynomial isn't 0, what is written below isn't, and the quotients are equal
use Rattle.std.proofs.Common.{◌≡◌, ℕ, zero, suc, ℤ, pos, ◌<ℤ◌, refl, sym, ap, ap₂, subst, ◌∙◌, List, [], ◌∷◌, ◌++◌, length, map, reverse, arith}
use Rattle.std.proofs.lemmas.Int.{ints}
use Rattle.std.proofs.lemmas.List.{length-reverse, length-map, reverse-reverse}
use Rattle.sg_algebra.specs.Coefficients.{eval}
use Rattle.sg_algebra.proofs.Coprime.{Coprime}
use Rattle.sg_algebra.proofs.Evaluation.{eval-add, eval-mul, eval_cong}
use Rattle.sg_algebra.proofs.PolynomialRing.{PolyR}
use Rattle.sg_algebra.proofs.Ring.{pow}
use Rattle.sg_algebra.proofs.Rational.{whole_value}
use Rattle.sg_algebra.proofs.Solver.{ring, by, scale, reads}
use Rattle.sg_algebra.proofs.Value.{Value, ◌+ᵛ◌, ◌*ᵛ◌, ◌/ᵛ◌, inv_value, zero_value, one_value}
use Rattle.sg_algebra.proofs.ValueField.{ValueR, ValueD, value_mul-inv, value_one_ne}
use Rattle.sg_spec.specs.Canonical.{leading, plane_of}
use Rattle.sg_algebra.proofs.Field.{product_ne}
use Rattle.sg_worth_theory.proofs.WrittenElements.{row_value, plane_value}
use Rattle.sg_canonical.specs.Whole.{IsPrimitiveQuotient, wholes, multiplied}
use Rattle.sg_canonical.proofs.CommonDenominator.{reverse-cons}
use Rattle.sg_canonical.proofs.WholeQuotients.{whole-same}

abbrev pub at : ℤ → List (Value 0) → Value 0
at k p = eval (ValueR 0) p (whole_value 0 k)

abbrev pub quotient_value : ℤ → List (Value 0) → List (Value 0) → Value 0
quotient_value k p q = at k p /ᵛ at k q

pub both_ne : (b e : Value 0) → ¬ (b ≡ zero_value) → ¬ (e ≡ zero_value) → ¬ (b *ᵛ e ≡ zero_value)
both_ne b e h k = product_ne (ValueD 0) h k

module _ (letter : Value 0) (k : ℤ) where
  abbrev K : Value 0
  K = whole_value 0 k

  eval-push : (l : List (Value 0)) (x : Value 0) → eval (ValueR 0) (l ++ (x ∷ [])) K ≡ eval (ValueR 0) l K +ᵛ x *ᵛ pow (ValueR 0) K (length l)
  eval-push [] x = ring (ValueR 0) (x ∷ K ∷ []) (search reads depth 16) refl
  eval-push (a ∷ l) x = ap (λ v. a +ᵛ K *ᵛ v) (eval-push l x) ∙ moved a K (eval (ValueR 0) l K) x (pow (ValueR 0) K (length l))
    where
      moved : (a y e x p : Value 0) → a +ᵛ y *ᵛ (e +ᵛ x *ᵛ p) ≡ (a +ᵛ y *ᵛ e) +ᵛ x *ᵛ (p *ᵛ y)
      moved a y e x p = ring (ValueR 0) (a ∷ y ∷ e ∷ x ∷ p ∷ []) (search reads depth 16) refl

  row-is : (c p : Value 0) → (c *ᵛ one_value +ᵛ zero_value) *ᵛ p ≡ c *ᵛ p
  row-is c p = ring (ValueR 0) (c ∷ p ∷ []) (search reads depth 16) refl

  swap : (a b : Value 0) → a +ᵛ b ≡ b +ᵛ a
  swap a b = ring (ValueR 0) (a ∷ b ∷ []) (search reads depth 16) refl

  pub plane-eval : (cs : List ℤ) → plane_value letter k (plane_of cs) ≡ eval (ValueR 0) (reverse (wholes cs)) K
  plane-eval [] = refl
  plane-eval (c ∷ cs) =
      let size : length (plane_of cs) ≡ length (reverse (wholes cs)) = length-map cs (λ a. a ∷ []) ∙ sym (length-reverse (wholes cs) ∙ length-map cs (whole_value 0)) in
      ap₂ ◌+ᵛ◌ (row-is (whole_value 0 c) (pow (ValueR 0) K (length (plane_of cs))) ∙ ap (λ (n : ℕ). whole_value 0 c *ᵛ pow (ValueR 0) K n) size) (plane-eval cs)
      ∙ swap (whole_value 0 c *ᵛ pow (ValueR 0) K (length (reverse (wholes cs)))) (eval (ValueR 0) (reverse (wholes cs)) K)
      ∙ sym (eval-push (reverse (wholes cs)) (whole_value 0 c)) ∙ ap (λ (l : List (Value 0)). eval (ValueR 0) l K) (sym (reverse-cons (whole_value 0 c) (wholes cs)))

  eval-multiplied : (d : ℤ) (p : List (Value 0)) → eval (ValueR 0) (multiplied d p) K ≡ whole_value 0 d *ᵛ eval (ValueR 0) p K
  eval-multiplied d [] = ring (ValueR 0) (whole_value 0 d ∷ []) (search reads depth 16) refl
  eval-multiplied d (a ∷ p) = ap (λ v. whole_value 0 d *ᵛ a +ᵛ K *ᵛ v) (eval-multiplied d p) ∙ taken (whole_value 0 d) a K (eval (ValueR 0) p K)
    where
      taken : (d a y e : Value 0) → d *ᵛ a +ᵛ y *ᵛ (d *ᵛ e) ≡ d *ᵛ (a +ᵛ y *ᵛ e)
      taken d a y e = ring (ValueR 0) (d ∷ a ∷ y ∷ e ∷ []) (search reads depth 16) refl

  plane-is : (d : ℤ) (p : List (Value 0)) (us : List ℤ) → wholes us ≡ reverse (multiplied d p) → plane_value letter k (plane_of us) ≡ whole_value 0 d *ᵛ eval (ValueR 0) p K
  plane-is d p us h =
      plane-eval us ∙ ap (λ (l : List (Value 0)). eval (ValueR 0) (reverse l) K) h ∙ ap (λ (l : List (Value 0)). eval (ValueR 0) l K) (reverse-reverse (multiplied d p)) ∙ eval-multiplied d p

  -- not both are 0
  pub coprime-at : (p q : List (Value 0)) → Coprime (PolyR (ValueR 0)) p q → at k p ≡ zero_value → ¬ (at k q ≡ zero_value)
  coprime-at p q c hp hq =
      value_one_ne 0
      (sym (eval_cong (ValueR 0) ((PolyR (ValueR 0)).◌⊞◌ ((PolyR (ValueR 0)).◌⊠◌ c.u p) ((PolyR (ValueR 0)).◌⊠◌ c.w q)) (one_value ∷ []) K K c.comb refl ∙ one-at)
      ∙ eval-add (ValueR 0) ((PolyR (ValueR 0)).◌⊠◌ c.u p) ((PolyR (ValueR 0)).◌⊠◌ c.w q) K
      ∙ ap₂ ◌+ᵛ◌ (eval-mul (ValueR 0) c.u p K ∙ ap (λ v. at k c.u *ᵛ v) hp) (eval-mul (ValueR 0) c.w q K ∙ ap (λ v. at k c.w *ᵛ v) hq)
      ∙ none (at k c.u) (at k c.w))
    where
      one-at : eval (ValueR 0) (one_value ∷ []) K ≡ one_value
      one-at = ring (ValueR 0) (K ∷ []) (search reads depth 16) refl

      none : (a b : Value 0) → a *ᵛ zero_value +ᵛ b *ᵛ zero_value ≡ zero_value
      none a b = ring (ValueR 0) (a ∷ b ∷ []) (search reads depth 16) refl

  same-quotient : (l p q : Value 0) → ¬ (l ≡ zero_value) → ¬ (q ≡ zero_value) → p *ᵛ inv_value q ≡ (l *ᵛ p) *ᵛ inv_value (l *ᵛ q)
  same-quotient l p q hl hq =
      by (ValueR 0) (l ∷ p ∷ q ∷ inv_value q ∷ inv_value (l *ᵛ q) ∷ [])
      ((ValueR 0).add_cong (scale (ValueR 0) (p *ᵛ inv_value q) (sym (value_mul-inv 0 (l *ᵛ q) (both_ne l q hl hq)))) (scale (ValueR 0) ((l *ᵛ p) *ᵛ inv_value (l *ᵛ q)) (value_mul-inv 0 q hq)))
      (search reads depth 20 fits 8000) refl

  pub whole-writes : (p q : List (Value 0)) (us ls : List ℤ) → IsPrimitiveQuotient p q us ls → ¬ (at k q ≡ zero_value)
      → ¬ (plane_value letter k (plane_of ls) ≡ zero_value) × (quotient_value k p q ≡ plane_value letter k (plane_of us) *ᵛ inv_value (plane_value letter k (plane_of ls)))
  whole-writes p q us ls h n =
      let upper : plane_value letter k (plane_of us) ≡ whole_value 0 (leading (plane_of ls)) *ᵛ at k p = plane-is (leading (plane_of ls)) p us h.upper in
      let lower : plane_value letter k (plane_of ls) ≡ whole_value 0 (leading (plane_of ls)) *ᵛ at k q = plane-is (leading (plane_of ls)) q ls h.lower in (
        λ z. both_ne (whole_value 0 (leading (plane_of ls))) (at k q) some n (sym lower ∙ z),
        same-quotient (whole_value 0 (leading (plane_of ls))) (at k p) (at k q) some n ∙ ap₂ (λ a b. a *ᵛ inv_value b) (sym upper) (sym lower),
      )
    where
      some : ¬ (whole_value 0 (leading (plane_of ls)) ≡ zero_value)
      some z = let e : leading (plane_of ls) ≡ pos 0 = whole-same (leading (plane_of ls)) (pos 0) z in absurd (omega (arith, ints, e, h.positive))
