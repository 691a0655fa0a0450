-- Quotients of polynomials over values, as values of the next depth. Polynomials are equal here where their coefficients are.
--   raws, wraps                       lists of values without and with their records: `raws-wraps`, `raws-add`, `raws-mul`, `raws-neg`, `raws-coef`
--   raws_same, same_raws, ne_raws     polynomials of values are equal, and zero, exactly where those without records are
--   over_value-add, -sub, -mul, -neg, -div    sum, difference, product, negative, quotient by one that isn't zero
--   over_value_same, same_over_value  equal exactly where the cross products are
--   over_value-zero, -self, zero_over_value    0/q is zero, q/q is one, p/q is zero only where p is
--   over_value_cong                   equal polynomials give equal values
use Rattle.std.proofs.Common.{◌≡◌, ℕ, zero, suc, refl, ap, List, [], ◌∷◌, map}
use Rattle.sg_algebra.specs.Ring.{Domain}
use Rattle.sg_algebra.specs.Coefficients.{zip_longest, coef, poly_mul, Each}
use Rattle.sg_algebra.proofs.Field.{domain}
use Rattle.sg_algebra.proofs.PolynomialRing.{PolyR}
use Rattle.sg_algebra.proofs.Degree.{PolyD}
use Rattle.sg_algebra.proofs.Ratio.{ratio-add, ratio-sub, ratio-mul, ratio-neg, ratio-div, ratio_same, same_ratio, ratio-O, ratio-self, O_ratio}
use Rattle.sg_algebra.proofs.Lists.{each_all, map-zip_longest, map-map, map-conv}
use Rattle.sg_algebra.proofs.Level.{Level, K}
use Rattle.sg_algebra.proofs.Value.{Value, ◌+ᵛ◌, ◌-ᵛ◌, ◌*ᵛ◌, ◌/ᵛ◌, neg_value, inv_value, zero_value, one_value, raws, over_value}
use Rattle.sg_algebra.proofs.ValueField.{ValueR, same_raw, raw_same}

abbrev pub wraps : {d : ℕ} → List (K d) → List (Value d)
wraps p = map (λ x. record { raw = x }) p

abbrev Always : {B : Type 0} → B → Type 0
Always x = Unit {0}

always : {B : Type 0} (p : List B) → Each Always p
always p = each_all Always p (λ x. tt)

module _ (d : ℕ) where
  open Level d use {R as S}
  open PolyR S use {◌≈◌ as ◌≃◌}
  open PolyR (ValueR d) use {◌≈◌ as ◌≋◌, ◌⊞◌ as ◌⊕◌, ◌⊠◌ as ◌⊗◌, ⊟ as ⊖}

  pub raws-wraps : (p : List (K d)) → raws (wraps p) ≡ p
  unfolding raws
  raws-wraps [] = refl
  raws-wraps (x ∷ p) = ap (◌∷◌ x) (raws-wraps p)

  pub raws-add : (p q : List (Value d)) → raws (p ⊕ q) ≡ zip_longest S.◌⊞◌ (raws p) (raws q)
  unfolding raws ◌+ᵛ◌ ◌*ᵛ◌
  raws-add p q = map-zip_longest (λ x. x.raw) Always ◌+ᵛ◌ ◌*ᵛ◌ S.◌⊞◌ S.◌⊠◌ (λ x y g h. tt) (λ x y g h. tt) (λ x y g h. refl) (λ x y g h. refl) p q (always p) (always q)

  pub raws-mul : (p q : List (Value d)) → raws (p ⊗ q) ≡ poly_mul S (raws p) (raws q)
  unfolding raws ◌+ᵛ◌ ◌*ᵛ◌ zero_value
  raws-mul p q = map-conv (λ x. x.raw) Always ◌+ᵛ◌ ◌*ᵛ◌ S.◌⊞◌ S.◌⊠◌ (λ x y g h. tt) (λ x y g h. tt) (λ x y g h. refl) (λ x y g h. refl) zero_value tt p q (always p) (always q)

  pub raws-neg : (p : List (Value d)) → raws (⊖ p) ≡ map S.⊟ (raws p)
  unfolding raws neg_value
  raws-neg p = map-map (λ x. x.raw) Always neg_value S.⊟ (λ x v. refl) p (always p)

  pub raws-coef : (p : List (Value d)) (n : ℕ) → coef S (raws p) n ≡ (coef (ValueR d) p n).raw
  unfolding raws zero_value
  raws-coef [] n = refl
  raws-coef (x ∷ p) zero = refl
  raws-coef (x ∷ p) (suc n) = raws-coef p n

  pub raws_same : (p q : List (Value d)) → p ≋ q → raws p ≃ raws q
  raws_same p q e = record { image = record { at = λ n. rw (raws-coef p n, raws-coef q n) (raw_same d (coef (ValueR d) p n) (coef (ValueR d) q n) (e.image.at n)) } }

  pub same_raws : (p q : List (Value d)) → raws p ≃ raws q → p ≋ q
  same_raws p q e = record { image = record { at = λ n. same_raw d (coef (ValueR d) p n) (coef (ValueR d) q n) (rw (raws-coef p n, raws-coef q n) at (e.image.at n)) } }

  pub ne_raws : (q : List (Value d)) → ¬ (q ≋ []) → ¬ (raws q ≃ [])
  unfolding raws
  ne_raws q h e = h (same_raws q [] e)

  abbrev P : Domain
  P = PolyD (domain (Level d))

  wrap : {x y : K (suc d)} → x ≡ y → ◌≡◌ {A = Value (suc d)} (record { raw = x }) (record { raw = y })
  wrap e = ap (λ r. record { raw = r }) e

  pub over_value-add : (p q r s : List (Value d)) → ¬ (q ≋ []) → ¬ (s ≋ []) → over_value (p ⊗ s ⊕ r ⊗ q) (q ⊗ s) ≡ over_value p q +ᵛ over_value r s
  unfolding over_value ◌+ᵛ◌
  over_value-add p q r s h j = rw (raws-add (p ⊗ s) (r ⊗ q), raws-mul p s, raws-mul r q, raws-mul q s) (wrap (ratio-add P (raws p) (raws q) (raws r) (raws s) (ne_raws q h) (ne_raws s j)))

  pub over_value-sub : (p q r s : List (Value d)) → ¬ (q ≋ []) → ¬ (s ≋ []) → over_value (p ⊗ s ⊕ ⊖ (r ⊗ q)) (q ⊗ s) ≡ over_value p q -ᵛ over_value r s
  unfolding over_value ◌+ᵛ◌ neg_value
  over_value-sub p q r s h j =
      rw (raws-add (p ⊗ s) (⊖ (r ⊗ q)), raws-neg (r ⊗ q), raws-mul p s, raws-mul r q, raws-mul q s)
      (wrap (ratio-sub P (raws p) (raws q) (raws r) (raws s) (ne_raws q h) (ne_raws s j)))

  pub over_value-mul : (p q r s : List (Value d)) → ¬ (q ≋ []) → ¬ (s ≋ []) → over_value (p ⊗ r) (q ⊗ s) ≡ over_value p q *ᵛ over_value r s
  unfolding over_value ◌*ᵛ◌
  over_value-mul p q r s h j = rw (raws-mul p r, raws-mul q s) (wrap (ratio-mul P (raws p) (raws q) (raws r) (raws s) (ne_raws q h) (ne_raws s j)))

  pub over_value-neg : (p q : List (Value d)) → ¬ (q ≋ []) → over_value (⊖ p) q ≡ neg_value (over_value p q)
  unfolding over_value neg_value
  over_value-neg p q h = rw (raws-neg p) (wrap (ratio-neg P (raws p) (raws q) (ne_raws q h)))

  pub over_value-div : (p q r s : List (Value d)) → ¬ (q ≋ []) → ¬ (s ≋ []) → ¬ (r ≋ []) → over_value (p ⊗ s) (q ⊗ r) ≡ over_value p q /ᵛ over_value r s
  unfolding over_value ◌*ᵛ◌ inv_value
  over_value-div p q r s h j k = rw (raws-mul p s, raws-mul q r) (wrap (ratio-div P (raws p) (raws q) (raws r) (raws s) (ne_raws q h) (ne_raws s j) (ne_raws r k)))

  pub over_value_same : (p q r s : List (Value d)) → ¬ (q ≋ []) → ¬ (s ≋ []) → p ⊗ s ≋ r ⊗ q → over_value p q ≡ over_value r s
  unfolding over_value
  over_value_same p q r s h j e = wrap (ratio_same P (raws p) (raws q) (raws r) (raws s) (ne_raws q h) (ne_raws s j) (rw (raws-mul p s, raws-mul r q) at (raws_same (p ⊗ s) (r ⊗ q) e)))

  pub same_over_value : (p q r s : List (Value d)) → ¬ (q ≋ []) → ¬ (s ≋ []) → over_value p q ≡ over_value r s → p ⊗ s ≋ r ⊗ q
  unfolding over_value
  same_over_value p q r s h j e =
      same_raws (p ⊗ s) (r ⊗ q) (rw (raws-mul p s, raws-mul r q) (same_ratio P (raws p) (raws q) (raws r) (raws s) (ne_raws q h) (ne_raws s j) (ap (λ x. x.raw) e)))

  pub over_value_cong : (p q p' q' : List (Value d)) → ¬ (q ≋ []) → p ≋ p' → q ≋ q' → over_value p q ≡ over_value p' q'
  over_value_cong p q p' q' h e k = over_value_same p q p' q' h (λ z. h ((PolyR (ValueR d)).trans k z)) ((PolyR (ValueR d)).mul_cong e ((PolyR (ValueR d)).symm k))

  pub over_value-zero : (q : List (Value d)) → ¬ (q ≋ []) → over_value [] q ≡ zero_value
  unfolding over_value zero_value raws
  over_value-zero q h = wrap (ratio-O P (raws q) (ne_raws q h))

  pub over_value-self : (q : List (Value d)) → ¬ (q ≋ []) → over_value q q ≡ one_value
  unfolding over_value one_value
  over_value-self q h = wrap (ratio-self P (raws q) (ne_raws q h))

  pub zero_over_value : (p q : List (Value d)) → ¬ (q ≋ []) → over_value p q ≡ zero_value → p ≋ []
  unfolding over_value zero_value raws
  zero_over_value p q h e = same_raws p [] (O_ratio P (raws p) (raws q) (ne_raws q h) (ap (λ x. x.raw) e))
