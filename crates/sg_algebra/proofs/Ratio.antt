-- Quotients of elements of a domain, as classes of its fractions: a field with ≡.
--   RatioF P           the field of classes of fractions over the domain P
--   ratio P p q        the class of p/q, and zero where q is zero
--   ratio-is           it is the class of the fraction
--   ratio-add, ratio-sub, ratio-mul, ratio-neg, ratio-div    sum, difference, product, negative, quotient by one that isn't zero
--   ratio_same, same_ratio    equal exactly where the cross products are
--   ratio_inv-O        the inverse of zero is zero
--   ratio-O, ratio-self, O_ratio    0/q is zero, q/q is one, and p/q is zero only where p is
use Rattle.std.proofs.Common.{◌≡◌, refl, sym, ◌∙◌, ap, [], ◌∷◌}
use mathlib.Core.Quot.{mk, sound}
use Rattle.sg_algebra.specs.Ring.{Domain, Field}
use Rattle.sg_algebra.proofs.Solver.{ring, by, reads}
use Rattle.sg_algebra.proofs.Field.{product_ne, quotient_is}
use Rattle.sg_algebra.proofs.Quotient.{QuotientF, flip_O}
use Rattle.sg_algebra.proofs.Classes.{ClassF, exact_field}

module _ (P : Domain) where
  open P use {R}
  open R use {A, ◌≈◌, ◌⊞◌, ◌⊠◌, ⊟, O, I, rfl, symm, trans, mul_cong, mul_comm}

  abbrev pub RatioF : Field
  RatioF = ClassF (QuotientF P)

  open RatioF use {R as S, inv}
  open S use {A as B, ◌⊞◌ as ◌+◌, ◌⊠◌ as ◌·◌, ⊟ as minus}

  unfoldable pub ratio_by : (p q : A) → Dec (q ≈ O) → B
  ratio_by p q (yes h) = S.O
  ratio_by p q (no h) = mk (record { num = p; den = q; den_ne = h })

  unfoldable pub ratio : A → A → B
  ratio p q = ratio_by p q (P.is_zero q)

  pub ratio-is : (p q : A) (h : ¬ (q ≈ O)) → ratio p q ≡ mk (record { num = p; den = q; den_ne = h })
  unfolding ratio ratio_by
  ratio-is p q h = go (P.is_zero q)
    where
      go : (e : Dec (q ≈ O)) → ratio_by p q e ≡ mk (record { num = p; den = q; den_ne = h })
      go (yes z) = absurd (h z)
      go (no j) = sound (record { cross = rfl })

  pub ratio_same : (p q r s : A) → ¬ (q ≈ O) → ¬ (s ≈ O) → p ⊠ s ≈ r ⊠ q → ratio p q ≡ ratio r s
  ratio_same p q r s h j e = rw (ratio-is p q h, ratio-is r s j) (sound (record { cross = e }))

  pub same_ratio : (p q r s : A) → ¬ (q ≈ O) → ¬ (s ≈ O) → ratio p q ≡ ratio r s → p ⊠ s ≈ r ⊠ q
  same_ratio p q r s h j e =
      (exact_field (QuotientF P) (record { num = p; den = q; den_ne = h }) (record { num = r; den = s; den_ne = j }) (sym (ratio-is p q h) ∙ e ∙ ratio-is r s j)).cross

  pub ratio-add : (p q r s : A) → ¬ (q ≈ O) → ¬ (s ≈ O) → ratio (p ⊠ s ⊞ r ⊠ q) (q ⊠ s) ≡ ratio p q + ratio r s
  ratio-add p q r s h j = rw (ratio-is p q h, ratio-is r s j, ratio-is (p ⊠ s ⊞ r ⊠ q) (q ⊠ s) (product_ne P h j)) refl

  pub ratio-mul : (p q r s : A) → ¬ (q ≈ O) → ¬ (s ≈ O) → ratio (p ⊠ r) (q ⊠ s) ≡ ratio p q · ratio r s
  ratio-mul p q r s h j = rw (ratio-is p q h, ratio-is r s j, ratio-is (p ⊠ r) (q ⊠ s) (product_ne P h j)) refl

  pub ratio-neg : (p q : A) → ¬ (q ≈ O) → ratio (⊟ p) q ≡ minus (ratio p q)
  ratio-neg p q h = rw (ratio-is p q h, ratio-is (⊟ p) q h) refl

  pub ratio-sub : (p q r s : A) → ¬ (q ≈ O) → ¬ (s ≈ O) → ratio (p ⊠ s ⊞ ⊟ (r ⊠ q)) (q ⊠ s) ≡ ratio p q + minus (ratio r s)
  ratio-sub p q r s h j =
      ratio_same (p ⊠ s ⊞ ⊟ (r ⊠ q)) (q ⊠ s) (p ⊠ s ⊞ ⊟ r ⊠ q) (q ⊠ s) (product_ne P h j) (product_ne P h j) (ring R (p ∷ q ∷ r ∷ s ∷ []) (search reads depth 16) refl)
      ∙ ratio-add p q (⊟ r) s h j ∙ ap (λ z. ratio p q + z) (ratio-neg r s j)

  pub ratio-O : (q : A) → ¬ (q ≈ O) → ratio O q ≡ S.O
  ratio-O q h = ratio-is O q h ∙ sound (record { cross = ring R (q ∷ []) (search reads depth 12) refl })

  pub ratio-self : (q : A) → ¬ (q ≈ O) → ratio q q ≡ S.I
  ratio-self q h = ratio-is q q h ∙ sound (record { cross = ring R (q ∷ []) (search reads depth 12) refl })

  pub O_ratio : (p q : A) → ¬ (q ≈ O) → ratio p q ≡ S.O → p ≈ O
  O_ratio p q h e = by R (p ∷ q ∷ []) (exact_field (QuotientF P) (record { num = p; den = q; den_ne = h }) S'.O (sym (ratio-is p q h) ∙ e)).cross (search reads depth 12) refl
    where
      open QuotientF P use {R as S'}

  pub ratio-div : (p q r s : A) → ¬ (q ≈ O) → ¬ (s ≈ O) → ¬ (r ≈ O) → ratio (p ⊠ s) (q ⊠ r) ≡ ratio p q · inv (ratio r s)
  ratio-div p q r s h j k =
      quotient_is RatioF (ratio p q) (ratio r s) (ratio (p ⊠ s) (q ⊠ r)) (λ e. k (O_ratio r s j e))
      (sym (ratio-mul (p ⊠ s) (q ⊠ r) r s (product_ne P h k) j)
      ∙ ratio_same ((p ⊠ s) ⊠ r) ((q ⊠ r) ⊠ s) p q (product_ne P (product_ne P h k) j) h (ring R (p ∷ q ∷ r ∷ s ∷ []) (search reads depth 16) refl))

  pub ratio_inv-O : inv S.O ≡ S.O
  ratio_inv-O = sound (flip_O P (P.is_zero O))
