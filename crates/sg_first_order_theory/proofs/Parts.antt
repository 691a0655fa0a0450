-- Values as quotients of polynomials, and at k + 1.
--   upper x, lower x       lists of coefficients with x = upper / lower, the lower one not 0: the parts in lowest terms, the lower one monic
--   up d p                 the polynomial p at k + 1
--   shift_over             the shift of a quotient of polynomials: both at k + 1
--   shift_polynomial_value of a polynomial
use Rattle.std.proofs.Common.{◌≡◌, ℕ, suc, sym, ◌∙◌, ap, List, [], ◌∷◌, pos}
use mathlib.Core.Path.{fun_ext}
use mathlib.Core.List.{is_set}
use mathlib.Core.Quot.{mk, sound, ind, lift, Quot-set}
use Rattle.sg_algebra.specs.Ring.{Ring, Domain, Hom}
use Rattle.sg_algebra.proofs.Field.{domain}
use Rattle.sg_algebra.proofs.PolynomialRing.{PolyR}
use Rattle.sg_algebra.proofs.Degree.{PolyD, poly_one_ne}
use Rattle.sg_algebra.proofs.Ring.{nat, O_add}
use Rattle.sg_algebra.proofs.Shift.{moved, movedH, moved_cong, moved-back}
use Rattle.sg_algebra.proofs.Strip.{strip, strip-at, strip_same}
use Rattle.sg_algebra.proofs.Quotient.{Quotient}
use Rattle.sg_algebra.proofs.MonicLowest.{monic_lowest, monic_lowest_same}
use Rattle.sg_algebra.proofs.PolynomialLowest.{monic_ne}
use Rattle.sg_algebra.proofs.Ratio.{ratio, ratio-is}
use Rattle.sg_algebra.proofs.Level.{Level, K, level_path, level_set}
use Rattle.sg_algebra.proofs.Value.{Value, over_value, raws, one_value, neg_value}
use Rattle.sg_algebra.proofs.ValueField.{ValueR, ValueD}
use Rattle.sg_algebra.proofs.OverValue.{wraps, raws-wraps, raws_same, over_value_cong}
use Rattle.sg_algebra.proofs.Rational.{whole_value}
use Rattle.sg_algebra.proofs.Embedding.{polynomial_value}
use Rattle.sg_algebra.proofs.ShiftValue.{shift_value, shift_value-over, moved_ne}

module _ (d : ℕ) where
  abbrev D : Domain
  D = PolyD (domain (Level d))

  abbrev S : Ring
  S = (Level d).R

  open PolyR S use {◌≈◌ as ◌≃◌, ◌⊠◌ as ◌·◌}

  lists : IsSet (List (K d))
  lists = is_set (level_set d)

  abbrev upper_in : Quotient D → List (K d)
  upper_in x = strip S (Level d).is_zero (monic_lowest (Level d) x).p

  abbrev lower_in : Quotient D → List (K d)
  lower_in x = strip S (Level d).is_zero (monic_lowest (Level d) x).q

  pub upper_raw : K (suc d) → List (K d)
  upper_raw = lift lists upper_in (λ x y e. strip_same S (Level d).is_zero (level_path d) (monic_lowest (Level d) x).p (monic_lowest (Level d) y).p
      ((monic_lowest_same (Level d) x y (monic_lowest (Level d) x) (monic_lowest (Level d) y) e).0.image.at))

  pub lower_raw : K (suc d) → List (K d)
  lower_raw = lift lists lower_in (λ x y e. strip_same S (Level d).is_zero (level_path d) (monic_lowest (Level d) x).q (monic_lowest (Level d) y).q
      ((monic_lowest_same (Level d) x y (monic_lowest (Level d) x) (monic_lowest (Level d) y) e).1.image.at))

  upper_is : (x : Quotient D) → upper_raw (mk x) ≃ (monic_lowest (Level d) x).p
  unfolding upper_raw
  upper_is x = record { image = record { at = strip-at S (Level d).is_zero (monic_lowest (Level d) x).p } }

  lower_is : (x : Quotient D) → lower_raw (mk x) ≃ (monic_lowest (Level d) x).q
  unfolding lower_raw
  lower_is x = record { image = record { at = strip-at S (Level d).is_zero (monic_lowest (Level d) x).q } }

  lower_some : (x : Quotient D) → ¬ (lower_raw (mk x) ≃ [])
  lower_some x z = monic_ne (domain (Level d)) (monic_lowest (Level d) x).n (monic_lowest (Level d) x).q (monic_lowest (Level d) x).monic ((PolyR S).trans ((PolyR S).symm (lower_is x)) z)

  not_prop : {X : Type 0} → IsProp (¬ X)
  not_prop a b = fun_ext (λ x. absurd (a x))

  lower_raw_some : (r : K (suc d)) → ¬ (lower_raw r ≃ [])
  lower_raw_some = ind (λ r. not_prop) lower_some

  raw_parts : (r : K (suc d)) → ratio D (upper_raw r) (lower_raw r) ≡ r
  raw_parts = ind (λ r. Quot-set (ratio D (upper_raw r) (lower_raw r)) r)
      (λ x. ratio-is D (upper_raw (mk x)) (lower_raw (mk x)) (lower_some x) ∙ sound (record {
        cross = (PolyR S).trans ((PolyR S).mul_cong {u = x.den} {v = x.den} (upper_is x) (PolyR S).rfl)
            ((PolyR S).trans ((PolyR S).symm (monic_lowest (Level d) x).cross) ((PolyR S).mul_cong {x = x.num} {y = x.num} (PolyR S).rfl ((PolyR S).symm (lower_is x))));
      }))

module _ {d : ℕ} where
  unfoldable pub upper : Value (suc d) → List (Value d)
  upper x = wraps (upper_raw d x.raw)

  unfoldable pub lower : Value (suc d) → List (Value d)
  lower x = wraps (lower_raw d x.raw)

  pub parts_are : (x : Value (suc d)) → over_value (upper x) (lower x) ≡ x
  unfolding over_value upper lower
  parts_are x = ap (λ r. record { raw = r }) (rw (raws-wraps d (upper_raw d x.raw), raws-wraps d (lower_raw d x.raw)) (raw_parts d x.raw))

  pub lower_ne : (x : Value (suc d)) → ¬ ((PolyR (ValueR d)).◌≈◌ (lower x) [])
  unfolding lower raws
  lower_ne x z = lower_raw_some d x.raw (rw (raws-wraps d (lower_raw d x.raw)) at (raws_same d (wraps (lower_raw d x.raw)) [] z))

-- ---- At k + 1

module _ (d : ℕ) where
  open PolyR (ValueR d) use {◌≈◌ as ◌≋◌, ◌⊞◌ as ◌⊕◌, ◌⊠◌ as ◌⊗◌, trans, symm}

  abbrev up : List (Value d) → List (Value d)
  up p = moved (ValueR d) (whole_value d (pos 1)) p

  abbrev upH : Hom (PolyR (ValueR d)) (PolyR (ValueR d))
  upH = movedH (ValueR d) (whole_value d (pos 1))

  pub up_ne : (q : List (Value d)) → ¬ (q ≋ []) → ¬ (up q ≋ [])
  up_ne q h z = h (trans (symm (moved-back (ValueR d) (nat (ValueR d) 1) q)) ((movedH (ValueR d) (neg_value (nat (ValueR d) 1))).on_cong (up q) [] z))

module _ (d : ℕ) where
  open PolyR (ValueR d) use {◌≈◌ as ◌≋◌}

  one_is : one_value ≡ whole_value d (pos 1)
  one_is = sym (O_add (ValueR d))

  step : (p : List (Value d)) → moved (ValueR d) one_value p ≋ up d p
  step p = moved_cong (ValueR d) one_value (whole_value d (pos 1)) p p one_is (PolyR (ValueR d)).rfl

  pub shift_over : (p q : List (Value d)) → ¬ (q ≋ []) → shift_value d (over_value p q) ≡ over_value (up d p) (up d q)
  shift_over p q h = shift_value-over d p q h ∙ over_value_cong d (moved (ValueR d) one_value p) (moved (ValueR d) one_value q) (up d p) (up d q) (moved_ne (ValueR d) q h) (step p) (step q)

  pub shift_polynomial_value : (p : List (Value d)) → shift_value d (polynomial_value d p) ≡ polynomial_value d (up d p)
  shift_polynomial_value p = shift_over p (one_value ∷ []) (poly_one_ne (ValueD d)) ∙ over_value_cong d (up d p) (up d (one_value ∷ [])) (up d p) (one_value ∷ []) (up_ne d (one_value ∷ []) (poly_one_ne (ValueD d))) (PolyR (ValueR d)).rfl (upH d).on-one
