-- Each value has parts: numerator and denominator, computed from the value.
--   Parts x            a quotient of polynomials that is x
--   parts_of           a value of depth d + 1 as a quotient of polynomials
--   numer, denom       a value of depth 0 as a fraction: `value_is_fraction`
use Rattle.std.proofs.Common.{◌≡◌, ℕ, zero, suc, ◌<◌, refl, sym, ◌∙◌, ap, ap₂, List, [], ◌∷◌, ℤ, pos, negsuc, ◌*ℤ◌, ◌<ℤ◌, neg_ℤ, unsigned_abs, arith}
use Rattle.std.proofs.lemmas.Int.{ints}
use mathlib.Core.Quot.{mk, sound, ind, lift, Quot-set}
use mathlib.Core.Path.{fun_ext}
use mathlib.Core.List.{is_set}
use lib.IntN.{ℤ_set}
use Rattle.sg_algebra.specs.Ring.{Ring, Domain, Field}
use Rattle.sg_algebra.proofs.Solver.{by, scale, reads}
use Rattle.sg_algebra.proofs.Whole.{ℤR, readsℤ, ℤD}
use Rattle.sg_algebra.proofs.WholeDivisors.{ℤE, lowest_sameℤ}
use Rattle.sg_algebra.proofs.Field.{domain, product_ne}
use Rattle.sg_algebra.proofs.Coprime.{Coprime}
use Rattle.sg_algebra.proofs.PolynomialRing.{PolyR}
use Rattle.sg_algebra.proofs.PolynomialLowest.{monic_ne}
use Rattle.sg_algebra.proofs.Degree.{PolyD}
use Rattle.sg_algebra.proofs.Quotient.{Quotient, ◌≃◌, lowest}
use Rattle.sg_algebra.proofs.MonicLowest.{MonicLowest, monic_lowest, monic_lowest_same}
use Rattle.sg_algebra.proofs.Strip.{strip, strip-at, strip_same}
use Rattle.sg_algebra.proofs.Ratio.{ratio, ratio-is}
use Rattle.sg_algebra.proofs.Level.{Level, K, level_path, level_set}
use Rattle.sg_algebra.proofs.Value.{Value, raws, over_value, fraction_value}
use Rattle.sg_algebra.proofs.OverValue.{wraps, raws-wraps, raws_same}
use Rattle.sg_algebra.proofs.ValueField.{ValueR}

pub record Parts (d : ℕ) (x : Value (suc d)) : Type 0 where
  pub p : List (Value d)
  pub q : List (Value d)
  pub q_ne : ¬ ((PolyR (ValueR d)).◌≈◌ q [])
  pub is : x ≡ over_value p q

not_prop : {X : Type 0} → IsProp (¬ X)
not_prop a b = fun_ext (λ x. absurd (a x))

module _ (d : ℕ) where
  open Level d use {R, is_zero}
  open PolyR R use {◌≈◌ as ◌≋◌, ◌⊠◌ as ◌⊗◌, ⊟ as ⊖}

  abbrev L : Field
  L = Level d

  abbrev P : Domain
  P = PolyD (domain L)

  abbrev Q : Ring
  Q = PolyR R

  abbrev low : (y : Quotient P) → MonicLowest L y
  low y = monic_lowest L y

  upper : K (suc d) → List (K d)
  upper = lift (is_set (level_set d)) (λ y. strip R is_zero (low y).p) (λ x y e. strip_same R is_zero (level_path d) (low x).p (low y).p (monic_lowest_same L x y (low x) (low y) e).0.image.at)

  lower : K (suc d) → List (K d)
  lower = lift (is_set (level_set d)) (λ y. strip R is_zero (low y).q) (λ x y e. strip_same R is_zero (level_path d) (low x).q (low y).q (monic_lowest_same L x y (low x) (low y) e).1.image.at)

  upper-mk : (y : Quotient P) → upper (mk y) ≋ (low y).p
  unfolding upper
  upper-mk y = record { image = record { at = strip-at R is_zero (low y).p } }

  lower-mk : (y : Quotient P) → lower (mk y) ≋ (low y).q
  unfolding lower
  lower-mk y = record { image = record { at = strip-at R is_zero (low y).q } }

  lower_ne : (x : K (suc d)) → ¬ (lower x ≋ [])
  lower_ne = ind (λ x. not_prop) (λ y z. monic_ne (domain L) (low y).n (low y).q (low y).monic (Q.trans (Q.symm (lower-mk y)) z))

  ratio_parts : (x : K (suc d)) → x ≡ ratio P (upper x) (lower x)
  ratio_parts = ind (λ x. Quot-set x (ratio P (upper x) (lower x)))
      (λ y. sound (record { cross = at y.num y.den (low y).p (low y).q (upper (mk y)) (lower (mk y)) (low y).cross (upper-mk y) (lower-mk y) }) ∙ sym (ratio-is P (upper (mk y)) (lower (mk y)) (lower_ne (mk y))))
    where
      at : (n m p q u l : List (K d)) → n ⊗ q ≋ p ⊗ m → u ≋ p → l ≋ q → n ⊗ l ≋ u ⊗ m
      at n m p q u l h i j = by Q (n ∷ m ∷ p ∷ q ∷ u ∷ l ∷ []) (Q.add_cong h (Q.add_cong (scale Q (⊖ m) i) (scale Q n j))) (search reads depth 20 fits 4000) refl

  nothing : (q : List (Value d)) → (PolyR (ValueR d)).◌≈◌ q [] → raws q ≋ []
  unfolding raws
  nothing q z = raws_same d q [] z

  pub parts_of : (x : Value (suc d)) → Parts d x
  unfolding over_value
  parts_of x = record {
    p = wraps (upper x.raw);
    q = wraps (lower x.raw);
    q_ne = λ z. lower_ne x.raw (rw (raws-wraps d (lower x.raw)) at (nothing (wraps (lower x.raw)) z));
    is = ap (λ r. record { raw = r }) (ratio_parts x.raw ∙ ap₂ (ratio P) (sym (raws-wraps d (upper x.raw))) (sym (raws-wraps d (lower x.raw))));
  }

-- ---- Fractions of whole numbers

-- the sign goes to the numerator
abbrev signed_num : ℤ → ℤ → ℤ
signed_num n (pos d) = n
signed_num n (negsuc d) = neg_ℤ n

abbrev signed_den : ℤ → ℤ
signed_den (pos d) = pos d
signed_den (negsuc d) = pos (suc d)

signed_positive : (d : ℤ) → ¬ (d ≡ pos 0) → pos 0 <ℤ signed_den d
signed_positive (pos zero) n = absurd (n refl)
signed_positive (pos (suc d)) n = omega (arith, ints)
signed_positive (negsuc d) n = omega (arith, ints)

signed_cross : (n d m e : ℤ) → n *ℤ e ≡ m *ℤ d → n *ℤ signed_den e ≡ signed_num m e *ℤ d
signed_cross n d m (pos e) h = h
signed_cross n d m (negsuc e) h = flip n d m (pos (suc e)) h
  where
    flip : (n d m e : ℤ) → n *ℤ neg_ℤ e ≡ m *ℤ d → n *ℤ e ≡ neg_ℤ m *ℤ d
    flip n d m e h = by ℤR (n ∷ d ∷ m ∷ e ∷ []) (ap neg_ℤ h) (search readsℤ depth 16) refl

signed_coprime : (m e : ℤ) → Coprime ℤR m e → Coprime ℤR (signed_num m e) (signed_den e)
signed_coprime m (pos e) c = c
signed_coprime m (negsuc e) c = record { u = neg_ℤ c.u; w = neg_ℤ c.w; comb = flip m (pos (suc e)) c.u c.w c.comb }
  where
    flip : (m e u w : ℤ) → (ℤR).◌⊞◌ (u *ℤ m) (w *ℤ neg_ℤ e) ≡ pos 1 → (ℤR).◌⊞◌ (neg_ℤ u *ℤ neg_ℤ m) (neg_ℤ w *ℤ e) ≡ pos 1
    flip m e u w h = by ℤR (m ∷ e ∷ u ∷ w ∷ []) h (search readsℤ depth 16) refl

abbrev form : Quotient ℤD → Quotient ℤD
form y = (lowest ℤE y).form

abbrev num_of : Quotient ℤD → ℤ
num_of y = signed_num (form y).num (form y).den

abbrev den_of : Quotient ℤD → ℤ
den_of y = signed_den (form y).den

form_cross : (y : Quotient ℤD) → y.num *ℤ den_of y ≡ num_of y *ℤ y.den
form_cross y = signed_cross y.num y.den (form y).num (form y).den (lowest ℤE y).same.cross

form_same : (x y : Quotient ℤD) → ◌≃◌ ℤD x y → (num_of x ≡ num_of y) × (den_of x ≡ den_of y)
form_same x y h = lowest_sameℤ (num_of x) (den_of x) (num_of y) (den_of y) (signed_positive (form x).den (form x).den_ne) (signed_positive (form y).den (form y).den_ne)
    (signed_coprime (form x).num (form x).den (lowest ℤE x).coprime) (signed_coprime (form y).num (form y).den (lowest ℤE y).coprime)
    (ℤD.cancel_mul {c = x.den *ℤ y.den} (product_ne ℤD x.den_ne y.den_ne) (crossed x.num x.den y.num y.den (num_of x) (den_of x) (num_of y) (den_of y) h.cross (form_cross x) (form_cross y)))
  where
    crossed : (n d m e p q r s : ℤ) → n *ℤ e ≡ m *ℤ d → n *ℤ q ≡ p *ℤ d → m *ℤ s ≡ r *ℤ e → (d *ℤ e) *ℤ (p *ℤ s) ≡ (d *ℤ e) *ℤ (r *ℤ q)
    crossed n d m e p q r s h j k = by ℤR (n ∷ d ∷ m ∷ e ∷ p ∷ q ∷ r ∷ s ∷ [])
        (ℤR.add_cong (scale ℤR (q *ℤ s) h) (ℤR.add_cong (scale ℤR (neg_ℤ (e *ℤ s)) j) (scale ℤR (d *ℤ q) k))) (search readsℤ depth 24 fits 8000) refl

numer_raw : K 0 → ℤ
numer_raw = lift ℤ_set num_of (λ x y e. (form_same x y e).0)

denom_raw : K 0 → ℤ
denom_raw = lift ℤ_set den_of (λ x y e. (form_same x y e).1)

pub numer : Value 0 → ℤ
numer x = numer_raw x.raw

pub denom : Value 0 → ℕ
denom x = unsigned_abs (denom_raw x.raw)

positive_raw : (x : K 0) → ¬ (unsigned_abs (denom_raw x) ≡ 0)
unfolding denom_raw
positive_raw = ind (λ x. not_prop) (λ y. positive (den_of y) (signed_positive (form y).den (form y).den_ne))
  where
    positive : (z : ℤ) → pos 0 <ℤ z → ¬ (unsigned_abs z ≡ 0)
    positive z h e = grind (arith, ints)

pub denom_positive : (x : Value 0) → 0 < denom x
unfolding denom
denom_positive x = above (unsigned_abs (denom_raw x.raw)) (positive_raw x.raw)
  where
    above : (n : ℕ) → ¬ (n ≡ 0) → 0 < n
    above zero h = absurd (h refl)
    above (suc n) h = omega arith

is_raw : (x : K 0) → x ≡ ratio ℤD (numer_raw x) (pos (unsigned_abs (denom_raw x)))
unfolding numer_raw denom_raw
is_raw = ind (λ x. Quot-set x (ratio ℤD (numer_raw x) (pos (unsigned_abs (denom_raw x))))) at
  where
    same : (z : ℤ) → pos 0 <ℤ z → pos (unsigned_abs z) ≡ z
    same z h = grind (arith, ints)

    at : (y : Quotient ℤD) → mk y ≡ ratio ℤD (num_of y) (pos (unsigned_abs (den_of y)))
    at y = sound (record { cross = form_cross y }) ∙ sym (ratio-is ℤD (num_of y) (den_of y) (λ z. apart (den_of y) (signed_positive (form y).den (form y).den_ne) z))
        ∙ ap (ratio ℤD (num_of y)) (sym (same (den_of y) (signed_positive (form y).den (form y).den_ne)))
      where
        apart : (z : ℤ) → pos 0 <ℤ z → z ≡ pos 0 → ⊥
        apart z h e = omega (arith, ints)

pub value_is_fraction : (x : Value 0) → x ≡ fraction_value (numer x) (denom x)
unfolding fraction_value numer denom
value_is_fraction x = ap (λ r. record { raw = r }) (is_raw x.raw)
