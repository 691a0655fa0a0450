-- Equal operands have equal results.
--   plus_same, minus_same, times_same, over_same    each operation
--   zero_same                                       equal fractions are 0 together
use Rattle.std.proofs.Common.{◌≡◌, ℕ, zero, suc, ◌*◌, ◌<◌, ℤ, pos, negsuc, ◌+ℤ◌, ◌-ℤ◌, ◌*ℤ◌, neg_ℤ, unsigned_abs, refl, ap₂, sym, ◌∙◌, arith, [], ◌∷◌}
use Rattle.std.proofs.lemmas.Int.{ints}
use Rattle.sg_algebra.proofs.Solver.{by, scale}
use Rattle.sg_algebra.proofs.Whole.{ℤR, readsℤ, mul_zeroℤ, positive_ne}
use Rattle.sg_spec.proofs.Values.{product_positive}
use Rattle.sg_spec.specs.Fraction.{Fraction, Same, plus, minus, times, over, with_sign_of}

pub plus_same : (l r x y : Fraction) → Same l x → Same r y → Same (plus l r) (plus x y)
plus_same l r x y p q = crossing l.num (pos l.den) x.num (pos x.den) r.num (pos r.den) y.num (pos y.den) p q
  where
    crossing : (a b c d e f g h : ℤ) → a *ℤ d ≡ c *ℤ b → e *ℤ h ≡ g *ℤ f → (a *ℤ f +ℤ e *ℤ b) *ℤ (d *ℤ h) ≡ (c *ℤ h +ℤ g *ℤ d) *ℤ (b *ℤ f)
    crossing a b c d e f g h p q = by ℤR (a ∷ b ∷ c ∷ d ∷ e ∷ f ∷ g ∷ h ∷ []) (ap₂ ◌+ℤ◌ (scale ℤR (f *ℤ h) p) (scale ℤR (b *ℤ d) q)) (search readsℤ depth 16) refl

pub minus_same : (l r x y : Fraction) → Same l x → Same r y → Same (minus l r) (minus x y)
minus_same l r x y p q = crossing l.num (pos l.den) x.num (pos x.den) r.num (pos r.den) y.num (pos y.den) p q
  where
    crossing : (a b c d e f g h : ℤ) → a *ℤ d ≡ c *ℤ b → e *ℤ h ≡ g *ℤ f → (a *ℤ f -ℤ e *ℤ b) *ℤ (d *ℤ h) ≡ (c *ℤ h -ℤ g *ℤ d) *ℤ (b *ℤ f)
    crossing a b c d e f g h p q = by ℤR (a ∷ b ∷ c ∷ d ∷ e ∷ f ∷ g ∷ h ∷ []) (ap₂ ◌+ℤ◌ (scale ℤR (f *ℤ h) p) (scale ℤR (pos 0 -ℤ b *ℤ d) q)) (search readsℤ depth 16) refl

crossing_times : (a b c d e f g h : ℤ) → a *ℤ d ≡ c *ℤ b → e *ℤ h ≡ g *ℤ f → (a *ℤ e) *ℤ (d *ℤ h) ≡ (c *ℤ g) *ℤ (b *ℤ f)
crossing_times a b c d e f g h p q = by ℤR (a ∷ b ∷ c ∷ d ∷ e ∷ f ∷ g ∷ h ∷ []) (ap₂ ◌+ℤ◌ (scale ℤR (e *ℤ h) p) (scale ℤR (c *ℤ b) q)) (search readsℤ depth 16) refl

pub times_same : (l r x y : Fraction) → Same l x → Same r y → Same (times l r) (times x y)
times_same l r x y p q = crossing_times l.num (pos l.den) x.num (pos x.den) r.num (pos r.den) y.num (pos y.den) p q

not_negative : (a k : ℕ) → 0 < k → pos a ≡ neg_ℤ (pos k) → ⊥
not_negative a zero h e = omega arith
not_negative a (suc k) h e = cc

-- turned over, with the sign above
turned : (z w : ℤ) (f h : ℕ) → 0 < f → 0 < h → z *ℤ pos h ≡ w *ℤ pos f → with_sign_of z f *ℤ pos (unsigned_abs w) ≡ with_sign_of w h *ℤ pos (unsigned_abs z)
turned (pos m) (pos n) f h p q e = flipped (pos m) (pos n) (pos f) (pos h) e
  where
    flipped : (m n f h : ℤ) → m *ℤ h ≡ n *ℤ f → f *ℤ n ≡ h *ℤ m
    flipped m n f h e = by ℤR (m ∷ n ∷ f ∷ h ∷ []) (sym e) (search readsℤ depth 16) refl
turned (negsuc m) (negsuc n) f h p q e = flipped (pos (suc m)) (pos (suc n)) (pos f) (pos h) e
  where
    flipped : (m n f h : ℤ) → neg_ℤ m *ℤ h ≡ neg_ℤ n *ℤ f → (pos 0 -ℤ f) *ℤ n ≡ (pos 0 -ℤ h) *ℤ m
    flipped m n f h e = by ℤR (m ∷ n ∷ f ∷ h ∷ []) (sym e) (search readsℤ depth 16) refl
turned (pos m) (negsuc n) zero h p q e = absurd (omega arith)
turned (pos m) (negsuc n) (suc f) h p q e = absurd (not_negative (m * h) (suc n * suc f) (product_positive (suc n) (suc f) (omega arith) p) e)
turned (negsuc m) (pos n) f zero p q e = absurd (omega arith)
turned (negsuc m) (pos n) f (suc h) p q e = absurd (not_negative (n * f) (suc m * suc h) (product_positive (suc m) (suc h) (omega arith) q) (sym e))

pub over_same : (l r x y : Fraction) → 0 < r.den → 0 < y.den → Same l x → Same r y → Same (over l r) (over x y)
over_same l r x y f h p q =
    crossing_times l.num (pos l.den) x.num (pos x.den) (with_sign_of r.num r.den) (pos (unsigned_abs r.num)) (with_sign_of y.num y.den) (pos (unsigned_abs y.num)) p
    (turned r.num y.num r.den y.den f h q)

zero_times : (z : ℤ) (d : ℕ) → 0 < d → z *ℤ pos d ≡ pos 0 → z ≡ pos 0
zero_times z d h e = mul_zeroℤ (pos d) z (positive_ne (pos d) (omega (arith, ints))) (flip z (pos d) e)
  where
    flip : (z d : ℤ) → z *ℤ d ≡ pos 0 → d *ℤ z ≡ pos 0
    flip z d e = by ℤR (z ∷ d ∷ []) e (search readsℤ depth 16) refl

pub zero_same : (x y : Fraction) → 0 < x.den → Same y x → x.num ≡ pos 0 → y.num ≡ pos 0
zero_same x y h s e = zero_times y.num x.den h (s ∙ nothing x.num (pos y.den) e)
  where
    nothing : (z d : ℤ) → z ≡ pos 0 → z *ℤ d ≡ pos 0
    nothing z d e = by ℤR (z ∷ d ∷ []) (scale ℤR d e) (search readsℤ depth 16) refl
