-- Equality of fractions, and the operations under it.
--   Same-refl, Same-sym, Same-trans       equality by cross products is an equivalence, where denominators aren't 0
--   plus-cong_left, ..                    equal operands have equal sums
use Rattle.std.proofs.Common.{◌≡◌, ℕ, ◌<◌, ℤ, pos, ◌+ℤ◌, ◌*ℤ◌, refl, ap₂, sym, ◌∙◌, arith, [], ◌∷◌}
use Rattle.std.proofs.lemmas.Int.{ints}
use Rattle.sg_algebra.proofs.Solver.{by, scale}
use Rattle.sg_algebra.proofs.Whole.{ℤR, readsℤ, cancelℤ, positive_ne}
use lib.IntN.{*ℤ_comm}
use Rattle.sg_spec.specs.Fraction.{Fraction, Same, plus}

pub Same-refl : (x : Fraction) → Same x x
Same-refl x = refl

pub Same-sym : (x y : Fraction) → Same x y → Same y x
Same-sym x y h = sym h

-- a factor that isn't 0 cancels
cancel : (n : ℕ) (a b : ℤ) → 0 < n → a *ℤ pos n ≡ b *ℤ pos n → a ≡ b
cancel n a b h e = cancelℤ (pos n) a b (positive_ne (pos n) (omega (arith, ints))) (*ℤ_comm (pos n) a ∙ e ∙ *ℤ_comm b (pos n))

pub Same-trans : (x y z : Fraction) → 0 < y.den → Same x y → Same y z → Same x z
Same-trans x y z h p q =
    cancel y.den (x.num *ℤ pos z.den) (z.num *ℤ pos x.den) h
    (crossing x.num (pos x.den) y.num (pos y.den) z.num (pos z.den) p q)
  where
    crossing : (a b c d e f : ℤ) → a *ℤ d ≡ c *ℤ b → c *ℤ f ≡ e *ℤ d → (a *ℤ f) *ℤ d ≡ (e *ℤ b) *ℤ d
    crossing a b c d e f p q = by ℤR (a ∷ b ∷ c ∷ d ∷ e ∷ f ∷ []) (ap₂ ◌+ℤ◌ (scale ℤR f p) (scale ℤR b q)) (search readsℤ depth 16) refl

pub plus-cong_left : (x y z : Fraction) → Same x y → Same (plus x z) (plus y z)
plus-cong_left x y z p = over x.num (pos x.den) y.num (pos y.den) z.num (pos z.den) p
  where
    over : (a b c d e f : ℤ) → a *ℤ d ≡ c *ℤ b → (a *ℤ f +ℤ e *ℤ b) *ℤ (d *ℤ f) ≡ (c *ℤ f +ℤ e *ℤ d) *ℤ (b *ℤ f)
    over a b c d e f p = by ℤR (a ∷ b ∷ c ∷ d ∷ e ∷ f ∷ []) (scale ℤR (f *ℤ f) p) (search readsℤ depth 16) refl
