-- Fractions of whole numbers as values of depth 0, and whole numbers and fractions as values of any depth.
--   fraction_value-add, -sub, -mul, -neg, -over    sum, difference, product, negative, quotient by one that isn't zero, all with denominators of at least 1
--   fraction_value_same, same_fraction_value       equal exactly where the cross products are
--   fraction_value-zero, -one, zero_fraction_value, fraction_value_zero    0/1 and 1/1; n/a is zero exactly where n is
--   whole_value d n, rational_value d n m          the number n, and n / m, at depth d
--   fraction_value-whole, fraction_value-rational  at depth 0 they are the fractions
use Rattle.std.proofs.Common.{◌≡◌, ◌≢◌, ℕ, zero, suc, ◌*◌, ◌<◌, refl, sym, ◌∙◌, ap, ap₂, [], ◌∷◌, ℤ, pos, negsuc, ◌+ℤ◌, ◌*ℤ◌, ◌-ℤ◌, neg_ℤ, unsigned_abs, arith}
use Rattle.std.proofs.lemmas.Int.{ints}
use Rattle.sg_algebra.specs.Fraction.{with_sign_of}
use Rattle.sg_algebra.proofs.Ring.{nat}
use Rattle.sg_algebra.proofs.Solver.{by, scale}
use Rattle.sg_algebra.proofs.Whole.{ℤR, readsℤ, ℤD, one_neℤ}
use Rattle.sg_algebra.proofs.Field.{product_ne}
use Rattle.sg_algebra.proofs.Ratio.{ratio-add, ratio-sub, ratio-mul, ratio-neg, ratio-div, ratio_same, same_ratio, ratio-O, ratio-self, O_ratio}
use Rattle.sg_algebra.proofs.Level.{K}
use Rattle.sg_algebra.proofs.Value.{Value, ◌+ᵛ◌, ◌-ᵛ◌, ◌*ᵛ◌, ◌/ᵛ◌, neg_value, inv_value, zero_value, one_value, fraction_value}
use Rattle.sg_algebra.proofs.ValueField.{ValueR, value_quotient}

pub whole_ne : (a : ℕ) → 0 < a → pos a ≢ pos 0
whole_ne a h e = omega (arith, ints)

wrap : {x y : K 0} → x ≡ y → ◌≡◌ {A = Value 0} (record { raw = x }) (record { raw = y })
wrap e = ap (λ r. record { raw = r }) e

pub fraction_value-add : (n m : ℤ) (a b : ℕ) → 0 < a → 0 < b → fraction_value (n *ℤ pos b +ℤ m *ℤ pos a) (a * b) ≡ fraction_value n a +ᵛ fraction_value m b
unfolding fraction_value ◌+ᵛ◌
fraction_value-add n m a b h k = wrap (ratio-add ℤD n (pos a) m (pos b) (whole_ne a h) (whole_ne b k))

pub fraction_value-sub : (n m : ℤ) (a b : ℕ) → 0 < a → 0 < b → fraction_value (n *ℤ pos b -ℤ m *ℤ pos a) (a * b) ≡ fraction_value n a -ᵛ fraction_value m b
unfolding fraction_value ◌+ᵛ◌ neg_value
fraction_value-sub n m a b h k = wrap (ratio-sub ℤD n (pos a) m (pos b) (whole_ne a h) (whole_ne b k))

pub fraction_value-mul : (n m : ℤ) (a b : ℕ) → 0 < a → 0 < b → fraction_value (n *ℤ m) (a * b) ≡ fraction_value n a *ᵛ fraction_value m b
unfolding fraction_value ◌*ᵛ◌
fraction_value-mul n m a b h k = wrap (ratio-mul ℤD n (pos a) m (pos b) (whole_ne a h) (whole_ne b k))

pub fraction_value-neg : (n : ℤ) (a : ℕ) → 0 < a → fraction_value (neg_ℤ n) a ≡ neg_value (fraction_value n a)
unfolding fraction_value neg_value
fraction_value-neg n a h = wrap (ratio-neg ℤD n (pos a) (whole_ne a h))

pub fraction_value_same : (n m : ℤ) (a b : ℕ) → 0 < a → 0 < b → n *ℤ pos b ≡ m *ℤ pos a → fraction_value n a ≡ fraction_value m b
unfolding fraction_value
fraction_value_same n m a b h k e = wrap (ratio_same ℤD n (pos a) m (pos b) (whole_ne a h) (whole_ne b k) e)

pub same_fraction_value : (n m : ℤ) (a b : ℕ) → 0 < a → 0 < b → fraction_value n a ≡ fraction_value m b → n *ℤ pos b ≡ m *ℤ pos a
unfolding fraction_value
same_fraction_value n m a b h k e = same_ratio ℤD n (pos a) m (pos b) (whole_ne a h) (whole_ne b k) (ap (λ (v : Value 0). v.raw) e)

-- ---- Quotients

-- the sign of what is divided by goes to the numerator
signed : (n a b m w t : ℤ) → w ≡ neg_ℤ b → m ≡ neg_ℤ t → (n *ℤ w) *ℤ (a *ℤ m) ≡ (n *ℤ b) *ℤ (a *ℤ t)
signed n a b m w t h k =
    by ℤR (n ∷ a ∷ b ∷ m ∷ w ∷ t ∷ []) (ℤR.add_cong (scale ℤR (n *ℤ (a *ℤ m)) h) (scale ℤR (neg_ℤ (n *ℤ (a *ℤ b))) k)) (search readsℤ depth 16 fits 4000) refl

pub fraction_value-over : (n m : ℤ) (a b : ℕ) → 0 < a → 0 < b → m ≢ pos 0 → fraction_value (n *ℤ with_sign_of m b) (a * unsigned_abs m) ≡ fraction_value n a /ᵛ fraction_value m b
unfolding fraction_value ◌*ᵛ◌ inv_value
fraction_value-over n (pos m) a b h k j = wrap (ratio-div ℤD n (pos a) (pos m) (pos b) (whole_ne a h) (whole_ne b k) j)
fraction_value-over n (negsuc m) a b h k j =
    wrap (ratio_same ℤD (n *ℤ (pos 0 -ℤ pos b)) (pos a *ℤ pos (suc m)) (n *ℤ pos b) (pos a *ℤ negsuc m) (product_ne ℤD (whole_ne a h) (whole_ne (suc m) (omega arith))) (product_ne ℤD (whole_ne a h) j)
    (signed n (pos a) (pos b) (negsuc m) (pos 0 -ℤ pos b) (pos (suc m)) (omega (arith, ints)) refl)
    ∙ ratio-div ℤD n (pos a) (negsuc m) (pos b) (whole_ne a h) (whole_ne b k) j)

-- ---- Zero and one

pub fraction_value-zero : fraction_value (pos 0) 1 ≡ zero_value
unfolding fraction_value zero_value
fraction_value-zero = wrap (ratio-O ℤD (pos 1) one_neℤ)

pub fraction_value-one : fraction_value (pos 1) 1 ≡ one_value
unfolding fraction_value one_value
fraction_value-one = wrap (ratio-self ℤD (pos 1) one_neℤ)

pub zero_fraction_value : (n : ℤ) (a : ℕ) → 0 < a → fraction_value n a ≡ zero_value → n ≡ pos 0
unfolding fraction_value zero_value
zero_fraction_value n a h e = O_ratio ℤD n (pos a) (whole_ne a h) (ap (λ (v : Value 0). v.raw) e)

pub fraction_value_zero : (n : ℤ) (a : ℕ) → 0 < a → n ≡ pos 0 → fraction_value n a ≡ zero_value
unfolding fraction_value zero_value
fraction_value_zero n a h e = rw e (wrap (ratio-O ℤD (pos a) (whole_ne a h)))

-- ---- Whole numbers and fractions at any depth

abbrev pub whole_value : (d : ℕ) → ℤ → Value d
whole_value d (pos n) = nat (ValueR d) n
whole_value d (negsuc n) = neg_value (nat (ValueR d) (suc n))

abbrev pub rational_value : (d : ℕ) → ℤ → ℕ → Value d
rational_value d n m = whole_value d n /ᵛ nat (ValueR d) m

pub fraction_value-nat : (n : ℕ) → fraction_value (pos n) 1 ≡ nat (ValueR 0) n
fraction_value-nat zero = fraction_value-zero
fraction_value-nat (suc n) =
    fraction_value_same (pos (suc n)) (pos n *ℤ pos 1 +ℤ pos 1 *ℤ pos 1) 1 (1 * 1) (omega arith) (omega arith) (omega (arith, ints))
    ∙ fraction_value-add (pos n) (pos 1) 1 1 (omega arith) (omega arith) ∙ ap₂ ◌+ᵛ◌ (fraction_value-nat n) fraction_value-one

pub fraction_value-whole : (n : ℤ) → fraction_value n 1 ≡ whole_value 0 n
fraction_value-whole (pos n) = fraction_value-nat n
fraction_value-whole (negsuc n) = fraction_value-neg (pos (suc n)) 1 (omega arith) ∙ ap neg_value (fraction_value-nat (suc n))

pub nat_ne : (a : ℕ) → 0 < a → ¬ (nat (ValueR 0) a ≡ zero_value)
nat_ne a h e = whole_ne a h (zero_fraction_value (pos a) 1 (omega arith) (fraction_value-nat a ∙ e))

pub fraction_value-rational : (n : ℤ) (a : ℕ) → 0 < a → fraction_value n a ≡ rational_value 0 n a
fraction_value-rational n a h = value_quotient (whole_value 0 n) (nat (ValueR 0) a) (fraction_value n a) (nat_ne a h)
    (ap (◌*ᵛ◌ (fraction_value n a)) (sym (fraction_value-nat a)) ∙ sym (fraction_value-mul n (pos a) a 1 h (omega arith))
    ∙ fraction_value_same (n *ℤ pos a) n (a * 1) 1 (omega arith) (omega arith) (times_one n a) ∙ fraction_value-whole n)
  where
    times_one : (n : ℤ) (a : ℕ) → (n *ℤ pos a) *ℤ pos 1 ≡ n *ℤ pos (a * 1)
    times_one n a = omega (arith, ints)
