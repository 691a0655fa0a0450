-- Steps with whole numbers, and multiples of denominators.
--   whole_value-add, whole_value-mul      sums and products of whole numbers among the fractions
--   whole_num                             a fraction that is a whole number has it as its numerator
--   sum_num, product_num, quotient_num    the steps of two whole numbers
--   whole_quotient, no_quotient           there is a whole quotient exactly where the sizes leave no rest
--   multiple_num                          a fraction times a multiple of its denominator is whole
--   raised_multiple                       a number times the denominator of its quotient by d is a multiple of d
--   raised_some, raised_whole             it isn't 0, and is a multiple of that number
--   raised_least                          and each common multiple is a multiple of it
--   multiple_more                         a multiple of a multiple
use Rattle.std.proofs.Common.{◌≡◌, ◌≢◌, subst, ℕ, ◌*◌, ◌%◌, ◌<◌, refl, sym, ◌∙◌, ap, ap₂, [], ◌∷◌, ℤ, pos, negsuc, neg_ℤ, ◌+ℤ◌, ◌-ℤ◌, ◌*ℤ◌, unsigned_abs, arith}
use Rattle.std.proofs.Math.Nat.{mul-mod_left}
use Rattle.std.proofs.lemmas.Int.{ints, quot-rem, unsigned_abs-mul}
use Rattle.std.specs.Int.RustNames.{int_div, int_rem}
use Rattle.sg_algebra.specs.Fraction.{Same, whole, plus, minus, times, over}
use Rattle.sg_algebra.proofs.Solver.{by, scale, reads}
use Rattle.sg_algebra.proofs.Whole.{ℤR, readsℤ, ℤD, mul_zeroℤ, positive_ne}
use Rattle.sg_algebra.proofs.Coprime.{Coprime, coprime_symm, gauss}
use Rattle.sg_algebra.proofs.Divisor.{gcd_one_right}
use Rattle.sg_algebra.proofs.Value.{◌+ᵛ◌, ◌-ᵛ◌, ◌*ᵛ◌, ◌/ᵛ◌, zero_value}
use Rattle.sg_algebra.proofs.ValueField.{ValueR, value_quotient}
use Rattle.sg_algebra.proofs.Rational.{whole_value, fraction_value-add, fraction_value-mul, fraction_value-whole, fraction_value_same}
use Rattle.sg_algebra.proofs.Embedding.{whole_value_zero}
use Rattle.sg_num.specs.Value.{fraction, number}
use Rattle.sg_num.specs.declared.rat.Rat.{Rat}
use Rattle.sg_num.proofs.Numbers.{den-positive, coprime_size, number-plus, number-minus, number-times, number-over, number-whole, same-number}
use Rattle.sg_num.specs.Roots.{IsMultiple}

pub whole_value-add : (a b : ℤ) → whole_value 0 (a +ℤ b) ≡ whole_value 0 a +ᵛ whole_value 0 b
whole_value-add a b =
    sym (fraction_value-whole (a +ℤ b))
    ∙ fraction_value_same (a +ℤ b) (a *ℤ pos 1 +ℤ b *ℤ pos 1) 1 (1 * 1) (omega arith) (omega arith) (omega (arith, ints))
    ∙ fraction_value-add a b 1 1 (omega arith) (omega arith) ∙ ap₂ ◌+ᵛ◌ (fraction_value-whole a) (fraction_value-whole b)

pub whole_value-mul : (a b : ℤ) → whole_value 0 (a *ℤ b) ≡ whole_value 0 a *ᵛ whole_value 0 b
whole_value-mul a b =
    sym (fraction_value-whole (a *ℤ b)) ∙ fraction_value-mul a b 1 1 (omega arith) (omega arith) ∙ ap₂ ◌*ᵛ◌ (fraction_value-whole a) (fraction_value-whole b)

abbrev whole_rat : ℤ → Rat
whole_rat n = record { num = n; den = pos 1; positive = omega (arith, ints); lowest = gcd_one_right (unsigned_abs n) }

back : (a b : ℤ) → (a -ℤ b) +ℤ b ≡ a
back a b = omega (arith, ints)

whole-less : (a b : ℤ) → whole_value 0 (a -ℤ b) ≡ whole_value 0 a -ᵛ whole_value 0 b
whole-less a b = by (ValueR 0) (whole_value 0 a ∷ whole_value 0 b ∷ whole_value 0 (a -ℤ b) ∷ []) (sym (whole_value-add (a -ℤ b) b) ∙ ap (whole_value 0) (back a b)) (search reads depth 16) refl

whole_num : (r : Rat) (n : ℤ) → number r ≡ whole_value 0 n → r.num ≡ n
whole_num r n e = (same-number r (whole_rat n) (e ∙ sym (number-whole (whole_rat n) n refl))).0

-- ---- The steps

module _ (a b : ℤ) (x y r : Rat) (e : fraction x ≡ whole a) (f : fraction y ≡ whole b) where
  pub sum_num : Same (fraction r) (plus (fraction x) (fraction y)) → r.num ≡ a +ℤ b
  sum_num h = whole_num r (a +ℤ b) (number-plus x y r h ∙ ap₂ ◌+ᵛ◌ (number-whole x a e) (number-whole y b f) ∙ sym (whole_value-add a b))

  pub difference_num : Same (fraction r) (minus (fraction x) (fraction y)) → r.num ≡ a -ℤ b
  difference_num h = whole_num r (a -ℤ b) (number-minus x y r h ∙ ap₂ ◌-ᵛ◌ (number-whole x a e) (number-whole y b f) ∙ sym (whole-less a b))

  pub product_num : Same (fraction r) (times (fraction x) (fraction y)) → r.num ≡ a *ℤ b
  product_num h = whole_num r (a *ℤ b) (number-times x y r h ∙ ap₂ ◌*ᵛ◌ (number-whole x a e) (number-whole y b f) ∙ sym (whole_value-mul a b))

  module _ (ne : b ≢ pos 0) (h : Same (fraction r) (over (fraction x) (fraction y))) where
    numerator : y.num ≢ pos 0
    numerator z = ne (sym (ap (λ q. q.num) f) ∙ z)

    quotient : number r ≡ whole_value 0 a /ᵛ whole_value 0 b
    quotient = number-over x y r numerator h ∙ ap₂ ◌/ᵛ◌ (number-whole x a e) (number-whole y b f)

    divisor : ¬ (whole_value 0 b ≡ zero_value)
    divisor z = ne (whole_value_zero 0 b z)

    pub quotient_num : (k : ℤ) → k *ℤ b ≡ a → r.num *ℤ b ≡ a
    quotient_num k s =
        let is = value_quotient (whole_value 0 a) (whole_value 0 b) (whole_value 0 k) divisor (sym (whole_value-mul k b) ∙ ap (whole_value 0) s) in
        ap (λ q. q *ℤ b) (whole_num r k (quotient ∙ sym is)) ∙ s

rest_zero : (a b : ℤ) → unsigned_abs a % unsigned_abs b ≡ 0 → int_rem a b ≡ pos 0
rest_zero (pos a) b e = ap pos e
rest_zero (negsuc a) b e = ap (λ n. neg_ℤ (pos n)) e

pub whole_quotient : (a b : ℤ) → unsigned_abs a % unsigned_abs b ≡ 0 → int_div a b *ℤ b ≡ a
whole_quotient a b e = sym (none (int_div a b *ℤ b)) ∙ ap (λ r. int_div a b *ℤ b +ℤ r) (sym (rest_zero a b e)) ∙ quot-rem a b
  where
    none : (x : ℤ) → x +ℤ pos 0 ≡ x
    none x = omega (arith, ints)

pub no_quotient : (a b : ℤ) → unsigned_abs a % unsigned_abs b ≢ 0 → (q : ℤ) → q *ℤ b ≢ a
no_quotient a b h q e = h (ap (λ z. unsigned_abs z % unsigned_abs b) (sym e) ∙ ap (λ n. n % unsigned_abs b) (unsigned_abs-mul q b) ∙ mul-mod_left (unsigned_abs q) (unsigned_abs b))

-- ---- Multiples of denominators

carried : (l k n b : ℤ) → l ≡ k *ℤ b → (l *ℤ n) *ℤ pos 1 ≡ (k *ℤ n) *ℤ b
carried l k n b e = by ℤR (l ∷ k ∷ n ∷ b ∷ []) (scale ℤR n e) (search readsℤ depth 16) refl

times_one : (l k n : ℤ) (d : ℕ) → l ≡ k *ℤ pos d → (l *ℤ n) *ℤ pos 1 ≡ (k *ℤ n) *ℤ pos (1 * d)
times_one l k n d e =
    let same : 1 * d ≡ d = omega arith in
    rw same (carried l k n (pos d) e)

multiple_whole : (r : Rat) (l k : ℤ) → l ≡ k *ℤ pos (unsigned_abs r.den) → whole_value 0 l *ᵛ number r ≡ whole_value 0 (k *ℤ r.num)
multiple_whole r l k e =
    let d = unsigned_abs r.den in
    ap (λ v. v *ᵛ number r) (sym (fraction_value-whole l)) ∙ sym (fraction_value-mul l r.num 1 d (omega arith) (den-positive r))
    ∙ fraction_value_same (l *ℤ r.num) (k *ℤ r.num) (1 * d) 1 (omega (arith, den-positive r)) (omega arith) (times_one l k r.num d e)
    ∙ fraction_value-whole (k *ℤ r.num)

pub multiple_num : (l : ℤ) (x r t : Rat) → fraction x ≡ whole l → IsMultiple l (fraction r).den → Same (fraction t) (times (fraction x) (fraction r)) → whole_value 0 t.num ≡ whole_value 0 l *ᵛ number r
multiple_num l x r t e m h =
    let is : number t ≡ whole_value 0 l *ᵛ number r = number-times x r t h ∙ ap (λ v. v *ᵛ number r) (number-whole x l e) in
    ap (whole_value 0) (whole_num t (m.0 *ℤ r.num) (is ∙ multiple_whole r l m.0 m.1)) ∙ sym (multiple_whole r l m.0 m.1)

turned : (n l b d : ℤ) → n *ℤ d ≡ (l *ℤ pos 1) *ℤ b → l *ℤ b ≡ n *ℤ d
turned n l b d e = by ℤR (n ∷ l ∷ b ∷ d ∷ []) (ℤR.symm e) (search readsℤ depth 16) refl

crossed : (n l b : ℤ) (d : ℕ) → n *ℤ pos (1 * d) ≡ (l *ℤ pos 1) *ℤ b → l *ℤ b ≡ n *ℤ pos d
crossed n l b d e =
    let same : 1 * d ≡ d = omega arith in
    turned n l b (pos d) (rw same at e)

pub raised_multiple : (l n : ℤ) (d : ℕ) (x y t : Rat) → fraction x ≡ whole l → fraction y ≡ whole (pos d) → Same (fraction t) (over (fraction x) (fraction y)) → n ≡ l *ℤ pos (fraction t).den → IsMultiple n d
raised_multiple l n d x y t e f h s =
    let g = subst (λ u. Same (fraction t) (over u (whole (pos d)))) e (subst (λ u. Same (fraction t) (over (fraction x) u)) f h) in
    (t.num, s ∙ crossed t.num l (pos (fraction t).den) d g)

both_ways : (k l p q j d m : ℤ) → l *ℤ q ≡ p *ℤ d → m ≡ k *ℤ l → m ≡ j *ℤ d → d *ℤ (p *ℤ k) ≡ d *ℤ (q *ℤ j)
both_ways k l p q j d m e f g = by ℤR (k ∷ l ∷ p ∷ q ∷ j ∷ d ∷ m ∷ [])
    (ℤR.add_cong (scale ℤR (neg_ℤ k) e) (ℤR.add_cong (scale ℤR (neg_ℤ q) f) (scale ℤR q g))) (search readsℤ depth 24) refl

through : (m k l i q n : ℤ) → m ≡ k *ℤ l → k ≡ q *ℤ i → n ≡ l *ℤ q → m ≡ i *ℤ n
through m k l i q n e f g = by ℤR (m ∷ k ∷ l ∷ i ∷ q ∷ n ∷ [])
    (ℤR.add_cong e (ℤR.add_cong (scale ℤR l f) (scale ℤR (neg_ℤ i) g))) (search readsℤ depth 24) refl

pub raised_least : (l n m : ℤ) (d : ℕ) (x y t : Rat) → 0 < d → fraction x ≡ whole l → fraction y ≡ whole (pos d) → Same (fraction t) (over (fraction x) (fraction y)) → n ≡ l *ℤ pos (fraction t).den → (k : ℤ) × (m ≡ k *ℤ l) → IsMultiple m d → (k : ℤ) × (m ≡ k *ℤ n)
raised_least l n m d x y t some e f h s k j =
    let g = subst (λ u. Same (fraction t) (over u (whole (pos d)))) e (subst (λ u. Same (fraction t) (over (fraction x) u)) f h) in
    let q = (fraction t).den in
    let same = both_ways k.0 l t.num (pos q) j.0 (pos d) m (crossed t.num l (pos q) d g) k.1 j.1 in
    let apart : Coprime ℤR (pos q) t.num = coprime_symm ℤR t.num (pos q) (coprime_size t.num q t.lowest) in
    let factor = gauss ℤR (pos q) t.num k.0 apart (record { cofactor = j.0; is = ℤD.cancel_mul (positive_ne (pos d) (omega (arith, ints, some))) same }) in
    (factor.cofactor, through m k.0 l factor.cofactor (pos q) n k.1 factor.is s)

twice : (n l d h m : ℤ) → n ≡ h *ℤ l → l ≡ m *ℤ d → n ≡ (h *ℤ m) *ℤ d
twice n l d h m e f = by ℤR (n ∷ l ∷ d ∷ h ∷ m ∷ []) (ℤR.add_cong e (scale ℤR h f)) (search readsℤ depth 20) refl

pub multiple_more : (l n : ℤ) (d : ℕ) → (k : ℤ) × (n ≡ k *ℤ l) → IsMultiple l d → IsMultiple n d
multiple_more l n d h m = (h.0 *ℤ m.0, twice n l (pos d) h.0 m.0 h.1 m.1)

module _ (l n : ℤ) (t : Rat) (e : n ≡ l *ℤ pos (fraction t).den) where
  pub raised_some : l ≢ pos 0 → n ≢ pos 0
  raised_some ne z = apart (fraction t).den (den-positive t) (mul_zeroℤ l (pos (fraction t).den) ne (sym e ∙ z))
    where
      apart : (d : ℕ) → 0 < d → pos d ≢ pos 0
      apart d h e = omega (arith, ints)

  pub raised_whole : (k : ℤ) × (n ≡ k *ℤ l)
  raised_whole = (pos (fraction t).den, e ∙ ℤR.mul_comm {x = l} {y = pos (fraction t).den})
