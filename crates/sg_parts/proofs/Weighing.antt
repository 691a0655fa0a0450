-- Weights of fractions, and the steps that make them.
--   weight_positive             nothing weighs 0
--   over_some, under_some       so no numerator or denominator does
--   mul_wide, add_wide          a product or sum of whole numbers from 2^127 on is a step that doesn't fit
--   heavy_sum_left, .. heavy_power     a fraction is heavy where a part of it is
--   sum_weighed, .. power_weighed      the weights of a fraction by those of its parts
use Rattle.std.proofs.Common.{◌≡◌, ℕ, zero, suc, ◌+◌, ◌*◌, ◌/◌, ◌^◌, ◌<◌, ◌≤◌, max, refl, sym, ap, ap₂, subst, ◌∙◌, Bool, true, false, ◌&&◌, IsTrue, Result, Ok, Err, IfErr, nat_lt, pos, ◌+ℤ◌, ◌*ℤ◌, rules, arith}
use Rattle.std.proofs.lemmas.Int.{ints}
use Rattle.std.proofs.lemmas.Nat.{mul-le}
use Rattle.std.proofs.Math.Nat.{pow-zero, pow-succ'}
use Rattle.sg_algebra.specs.Divisor.{gcd}
use Rattle.sg_algebra.proofs.Divisor.{gcd_one_right}
use Rattle.sg_spec.specs.Fraction.{Fraction, whole}
use Rattle.sg_spec.specs.Tree.{Tree, numeral, here, param, add, neg, mul, div, power, sum_from, prod_from}
use Rattle.sg_spec.specs.Polynomials.{weight}
use Rattle.sg_spec.specs.Parts.{Ratio, ratio_sum, ratio_product, turned}
use Rattle.sg_spec.specs.Width.{fits_num, fits_parts, left_part, right_part, fits_plus, product}
use Rattle.sg_algebra.proofs.Whole.{mul-oneℤ}
use Rattle.sg_num.specs.Value.{fraction}
use Rattle.sg_num.specs.Steps.{fits_step}
use Rattle.sg_num.specs.Stopped.{IsTooWide}
use Rattle.sg_num.specs.declared.step.Op.{Op}
use Rattle.sg_num.specs.declared.step.Op.TheVariants.{Add, Mul}
use Rattle.sg_num.specs.declared.step.Wide.{Wide}
use Rattle.sg_parts.specs.declared.weights.Weights.{Weights}
use Rattle.sg_parts.specs.Weights.{AreWeights, AreSumWeights, AreProductWeights, IsHeavyRatio, IsHeavySum, IsLightSum}
use Rattle.sg_parts.proofs.Planar.{power_most}

-- ---- Nothing weighs 0

power_some : (w e : ℕ) → 1 ≤ w → 1 ≤ w ^ e
power_some w zero h = rw (pow-zero w) (omega arith)
power_some w (suc e) h = let rest = power_some w e h in let s : w ^ suc e ≡ w * w ^ e = pow-succ' w e in let m : 1 * 1 ≤ w * w ^ e = mul-le 1 1 w (w ^ e) h rest in omega (arith, s, m)

product_some : (a b : ℕ) → 1 ≤ a → 1 ≤ b → 1 ≤ a * b
product_some a b h k = let m : 1 * 1 ≤ a * b = mul-le 1 1 a b h k in omega (arith, m)

pub weight_positive : (t : Tree) → 1 ≤ weight t
weight_positive (numeral c) = omega arith
weight_positive here = omega arith
weight_positive param = omega arith
weight_positive (add x y) = let l = weight_positive x in omega (arith, l)
weight_positive (neg x) = weight_positive x
weight_positive (mul x y) = product_some (weight x) (weight y) (weight_positive x) (weight_positive y)
weight_positive (div x y) = product_some (weight x) (weight y) (weight_positive x) (weight_positive y)
weight_positive (power x e) = power_some (weight x) e (weight_positive x)
weight_positive (sum_from from body) = omega arith
weight_positive (prod_from from body) = omega arith

-- ---- Steps that don't fit

not_below : (n : ℕ) → 2 ^ 127 ≤ n → IsTrue (nat_lt n (2 ^ 127)) → ⊥
not_below n h t = search (rules, h, t)

not_true : false ≡ true → ⊥
not_true e = cc

left_true : (a b : Bool) → IsTrue (a && b) → IsTrue a
left_true true b h = refl
left_true false b h = h

right_true : (a b : Bool) → IsTrue (a && b) → IsTrue b
right_true true b h = h
right_true false b h = absurd (not_true h)

quotient_one : (n : ℕ) → n / gcd n 1 ≡ n
quotient_one n = ap (λ g. n / g) (gcd_one_right n) ∙ by_one n
  where
    by_one : (n : ℕ) → n / 1 ≡ n
    by_one n = omega arith

pub mul_wide : (w : Wide) (a b : ℕ) → w.op ≡ Mul → fraction w.left ≡ whole (pos a) → fraction w.right ≡ whole (pos b) → 2 ^ 127 ≤ a * b → IsTooWide w
mul_wide w a b o l r h t =
    not_below (a * b) h
    (subst (λ n. IsTrue (nat_lt n (2 ^ 127))) (ap₂ ◌*◌ (quotient_one a) (quotient_one b))
    (left_true (fits_num (product (whole (pos a)) (whole (pos b))).num) (nat_lt (product (whole (pos a)) (whole (pos b))).den (2 ^ 127))
    (step Mul (fraction w.left) (fraction w.right) (whole (pos a)) (whole (pos b)) w.op o l r t)))
  where
    step : (o : Op) (x y u v : Fraction) (p : Op) → p ≡ o → x ≡ u → y ≡ v → IsTrue (fits_step p x y) → IsTrue (fits_step o u v)
    step o x y u v p e f g t = subst (λ p. IsTrue (fits_step p u v)) e (subst (λ x. IsTrue (fits_step p x v)) f (subst (λ y. IsTrue (fits_step p x y)) g t))

pub add_wide : (w : Wide) (a b : ℕ) → w.op ≡ Add → fraction w.left ≡ whole (pos a) → fraction w.right ≡ whole (pos b) → 2 ^ 127 ≤ a + b → IsTooWide w
add_wide w a b o l r h t =
    not_below (a + b) h
    (subst (λ z. IsTrue (fits_num z)) (ap₂ ◌+ℤ◌ (unit a) (unit b) ∙ both a b)
    (right_true (fits_parts (whole (pos a)) (whole (pos b))) (fits_num (left_part (whole (pos a)) (whole (pos b)) +ℤ right_part (whole (pos a)) (whole (pos b))))
    (step (fraction w.left) (fraction w.right) (whole (pos a)) (whole (pos b)) w.op o l r t)))
  where
    both : (a b : ℕ) → pos a +ℤ pos b ≡ pos (a + b)
    both a b = omega (arith, ints)

    unit : (n : ℕ) → pos n *ℤ pos (1 / gcd 1 1) ≡ pos n
    unit n = ap (λ m. pos n *ℤ pos m) (quotient_one 1) ∙ mul-oneℤ (pos n)

    step : (x y u v : Fraction) (p : Op) → p ≡ Add → x ≡ u → y ≡ v → IsTrue (fits_step p x y) → IsTrue (fits_plus u v)
    step x y u v p e f g t = subst (λ p. IsTrue (fits_step p u v)) e (subst (λ x. IsTrue (fits_step p x v)) f (subst (λ y. IsTrue (fits_step p x y)) g t))

-- ---- A power, one product more

pub power_heavy : (a w i e : ℕ) → 1 ≤ a → w ≡ a ^ i → i < e → 2 ^ 127 ≤ a * w → 2 ^ 127 ≤ a ^ e
power_heavy a w i e h f lt k =
    let s : a ^ suc i ≡ a * a ^ i = pow-succ' a i in
    let m : a ^ suc i ≤ a ^ e = power_most a (suc i) e h (omega arith) in
    let p : a * w ≡ a * a ^ i = ap (λ w. a * w) f in
    omega (arith, s, m, p, k)

pub power_weight : (a w new i k : ℕ) → w ≡ a ^ i → new ≡ a * w → k ≡ suc i → new ≡ a ^ k
power_weight a w new i k f e n = e ∙ ap (λ w. a * w) f ∙ sym (pow-succ' a i) ∙ ap (λ k. a ^ k) (sym n)

pub power_one : (a e : ℕ) → a ≡ 1 → 1 ≡ a ^ e
power_one a zero h = sym (pow-zero a)
power_one a (suc e) h = power_one a e h ∙ sym (ap (λ w. w * a ^ e) h ∙ times (a ^ e)) ∙ sym (pow-succ' a e)
  where
    times : (n : ℕ) → 1 * n ≡ n
    times n = omega arith

-- ---- Fractions

pub over_some : (r : Ratio) → 1 ≤ weight r.over
over_some r = weight_positive r.over

pub under_some : (r : Ratio) → 1 ≤ weight r.under
under_some r = weight_positive r.under

pub more_left : (a b : ℕ) → 1 ≤ b → a ≤ a * b
more_left a b h = let m : a * 1 ≤ a * b = mul-le a 1 a b (omega arith) h in omega (arith, m)

pub more_right : (a b : ℕ) → 1 ≤ a → b ≤ a * b
more_right a b h = let m : 1 * b ≤ a * b = mul-le 1 b a b h (omega arith) in omega (arith, m)

pub more_power : (a e : ℕ) → 1 ≤ a → 1 ≤ e → a ≤ a ^ e
more_power a e h k = let m : a ^ 1 ≤ a ^ e = power_most a 1 e h k in let s : a ^ 1 ≡ a * a ^ 0 = pow-succ' a 0 in let z : a * a ^ 0 ≡ a * 1 = ap (λ n. a * n) (pow-zero a) in omega (arith, m, s, z)

module _ (r s : Ratio) where
  abbrev a : ℕ
  a = weight r.over

  abbrev b : ℕ
  b = weight r.under

  abbrev c : ℕ
  c = weight s.over

  abbrev d : ℕ
  d = weight s.under

  pub over_left : max a b ≤ max (a * d + c * b) (b * d)
  over_left = let l = more_left a d (under_some s) in let m = more_left b d (under_some s) in omega (arith, l, m)

  pub over_right : max c d ≤ max (a * d + c * b) (b * d)
  over_right = let l = more_left c b (under_some r) in let m = more_right b d (under_some r) in omega (arith, l, m)

  -- also of the numerator of the sum alone
  pub alone_left : max a b ≤ a * d + c * b
  alone_left = let l = more_left a d (under_some s) in let m = more_right c b (over_some s) in omega (arith, l, m)

  pub alone_right : max c d ≤ a * d + c * b
  alone_right = let l = more_left c b (under_some r) in let m = more_right a d (over_some r) in omega (arith, l, m)

  pub heavy_sum_left : IsHeavyRatio r → IsHeavyRatio (ratio_sum r s)
  heavy_sum_left h = let l = over_left in omega (arith, l, h)

  pub heavy_sum_right : IsHeavyRatio s → IsHeavyRatio (ratio_sum r s)
  heavy_sum_right h = let l = over_right in omega (arith, l, h)

  pub heavy_alone_left : IsHeavyRatio r → IsHeavySum r s
  heavy_alone_left h = let l = alone_left in omega (arith, l, h)

  pub heavy_alone_right : IsHeavyRatio s → IsHeavySum r s
  heavy_alone_right h = let l = alone_right in omega (arith, l, h)

  pub heavy_product_left : IsHeavyRatio r → IsHeavyRatio (ratio_product r s)
  heavy_product_left h = let l = more_left a c (over_some s) in let m = more_left b d (under_some s) in omega (arith, l, m, h)

  pub heavy_product_right : IsHeavyRatio s → IsHeavyRatio (ratio_product r s)
  heavy_product_right h = let l = more_right a c (over_some r) in let m = more_right b d (under_some r) in omega (arith, l, m, h)

  pub heavy_quotient_right : IsHeavyRatio s → IsHeavyRatio (ratio_product r (turned s))
  heavy_quotient_right h = let l = more_right a d (over_some r) in let m = more_right b c (under_some r) in omega (arith, l, m, h)

pub heavy_power : (r : Ratio) (e : ℕ) → 1 ≤ e → IsHeavyRatio r → IsHeavyRatio (record { over = power r.over e; under = power r.under e })
heavy_power r e k h = let l = more_power (weight r.over) e (over_some r) k in let m = more_power (weight r.under) e (under_some r) k in omega (arith, l, m, h)

module _ (r s : Ratio) (x y w : Weights) (h : AreWeights x r) (k : AreWeights y s) where
  pub sum_weighed : AreSumWeights w x y → AreWeights w (ratio_sum r s)
  sum_weighed e = record {
    over = e.over ∙ ap₂ ◌+◌ (ap₂ ◌*◌ h.over k.under) (ap₂ ◌*◌ k.over h.under);
    under = e.under ∙ ap₂ ◌*◌ h.under k.under;
    over_fits = e.over_fits;
    under_fits = e.under_fits;
  }

  pub sum_heavy : 2 ^ 127 ≤ max (x.over * y.under + y.over * x.under) (x.under * y.under) → IsHeavyRatio (ratio_sum r s)
  sum_heavy e = let f : x.over * y.under + y.over * x.under ≡ a r s * d r s + c r s * b r s = ap₂ ◌+◌ (ap₂ ◌*◌ h.over k.under) (ap₂ ◌*◌ k.over h.under) in let g : x.under * y.under ≡ b r s * d r s = ap₂ ◌*◌ h.under k.under in omega (arith, e, f, g)

  pub alone_light : (n : ℕ) → n ≡ x.over * y.under + y.over * x.under → n < 2 ^ 127 → IsLightSum r s
  alone_light n e lt = let f : x.over * y.under + y.over * x.under ≡ a r s * d r s + c r s * b r s = ap₂ ◌+◌ (ap₂ ◌*◌ h.over k.under) (ap₂ ◌*◌ k.over h.under) in omega (arith, e, f, lt)

  pub alone_heavy : 2 ^ 127 ≤ x.over * y.under + y.over * x.under → IsHeavySum r s
  alone_heavy e = let f : x.over * y.under + y.over * x.under ≡ a r s * d r s + c r s * b r s = ap₂ ◌+◌ (ap₂ ◌*◌ h.over k.under) (ap₂ ◌*◌ k.over h.under) in omega (arith, e, f)

  pub product_weighed : AreProductWeights w x y → AreWeights w (ratio_product r s)
  product_weighed e = record {
    over = e.over ∙ ap₂ ◌*◌ h.over k.over;
    under = e.under ∙ ap₂ ◌*◌ h.under k.under;
    over_fits = e.over_fits;
    under_fits = e.under_fits;
  }

  pub product_heavy : 2 ^ 127 ≤ max (x.over * y.over) (x.under * y.under) → IsHeavyRatio (ratio_product r s)
  product_heavy e = let f : x.over * y.over ≡ a r s * c r s = ap₂ ◌*◌ h.over k.over in let g : x.under * y.under ≡ b r s * d r s = ap₂ ◌*◌ h.under k.under in omega (arith, e, f, g)

pub turned_weighed : (r : Ratio) (x y : Weights) → y.over ≡ x.under → y.under ≡ x.over → AreWeights x r → AreWeights y (turned r)
turned_weighed r x y e f h = record {
  over = e ∙ h.under;
  under = f ∙ h.over;
  over_fits = rw e h.under_fits;
  under_fits = rw f h.over_fits;
}

pub weighed_some : (r : Ratio) (w : Weights) → AreWeights w r → (1 ≤ w.over) × (1 ≤ w.under)
weighed_some r w h = (rw h.over (over_some r), rw h.under (under_some r))

pub power_weighed : (r : Ratio) (e : ℕ) (x w : Weights) → AreWeights x r → w.over ≡ x.over ^ e → w.over < 2 ^ 127 → w.under ≡ x.under ^ e → w.under < 2 ^ 127 → AreWeights w (record { over = power r.over e; under = power r.under e })
power_weighed r e x w h f fits g also = record {
  over = f ∙ ap (λ n. n ^ e) h.over;
  under = g ∙ ap (λ n. n ^ e) h.under;
  over_fits = fits;
  under_fits = also;
}

pub over_heavy : (r : Ratio) (e : ℕ) (x : Weights) → AreWeights x r → 2 ^ 127 ≤ x.over ^ e → IsHeavyRatio (record { over = power r.over e; under = power r.under e })
over_heavy r e x h k = let f : x.over ^ e ≡ weight r.over ^ e = ap (λ n. n ^ e) h.over in omega (arith, f, k)

pub under_heavy : (r : Ratio) (e : ℕ) (x : Weights) → AreWeights x r → 2 ^ 127 ≤ x.under ^ e → IsHeavyRatio (record { over = power r.over e; under = power r.under e })
under_heavy r e x h k = let f : x.under ^ e ≡ weight r.under ^ e = ap (λ n. n ^ e) h.under in omega (arith, f, k)

pub err_any : {A B : Type 0} (r : Result A B) (P : Type 0) → P → IfErr r (λ _. P)
err_any (Ok v) P h = tt
err_any (Err e) P h = h
