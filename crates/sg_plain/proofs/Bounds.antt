-- Sizes of the values of light polynomials of low degree.
--   weight_positive     each tree weighs something
--   value-light         at whole numbers of size at most b the value is at most the weight times b to the degree
--   value-small         so at those of size at most 5 that of a plain polynomial is at most 2^26
--   power-small         and so are the powers of its base up to the exponent
--   plain-add, -mul, -power     the parts of what is plain are plain
--   small-value, small-powers   so all that is computed is small
--   power-twice, -even, -odd, base-small     powers by squarings
use Rattle.std.proofs.Common.{◌≡◌, ap₂, ℕ, zero, suc, ◌+◌, ◌*◌, ◌^◌, ◌/◌, ◌%◌, ◌≤◌, max, ℤ, ◌+ℤ◌, ◌*ℤ◌, neg_ℤ, unsigned_abs, [], ◌∷◌, refl, sym, ap, subst, ◌∙◌, arith}
use Rattle.std.proofs.lemmas.Int.{ints, unsigned_abs-mul}
use Rattle.std.proofs.lemmas.Nat.{mul-pow, pow-add}
use Rattle.std.proofs.Math.Nat.{pow-zero, pow-suc, pow-succ', mul-le-mul, pow-le-pow_left, pow-le-pow_right, one-le-mul, one-le-pow}
use Rattle.sg_algebra.proofs.Ring.{pow, pow-add as ring_pow-add}
use Rattle.sg_algebra.proofs.Solver.{ring}
use Rattle.sg_algebra.proofs.Whole.{ℤR, readsℤ}
use Rattle.sg_spec.specs.Limits.{degrees}
use Rattle.sg_spec.specs.Polynomials.{IsPolynomial, weight}
use Rattle.sg_spec.specs.Tree.{Tree, numeral, here, param, add, neg, mul, div, power, sum_from, prod_from}
use Rattle.sg_plain.specs.Plain.{IsPlain, whole_at}

pub weight_positive : (t : Tree) → 1 ≤ weight t
weight_positive (numeral c) = omega arith
weight_positive here = omega arith
weight_positive param = omega arith
weight_positive (add x y) = let h : 1 ≤ weight x = weight_positive x in omega arith
weight_positive (neg x) = weight_positive x
weight_positive (mul x y) = one-le-mul (weight_positive x) (weight_positive y)
weight_positive (div x y) = one-le-mul (weight_positive x) (weight_positive y)
weight_positive (power x e) = one-le-pow e (weight x) (weight_positive x)
weight_positive (sum_from from body) = omega arith
weight_positive (prod_from from body) = omega arith

abs-sum : (x y : ℤ) → unsigned_abs (x +ℤ y) ≤ unsigned_abs x + unsigned_abs y
abs-sum x y = omega (arith, ints)

abs-opposite : (x : ℤ) → unsigned_abs (neg_ℤ x) ≡ unsigned_abs x
abs-opposite x = omega (arith, ints)

pub abs-power : (x : ℤ) (e : ℕ) → unsigned_abs (pow ℤR x e) ≡ unsigned_abs x ^ e
abs-power x zero = sym (pow-zero (unsigned_abs x))
abs-power x (suc e) = unsigned_abs-mul (pow ℤR x e) x ∙ ap (λ n. n * unsigned_abs x) (abs-power x e) ∙ sym (pow-suc (unsigned_abs x) e)

-- m b^d + n b^e, where both exponents are at most the greater
sum-bound : (u v m n P Q R : ℕ) → u ≤ m * P → v ≤ n * Q → P ≤ R → Q ≤ R → u + v ≤ (m + n) * R
sum-bound u v m n P Q R h k p q =
    let h' : m * P ≤ m * R = mul-le-mul (omega arith) p in
    let k' : n * Q ≤ n * R = mul-le-mul (omega arith) q in
    omega arith

product-shape : (m n P Q : ℕ) → (m * P) * (n * Q) ≡ (m * n) * (P * Q)
product-shape m n P Q = omega arith

times-more : (u w P : ℕ) → u ≤ w → 1 ≤ P → u ≤ w * P
times-more u w P h k = let m : w * 1 ≤ w * P = mul-le-mul (omega arith) k in omega arith

times-suc : (d e : ℕ) → d * suc e ≡ d * e + d
times-suc d e = omega arith

pow-times : (b d e : ℕ) → b ^ (d * e) ≡ (b ^ d) ^ e
pow-times b d zero = ap (λ (n : ℕ). b ^ n) (omega arith) ∙ pow-zero b ∙ sym (pow-zero (b ^ d))
pow-times b d (suc e) = ap (λ (n : ℕ). b ^ n) (times-suc d e) ∙ pow-add b (d * e) d ∙ ap (λ (n : ℕ). n * b ^ d) (pow-times b d e) ∙ sym (pow-suc (b ^ d) e)

module _ (b : ℕ) (some : 1 ≤ b) where
  pub value-light : (t : Tree) (k : ℤ) → unsigned_abs k ≤ b → IsPolynomial t → unsigned_abs (whole_at t k) ≤ weight t * b ^ (degrees t).variable
  value-light (numeral c) k h p = times-more (unsigned_abs c) (max 1 (unsigned_abs c)) (b ^ 0) (omega arith) (one-le-pow 0 b some)
  value-light here k h p = let e : b ^ 1 ≡ b ^ 0 * b = pow-suc b 0 in let f : b ^ 0 ≡ 1 = pow-zero b in rw (e, f) (omega arith)
  value-light param k h p = absurd p
  value-light (add x y) k h p =
      let s : unsigned_abs (whole_at x k +ℤ whole_at y k) ≤ unsigned_abs (whole_at x k) + unsigned_abs (whole_at y k) = abs-sum (whole_at x k) (whole_at y k) in
      let t : unsigned_abs (whole_at x k) + unsigned_abs (whole_at y k) ≤ (weight x + weight y) * b ^ max (degrees x).variable (degrees y).variable =
      sum-bound (unsigned_abs (whole_at x k)) (unsigned_abs (whole_at y k)) (weight x) (weight y) (b ^ (degrees x).variable) (b ^
      (degrees y).variable) (b ^ max (degrees x).variable (degrees y).variable)
      (value-light x k h p.0) (value-light y k h p.1) (pow-le-pow_right some (omega arith)) (pow-le-pow_right some (omega arith)) in
      omega arith
  value-light (neg x) k h p = let e : unsigned_abs (neg_ℤ (whole_at x k)) ≡ unsigned_abs (whole_at x k) = abs-opposite
      (whole_at x k) in let i : unsigned_abs (whole_at x k) ≤ weight x * b ^ (degrees x).variable = value-light x k h p in omega arith
  value-light (mul x y) k h p =
      let e : unsigned_abs (whole_at x k *ℤ whole_at y k) ≡ unsigned_abs (whole_at x k) * unsigned_abs (whole_at y k) = unsigned_abs-mul
      (whole_at x k) (whole_at y k) in
      let f : unsigned_abs (whole_at x k) * unsigned_abs (whole_at y k) ≤ (weight x * b ^ (degrees x).variable) * (weight y * b ^
      (degrees y).variable) = mul-le-mul (value-light x k h p.0) (value-light y k h p.1) in
      let g : (weight x * b ^ (degrees x).variable) * (weight y * b ^ (degrees y).variable) ≡ (weight x * weight y) * (b ^
      (degrees x).variable * b ^ (degrees y).variable) =
      product-shape (weight x) (weight y) (b ^ (degrees x).variable) (b ^ (degrees y).variable) in
      let i : b ^ ((degrees x).variable + (degrees y).variable) ≡ b ^ (degrees x).variable * b ^ (degrees y).variable = pow-add b
      (degrees x).variable (degrees y).variable in
      rw (i, e) (omega (arith, f, g))
  value-light (div x y) k h p = absurd p
  value-light (power x e) k h p =
      let f : unsigned_abs (pow ℤR (whole_at x k) e) ≡ unsigned_abs (whole_at x k) ^ e = abs-power (whole_at x k) e in
      let g : unsigned_abs (whole_at x k) ^ e ≤ (weight x * b ^ (degrees x).variable) ^ e = pow-le-pow_left (value-light x k h p) e in
      let i : (weight x * b ^ (degrees x).variable) ^ e ≡ weight x ^ e * (b ^ (degrees x).variable) ^ e = mul-pow (weight x) (b ^ (degrees x).variable) e in
      let j : b ^ ((degrees x).variable * e) ≡ (b ^ (degrees x).variable) ^ e = pow-times b (degrees x).variable e in
      rw (f, j) (omega (arith, g, i))
  value-light (sum_from from body) k h p = absurd p
  value-light (prod_from from body) k h p = absurd p

-- at whole numbers of size at most 5
pub value-small : (t : Tree) (k : ℤ) → unsigned_abs k ≤ 5 → IsPolynomial t → (degrees t).variable ≤ 4 → weight t ≤ 65536
    → unsigned_abs (whole_at t k) ≤ 67108864
value-small t k h p d w =
    let l : unsigned_abs (whole_at t k) ≤ weight t * 5 ^ (degrees t).variable = value-light 5 (omega arith) t k h p in
    let m : 5 ^ (degrees t).variable ≤ 5 ^ 4 = pow-le-pow_right (omega arith) d in
    let n : weight t * 5 ^ (degrees t).variable ≤ 65536 * 5 ^ 4 = mul-le-mul w m in
    small (unsigned_abs (whole_at t k)) (weight t * 5 ^ (degrees t).variable) l n
  where
    small : (u v : ℕ) → u ≤ v → v ≤ 65536 * 5 ^ 4 → u ≤ 67108864
    small u v h k = omega arith

-- the powers of the base of such a power, up to the exponent
pub power-small : (x : Tree) (e i : ℕ) (k : ℤ) → unsigned_abs k ≤ 5 → IsPolynomial x → (degrees x).variable * e ≤ 4 → weight x ^ e ≤ 65536 → i ≤ e
    → unsigned_abs (pow ℤR (whole_at x k) i) ≤ 67108864
power-small x e i k h p d w l =
    let a : unsigned_abs (pow ℤR (whole_at x k) i) ≡ unsigned_abs (whole_at x k) ^ i = abs-power (whole_at x k) i in
    let b : unsigned_abs (whole_at x k) ^ i ≤ (weight x * 5 ^ (degrees x).variable) ^ i = pow-le-pow_left (value-light 5 (omega arith) x k h p) i in
    let c : (weight x * 5 ^ (degrees x).variable) ^ i ≤ (weight x * 5 ^ (degrees x).variable) ^ e = pow-le-pow_right (one-le-mul (weight_positive x)
    (one-le-pow (degrees x).variable 5 (omega arith))) l in
    let f : (weight x * 5 ^ (degrees x).variable) ^ e ≡ weight x ^ e * (5 ^ (degrees x).variable) ^ e = mul-pow (weight x) (5 ^ (degrees x).variable) e in
    let g : 5 ^ ((degrees x).variable * e) ≡ (5 ^ (degrees x).variable) ^ e = pow-times 5 (degrees x).variable e in
    let m : 5 ^ ((degrees x).variable * e) ≤ 5 ^ 4 = pow-le-pow_right (omega arith) d in
    let n : weight x ^ e * 5 ^ ((degrees x).variable * e) ≤ 65536 * 5 ^ 4 = mul-le-mul w m in
    small (unsigned_abs (pow ℤR (whole_at x k) i)) (unsigned_abs (whole_at x k) ^ i) ((weight x * 5 ^ (degrees x).variable) ^ i) ((weight x * 5 ^
    (degrees x).variable) ^ e) (weight x ^ e * (5 ^ (degrees x).variable) ^ e)
    a b c f (subst (λ (n : ℕ). weight x ^ e * n ≤ 65536 * 5 ^ 4) g n)
  where
    small : (u v w t s : ℕ) → u ≡ v → v ≤ w → w ≤ t → t ≡ s → s ≤ 65536 * 5 ^ 4 → u ≤ 67108864
    small u v w t s a b c d e = omega arith

-- ---- The parts of what is plain are plain

pub plain-add : (x y : Tree) → IsPlain (add x y) → IsPlain x × IsPlain y
plain-add x y p =
    let d : max (degrees x).variable (degrees y).variable ≤ 4 = p.1 in
    let w : weight x + weight y ≤ 65536 = p.2 in
    ((p.0.0, omega (arith, d), omega (arith, w)), (p.0.1, omega (arith, d), omega (arith, w)))

factor-bound : (m n b : ℕ) → 1 ≤ n → m * n ≤ b → m ≤ b
factor-bound m n b h k = grind arith

pub plain-mul : (x y : Tree) → IsPlain (mul x y) → IsPlain x × IsPlain y
plain-mul x y p =
    let d : (degrees x).variable + (degrees y).variable ≤ 4 = p.1 in
    let w : weight x * weight y ≤ 65536 = p.2 in (
      (p.0.0, omega (arith, d), factor-bound (weight x) (weight y) 65536 (weight_positive y) w),
      (p.0.1, omega (arith, d), factor-bound (weight y) (weight x) 65536 (weight_positive x) (omega (arith, w))),
    )

-- of a power only where the base has a part in it
pub plain-power : (x : Tree) (e : ℕ) → ¬ (e ≡ 0) → IsPlain (power x e) → IsPlain x
plain-power x zero n p = absurd (n refl)
plain-power x (suc e) n p =
    let m : weight x ^ suc e ≡ weight x * weight x ^ e = pow-succ' (weight x) e in
    let w : weight x ^ suc e ≤ 65536 = p.2 in (
      p.0,
      factor-bound (degrees x).variable (suc e) 4 (omega arith) p.1,
      factor-bound (weight x) (weight x ^ e) 65536 (one-le-pow e (weight x) (weight_positive x)) (omega (arith, m, w)),
    )

-- ---- So all that is computed is small

pub small-value : (t : Tree) (k v : ℤ) → IsPlain t → unsigned_abs k ≤ 5 → v ≡ whole_at t k → unsigned_abs v ≤ 67108864
small-value t k v p h e = subst (λ z. unsigned_abs z ≤ 67108864) (sym e) (value-small t k h p.0 p.1 p.2)

pub small-powers : (x : Tree) (e : ℕ) (k v : ℤ) → IsPlain (power x e) → unsigned_abs k ≤ 5 → v ≡ whole_at x k → (i : ℕ) → i ≤ e
    → unsigned_abs (pow ℤR v i) ≤ 67108864
small-powers x e k v p h f = λ i j. subst (λ z. unsigned_abs (pow ℤR z i) ≤ 67108864) (sym f) (power-small x e i k h p.0 p.1 p.2 j)

-- ---- Powers by squarings

half-twice : (n : ℕ) → n % 2 ≡ 0 → n / 2 + n / 2 ≡ n
half-twice n e = omega (arith, e)

half-odd : (n : ℕ) → ¬ (n % 2 ≡ 0) → suc (n / 2 + n / 2) ≡ n
half-odd n e = omega (arith, e)

pub power-twice : (v h : ℤ) (n : ℕ) → h ≡ pow ℤR v (n / 2) → h *ℤ h ≡ pow ℤR v (n / 2 + n / 2)
power-twice v h n k = ap₂ ◌*ℤ◌ k k ∙ sym (ring_pow-add ℤR v (n / 2) (n / 2))

pub power-even : (v h : ℤ) (n : ℕ) → n % 2 ≡ 0 → h ≡ pow ℤR v (n / 2) → h *ℤ h ≡ pow ℤR v n
power-even v h n e k = power-twice v h n k ∙ ap (pow ℤR v) (half-twice n e)

pub power-odd : (v h : ℤ) (n : ℕ) → ¬ (n % 2 ≡ 0) → h ≡ pow ℤR v (n / 2) → (h *ℤ h) *ℤ v ≡ pow ℤR v n
power-odd v h n e k = ap (λ z. z *ℤ v) (power-twice v h n k) ∙ ap (pow ℤR v) (half-odd n e)

pub base-small : (v : ℤ) (n : ℕ) → ¬ (n ≡ 0) → ((i : ℕ) → i ≤ n → unsigned_abs (pow ℤR v i) ≤ 67108864) → unsigned_abs v ≤ 67108864
base-small v n h all = subst (λ z. unsigned_abs z ≤ 67108864) (first v) (all 1 (omega arith))
  where
    first : (v : ℤ) → pow ℤR v 1 ≡ v
    first v = ring ℤR (v ∷ []) (search readsℤ depth 16) refl
