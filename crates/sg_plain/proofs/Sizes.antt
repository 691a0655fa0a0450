-- Sizes of products.
--   product-size     the size of a product of a number of size at most m
--   dot-more         one more weighted value
--   each-opposites   opposites of small numbers are small
use Rattle.std.proofs.Common.{◌≡◌, ◌≤◌, ◌+◌, ◌*◌, ◌^◌, ℕ, suc, ℤ, ◌*ℤ◌, neg_ℤ, unsigned_abs, List, [], ◌∷◌, map, sym, subst, arith}
use Rattle.std.proofs.Math.Nat.{mul-le-mul, pow-suc, pow-le-pow_right, one-le-pow}
use Rattle.std.proofs.lemmas.Int.{ints, unsigned_abs-mul}
use Rattle.sg_algebra.specs.Coefficients.{Each}
use Rattle.sg_canonical.specs.Whole.{IsSmall}

pub product-size : (a b : ℤ) (m n : ℕ) → unsigned_abs a ≤ m → unsigned_abs b ≤ n → unsigned_abs (a *ℤ b) ≤ m * n
product-size a b m n h k = subst (λ (t : ℕ). t ≤ m * n) (sym (unsigned_abs-mul a b)) (mul-le-mul h k)

pub dot-more : (r p d l m n : ℕ) → r ≤ p + d → p ≤ n → d ≤ l * n → m ≡ suc l → r ≤ m * n
dot-more r p d l m n h k i e = let f : suc l * n ≡ n + l * n = omega arith in subst (λ (t : ℕ). r ≤ t * n) (sym e) (omega (arith, f))

-- Horner's rule
pub power-66 : (l : ℕ) → l ≤ 4 → 2305843009213693952 * 66 ^ l ≤ 316912650057057350374175801344
power-66 l h = let m : 66 ^ l ≤ 66 ^ 4 = pow-le-pow_right (omega arith) h in omega (arith, m)

pub horner-term : (x v : ℤ) (l : ℕ) → unsigned_abs x ≤ 65 → unsigned_abs v ≤ 2305843009213693952 * 66 ^ l
    → unsigned_abs (x *ℤ v) ≤ 65 * (2305843009213693952 * 66 ^ l)
horner-term x v l h k = product-size x v 65 (2305843009213693952 * 66 ^ l) h k

pub horner-more : (r c p l m : ℕ) → r ≤ c + p → c ≤ 2305843009213693952 → p ≤ 65 * (2305843009213693952 * 66 ^ l) → m ≡ suc l → r ≤ 2305843009213693952 * 66 ^ m
horner-more r c p l m h i j e =
    let f : 66 ^ suc l ≡ 66 ^ l * 66 = pow-suc 66 l in
    let g : 1 ≤ 66 ^ l = one-le-pow l 66 (omega arith) in
    subst (λ (t : ℕ). r ≤ 2305843009213693952 * 66 ^ t) (sym e) (omega (arith, f, g, h, i, j))

pub power-66-five : (l : ℕ) → l ≤ 5 → 2305843009213693952 * 66 ^ l ≤ 316912650057057350374175801344
power-66-five l h = let m : 66 ^ l ≤ 66 ^ 5 = pow-le-pow_right (omega arith) h in omega (arith, m)

pub power-66-all : (l : ℕ) → l ≤ 5 → 65 * (2305843009213693952 * 66 ^ l) ≤ 1267650600228229401496703205376
power-66-all l h = let m : 66 ^ l ≤ 66 ^ 5 = pow-le-pow_right (omega arith) h in omega (arith, m)

pub opposite-size : (a : ℤ) → unsigned_abs a ≤ 1267650600228229401496703205376 → unsigned_abs (neg_ℤ a) ≤ 1267650600228229401496703205376
opposite-size a h = omega (arith, ints)

pub each-opposites : (cs : List ℤ) → Each IsSmall cs → Each IsSmall (map neg_ℤ cs)
each-opposites [] all = tt
each-opposites (c ∷ cs) all = (opposite-size c all.0, each-opposites cs all.1)
