-- The sizes of a polynomial's coefficients add up to its weight at most.
--   size_of_tree            at most the weight
use Rattle.std.proofs.Common.{◌≡◌, ℕ, zero, suc, ◌+◌, ◌*◌, ◌^◌, ◌≤◌, refl, List, [], ◌∷◌, map, ℤ, pos, neg_ℤ, ◌+ℤ◌, ◌*ℤ◌, unsigned_abs, arith}
use Rattle.std.proofs.lemmas.Int.{ints, unsigned_abs-mul}
use Rattle.std.proofs.lemmas.Nat.{mul-le}
use Rattle.std.proofs.Math.Nat.{pow-zero, pow-succ'}
use Rattle.sg_algebra.specs.Coefficients.{zip_longest, conv}
use Rattle.sg_spec.specs.Tree.{Tree, numeral, here, param, add, neg, mul, div, power, sum_from, prod_from}
use Rattle.sg_spec.specs.Polynomials.{weight}
use Rattle.sg_parts.specs.Planes.{total, row_size, plane_size}
use Rattle.sg_spec.specs.Parts.{Plane, plane_add, plane_mul, plane_neg, plane_power, coefficients}

module _ {C : Type 0} (size : C → ℕ) where
  size-zip : (f : C → C → C) → ((a b : C) → size (f a b) ≤ size a + size b) → (p q : List C) → total size (zip_longest f p q) ≤ total size p + total size q
  size-zip f h [] q = omega arith
  size-zip f h (a ∷ p) [] = omega arith
  size-zip f h (a ∷ p) (b ∷ q) = let here = h a b in let rest = size-zip f h p q in omega (arith, here, rest)

  size-each : (g : C → C) (m : ℕ) → ((a : C) → size (g a) ≤ m * size a) → (p : List C) → total size (map g p) ≤ m * total size p
  size-each g m h [] = omega arith
  size-each g m h (a ∷ p) =
      let here = h a in let rest = size-each g m h p in
      let e : m * (size a + total size p) ≡ m * size a + m * total size p = grind arith in
      rw e (omega (arith, here, rest))

  size-conv : (f g : C → C → C) (z : C) → ((a b : C) → size (f a b) ≤ size a + size b) → ((a b : C) → size (g a b) ≤ size a * size b) → size z ≡ 0
      → (p q : List C) → total size (conv f g z p q) ≤ total size p * total size q
  size-conv f g z hf hg hz [] q = omega arith
  size-conv f g z hf hg hz (a ∷ p) q =
      let both = size-zip f hf (map (g a) q) (z ∷ conv f g z p q) in
      let left = size-each (g a) (size a) (hg a) q in
      let rest = size-conv f g z hf hg hz p q in
      let e : (size a + total size p) * total size q ≡ size a * total size q + total size p * total size q = grind arith in
      rw e (omega (arith, both, left, rest, hz))

add_size : (a b : ℤ) → unsigned_abs (a +ℤ b) ≤ unsigned_abs a + unsigned_abs b
add_size a b = omega (arith, ints)

mul_size : (a b : ℤ) → unsigned_abs (a *ℤ b) ≤ unsigned_abs a * unsigned_abs b
mul_size a b = let e = unsigned_abs-mul a b in rw e (omega arith)

row-add : (p q : List ℤ) → row_size (zip_longest ◌+ℤ◌ p q) ≤ row_size p + row_size q
row-add p q = size-zip unsigned_abs ◌+ℤ◌ add_size p q

row-mul : (p q : List ℤ) → row_size (conv ◌+ℤ◌ ◌*ℤ◌ (pos 0) p q) ≤ row_size p * row_size q
row-mul p q = size-conv unsigned_abs ◌+ℤ◌ ◌*ℤ◌ (pos 0) add_size mul_size refl p q

row-neg : (p : List ℤ) → row_size (map neg_ℤ p) ≡ row_size p
row-neg [] = refl
row-neg (c ∷ p) = let rest = row-neg p in let e : unsigned_abs (neg_ℤ c) ≡ unsigned_abs c = omega (arith, ints) in omega (arith, rest, e)

plane-neg : (p : Plane) → plane_size (plane_neg p) ≡ plane_size p
plane-neg [] = refl
plane-neg (row ∷ p) = let rest = plane-neg p in let e = row-neg row in omega (arith, rest, e)

pub plane-add : (p q : Plane) → plane_size (plane_add p q) ≤ plane_size p + plane_size q
plane-add p q = size-zip row_size (zip_longest ◌+ℤ◌) row-add p q

pub plane-mul : (p q : Plane) → plane_size (plane_mul p q) ≤ plane_size p * plane_size q
plane-mul p q = size-conv row_size (zip_longest ◌+ℤ◌) (conv ◌+ℤ◌ ◌*ℤ◌ (pos 0)) [] row-add row-mul refl p q

le-mul : (a b c d : ℕ) → a ≤ b → c ≤ d → a * c ≤ b * d
le-mul a b c d h k = mul-le a c b d h k

pub plane-power : (p : Plane) (w e : ℕ) → plane_size p ≤ w → plane_size (plane_power p e) ≤ w ^ e
plane-power p w zero h = let e : w ^ 0 ≡ 1 = pow-zero w in rw e (omega arith)
plane-power p w (suc e) h =
    let product = plane-mul p (plane_power p e) in
    let bound : plane_size p * plane_size (plane_power p e) ≤ w * w ^ e = le-mul (plane_size p) w (plane_size (plane_power p e)) (w ^ e) h (plane-power p w e h) in
    let s : w ^ suc e ≡ w * w ^ e = pow-succ' w e in
    rw s (omega (arith, product, bound))

pub size_of_tree : (t : Tree) → plane_size (coefficients t) ≤ weight t
size_of_tree (numeral c) = omega arith
size_of_tree here = omega arith
size_of_tree param = omega arith
size_of_tree (add x y) = let l = size_of_tree x in let r = size_of_tree y in let s = plane-add (coefficients x) (coefficients y) in omega (arith, l, r, s)
size_of_tree (neg x) = let l = size_of_tree x in let s = plane-neg (coefficients x) in omega (arith, l, s)
size_of_tree (mul x y) =
    let s = plane-mul (coefficients x) (coefficients y) in
    let bound = le-mul (plane_size (coefficients x)) (weight x) (plane_size (coefficients y)) (weight y) (size_of_tree x) (size_of_tree y) in
    omega (arith, s, bound)
size_of_tree (div x y) = omega arith
size_of_tree (power x e) = plane-power (coefficients x) (weight x) e (size_of_tree x)
size_of_tree (sum_from from body) = omega arith
size_of_tree (prod_from from body) = omega arith
