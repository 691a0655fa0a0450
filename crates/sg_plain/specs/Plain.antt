-- Plain polynomials, of written degree at most 4 and of weight at most 65,536, and what whole numbers say of them.
--   IsPlain t                it is one: built from numerals, the variable, sums, products, opposites and powers alone
--   whole_at t k             the value of a tree of numerals, the variable, sums, products, opposites and powers at a whole number
--   dot ws vs                the sum of the values, each times its weight
--   quartic_at c0 .. c4 k    c0 + c1 k + .. + c4 k^4
--   IsQuartic t c0 .. c4     the tree has these values everywhere
--   IsDifference cs ps        the polynomial with the coefficients cs is what the one with the coefficients ps grows by from k to k + 1
--   Interpolated vs c0 .. c4    24 times the coefficients are these combinations of the values at 0, 1, 2, 3 and 4
use Rattle.std.specs.Prelude.{◌≡◌, ◌≤◌, List, [], ◌∷◌, ℤ, pos, negsuc, ◌+ℤ◌, ◌*ℤ◌, neg_ℤ}
use Rattle.sg_algebra.proofs.Ring.{pow}
use Rattle.sg_algebra.proofs.Whole.{ℤR}
use Rattle.sg_spec.specs.Limits.{degrees}
use Rattle.sg_spec.specs.Polynomials.{IsPolynomial, weight}
use Rattle.sg_spec.specs.Tree.{Tree, numeral, here, param, add, neg, mul, div, power, sum_from, prod_from}

abbrev pub IsPlain : Tree → Type 0
IsPlain t = IsPolynomial t × ((degrees t).variable ≤ 4) × (weight t ≤ 65536)

abbrev pub whole_at : Tree → ℤ → ℤ
whole_at (numeral c) k = c
whole_at here k = k
whole_at param k = pos 0
whole_at (add x y) k = whole_at x k +ℤ whole_at y k
whole_at (neg x) k = neg_ℤ (whole_at x k)
whole_at (mul x y) k = whole_at x k *ℤ whole_at y k
whole_at (div x y) k = pos 0
whole_at (power x e) k = pow ℤR (whole_at x k) e
whole_at (sum_from from body) k = pos 0
whole_at (prod_from from body) k = pos 0

abbrev pub dot : List ℤ → List ℤ → ℤ
dot [] vs = pos 0
dot (w ∷ ws) [] = pos 0
dot (w ∷ ws) (v ∷ vs) = w *ℤ v +ℤ dot ws vs

abbrev pub quartic_at : ℤ → ℤ → ℤ → ℤ → ℤ → ℤ → ℤ
quartic_at a b c d e k = a +ℤ k *ℤ (b +ℤ k *ℤ (c +ℤ k *ℤ (d +ℤ k *ℤ e)))

abbrev pub IsQuartic : Tree → ℤ → ℤ → ℤ → ℤ → ℤ → Type 0
IsQuartic t a b c d e = (k : ℤ) → whole_at t k ≡ quartic_at a b c d e k

pub record Interpolated (vs : List ℤ) (a b c d e : ℤ) : Type 0 where
  pub constant : pos 24 *ℤ a ≡ dot (pos 24 ∷ pos 0 ∷ pos 0 ∷ pos 0 ∷ pos 0 ∷ []) vs
  pub linear : pos 24 *ℤ b ≡ dot (negsuc 49 ∷ pos 96 ∷ negsuc 71 ∷ pos 32 ∷ negsuc 5 ∷ []) vs
  pub square : pos 24 *ℤ c ≡ dot (pos 35 ∷ negsuc 103 ∷ pos 114 ∷ negsuc 55 ∷ pos 11 ∷ []) vs
  pub cube : pos 24 *ℤ d ≡ dot (negsuc 9 ∷ pos 36 ∷ negsuc 47 ∷ pos 28 ∷ negsuc 5 ∷ []) vs
  pub fourth : pos 24 *ℤ e ≡ dot (pos 1 ∷ negsuc 3 ∷ pos 6 ∷ negsuc 3 ∷ pos 1 ∷ []) vs

pub record IsDifference (a b c d e : ℤ) (ps : List ℤ) : Type 0 where
  pub constant : dot (pos 0 ∷ pos 1 ∷ pos 1 ∷ pos 1 ∷ pos 1 ∷ []) ps ≡ a
  pub linear : dot (pos 0 ∷ pos 0 ∷ pos 2 ∷ pos 3 ∷ pos 4 ∷ []) ps ≡ b
  pub square : dot (pos 0 ∷ pos 0 ∷ pos 0 ∷ pos 3 ∷ pos 6 ∷ []) ps ≡ c
  pub cube : dot (pos 0 ∷ pos 0 ∷ pos 0 ∷ pos 0 ∷ pos 4 ∷ []) ps ≡ d
  pub fourth : e ≡ pos 0
