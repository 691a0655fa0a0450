-- Degrees in partial fractions: n/(u v) = a/u + b/v, where n is below the degree of u v and a below that of u; then b is below that of v.
--   product_below         the degree of a product
--   proper_rest           the degree of b
use Rattle.std.proofs.Common.{ℕ, suc, ◌+◌, ◌≤◌, ◌<◌, refl, List, [], ◌∷◌, ◌⊎◌, inl, inr, arith}
use Rattle.sg_algebra.specs.Ring.{Field}
use Rattle.sg_algebra.proofs.Ring.{O_mul}
use Rattle.sg_algebra.proofs.Solver.{by, reads}
use Rattle.sg_algebra.proofs.Field.{domain}
use Rattle.sg_algebra.proofs.PolynomialRing.{PolyR}
use Rattle.sg_algebra.proofs.Degree.{Below, Degree, below_same, below-add, below-neg, below_up, below_degree, degree_below, degree_or_zero, degree-mul}

module _ (F : Field) where
  open F use {R, is_zero}
  open R use {A, ◌≈◌, O, rfl}
  open PolyR R use {◌≈◌ as ◌≋◌, ◌⊞◌ as ◌⊕◌, ◌⊠◌ as ◌⊗◌, ⊟ as ⊖, symm, trans, mul_cong}

  below_nothing : (m : ℕ) → Below R m []
  below_nothing m = record { none_from = λ n l. rfl }

  pub product_below : (n m : ℕ) (a v : List A) → Degree R m v → Below R n a → Below R (n + m) (a ⊗ v)
  product_below n m a v g h = go (degree_or_zero R is_zero a)
    where
      go : (a ≋ []) ⊎ ((k : ℕ) × Degree R k a) → Below R (n + m) (a ⊗ v)
      go (inl z) = below_same R (n + m) [] (a ⊗ v) (symm (trans (mul_cong {u = v} {v = v} z (PolyR R).rfl) (O_mul (PolyR R) {x = v}))) (below_nothing (n + m))
      go (inr k) = below_up R (suc (k.0 + m)) (n + m) (a ⊗ v) (room k.0 (degree_below R n k.0 a k.1 h)) (below_degree R (k.0 + m) (a ⊗ v) (degree-mul (domain F) k.0 m a v k.1 g))
        where
          room : (k : ℕ) → k < n → suc (k + m) ≤ n + m
          room k l = omega (arith, l)

  pub proper_rest : (n m : ℕ) (u v p a b : List A) → Degree R n u → Degree R m v → p ≋ a ⊗ v ⊕ b ⊗ u → Below R (n + m) p → Below R n a → Below R m b
  proper_rest n m u v p a b gu gv e hp ha = go (degree_or_zero R is_zero b)
    where
      rest : Below R (n + m) (b ⊗ u)
      rest = below_same R (n + m) (p ⊕ ⊖ (a ⊗ v)) (b ⊗ u) (by (PolyR R) (p ∷ a ∷ v ∷ b ∷ u ∷ []) e (search reads depth 16) refl)
          (below-add R (n + m) p (⊖ (a ⊗ v)) hp (below-neg R (n + m) (a ⊗ v) (product_below n m a v gv ha)))

      side : (k : ℕ) → (k < m) ⊎ (m ≤ k)
      side k = grind arith

      go : (b ≋ []) ⊎ ((k : ℕ) × Degree R k b) → Below R m b
      go (inl z) = below_same R m [] b (symm z) (below_nothing m)
      go (inr k) = at (side k.0)
        where
          clash : k.0 + n < n + m → m ≤ k.0 → ⊥
          clash l q = omega (arith, l, q)

          at : (k.0 < m) ⊎ (m ≤ k.0) → Below R m b
          at (inl l) = below_up R (suc k.0) m b l (below_degree R k.0 b k.1)
          at (inr l) = absurd (clash (degree_below R (n + m) (k.0 + n) (b ⊗ u) (degree-mul (domain F) k.0 n b u k.1 gu) rest) l)
