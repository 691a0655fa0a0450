-- Simple polynomials, and the derivative.
--   opposite_is         0 - a is the opposite of a
--   linear_row          the coefficients of k - a
--   linear_some         k - a isn't 0
--   zero_more           one zero more at the end
--   monomial_row        zeros, and then one coefficient
--   derivative_at, derivative_built     the coefficients of the derivative, and the row of them
use Rattle.std.proofs.Common.{◌≡◌, ℕ, zero, suc, ◌+◌, ◌-◌, ◌<◌, ◌≤◌, refl, sym, ◌∙◌, ap, List, [], ◌∷◌, ◌++◌, map, length, replicate, arith}
use Rattle.sg_algebra.proofs.Ring.{nat}
use Rattle.sg_algebra.proofs.Solver.{ring, reads}
use Rattle.sg_algebra.proofs.Value.{Value, zero_value, one_value, neg_value, ◌-ᵛ◌, ◌*ᵛ◌}
use Rattle.sg_algebra.proofs.ValueField.{ValueR, mul_zero_value, value_one_ne}
use Rattle.sg_algebra.proofs.Derivative.{derivative, coef-derivative}
use Rattle.sg_algebra.proofs.Polynomial.{poly, poly_same, same_poly, coefficient, zero_polynomial}
use Rattle.sg_algebra.proofs.Rows.{Builds, builds_all, past_row}

module _ {d : ℕ} where
  pub opposite_is : (a x : Value d) → x ≡ zero_value -ᵛ a → x ≡ neg_value a
  opposite_is a x e = e ∙ ring (ValueR d) (a ∷ []) (search reads depth 12) refl

  -- the polynomial k - a isn't 0
  pub linear_some : (a : Value d) → ¬ (poly (a ∷ one_value ∷ []) ≡ zero_polynomial)
  linear_some a e = value_one_ne d (same_poly (a ∷ one_value ∷ []) [] e 1)

module _ {K : Type 0} {d : ℕ} (v : K → Value d) where
  pub linear_row : (none one two : List K) (x y : K) (a : Value d) → none ≡ [] → one ≡ none ++ x ∷ [] → two ≡ one ++ y ∷ [] → v x ≡ zero_value -ᵛ a → v y ≡ one_value → poly (map v two) ≡ poly (neg_value a ∷ one_value ∷ [])
  linear_row none one two x y a e f g h k = rw (g, f, e, opposite_is a (v x) h, k) refl

  pub constant_row : (none one : List K) (x : K) → none ≡ [] → one ≡ none ++ x ∷ [] → poly (map v one) ≡ poly (v x ∷ [])
  constant_row none one x e f = rw (f, e) refl

  map-push : (l : List K) (x : K) → map v (l ++ x ∷ []) ≡ map v l ++ v x ∷ []
  map-push [] x = refl
  map-push (y ∷ l) x = ap (λ r. v y ∷ r) (map-push l x)

  zeros-push : (n : ℕ) → replicate n (zero_value {d = d}) ++ zero_value ∷ [] ≡ replicate (suc n) zero_value
  zeros-push zero = refl
  zeros-push (suc n) = ap (λ r. zero_value ∷ r) (zeros-push n)

  pub zero_more : (old new : List K) (x : K) (n : ℕ) → map v old ≡ replicate n zero_value → new ≡ old ++ x ∷ [] → v x ≡ zero_value → map v new ≡ replicate (n + 1) zero_value
  zero_more old new x n h e z =
      let s : n + 1 ≡ suc n = omega arith in
      rw s (ap (map v) e ∙ map-push old x ∙ ap (λ r. r ++ v x ∷ []) h ∙ ap (λ y. replicate n zero_value ++ y ∷ []) z ∙ zeros-push n)

  pub monomial_row : (old new : List K) (x : K) (n : ℕ) → map v old ≡ replicate n zero_value → new ≡ old ++ x ∷ [] → poly (map v new) ≡ poly (replicate n zero_value ++ v x ∷ [])
  monomial_row old new x n h e = ap poly (ap (map v) e ∙ map-push old x ∙ ap (λ r. r ++ v x ∷ []) h)

  pub derivative_at : (p : List K) (i j : ℕ) (r x : Value d) → j ≡ suc i → x ≡ coefficient (map v p) j → r ≡ nat (ValueR d) j *ᵛ x → r ≡ coefficient (derivative (ValueR d) (map v p)) i
  derivative_at p i j r x e f h =
      let g : r ≡ nat (ValueR d) (suc i) *ᵛ coefficient (map v p) (suc i) = rw e at (h ∙ ap (λ y. nat (ValueR d) j *ᵛ y) f) in
      g ∙ sym (coef-derivative (ValueR d) (map v p) i)

  pub derivative_built : (p xs : List K) (n : ℕ) → Builds v (λ k. coefficient (derivative (ValueR d) (map v p)) k) n xs → length p ≤ n + 1 → poly (map v xs) ≡ poly (derivative (ValueR d) (map v p))
  derivative_built p xs n b l = poly_same (map v xs) (derivative (ValueR d) (map v p)) (builds_all v (λ k. coefficient (derivative (ValueR d) (map v p)) k) n xs b
      (λ k h. coef-derivative (ValueR d) (map v p) k ∙ ap (λ y. nat (ValueR d) (suc k) *ᵛ y) (past_row v p (suc k) (omega arith)) ∙ mul_zero_value (nat (ValueR d) (suc k))))
