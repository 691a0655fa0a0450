-- Sums of rational functions moved along a g(k+1) - g(k), for a constant a.
--   Share d               numerators `uppers` over one denominator `lower`, one for each of several functions
--   sum_at c ss           the combination with the constants c of the numerators over the denominators, summed
--   difference a g        a g(k+1) - g(k)
--   Reduced a fs ps ss moved     with all constants c, the combination of fs is that of the polynomials ps, and of ss, and the difference of that of moved
--   move_forward, move_back, split, merge, drop    steps that keep it
--   solution_to, solution_from   solutions for fs are those for ps and ss, with the combination of moved added
use Rattle.std.proofs.Common.{◌≡◌, ℕ, suc, refl, sym, ◌∙◌, ap, List, [], ◌∷◌}
use Rattle.sg_algebra.proofs.Solver.{ring, by, scale, reads}
use Rattle.sg_algebra.proofs.Divides.{on-neg}
use Rattle.sg_algebra.proofs.Value.{Value, zero_value, neg_value, ◌+ᵛ◌, ◌-ᵛ◌, ◌*ᵛ◌, ◌/ᵛ◌}
use Rattle.sg_algebra.proofs.ValueField.{ValueR, value_quotient, value_product}
use Rattle.sg_algebra.proofs.Embedding.{constant_value}
use Rattle.sg_algebra.proofs.Polynomial.{Polynomial, constant, zero_polynomial}
use Rattle.sg_first_order_theory.proofs.Next.{next, next-constant}
use Rattle.sg_algebra.proofs.ShiftValue.{shift_value, shift_valueH, shift_value-add, shift_value-mul}
use Rattle.sg_first_order_theory.proofs.ValueFractions.{whole, whole-poly, whole-next}
use Rattle.sg_first_order_theory.proofs.Weighted.{weighted}
use Rattle.sg_first_order_theory.specs.Solutions.{weighted_value, Solves}
use Rattle.sg_first_order_theory.proofs.FirstOrder.{whole_ne}

pub record Share (d : ℕ) : Type 0 where
  pub uppers : List (Polynomial d)
  pub lower : Polynomial d

module _ {d : ℕ} where
  abbrev pub sum_at : (ℕ → Value d) → List (Share d) → Value (suc d)
  sum_at c [] = zero_value
  sum_at c (s ∷ ss) = whole (weighted c s.uppers) /ᵛ whole s.lower +ᵛ sum_at c ss

  abbrev pub difference : Value d → Value (suc d) → Value (suc d)
  difference a g = constant_value d a *ᵛ shift_value d g -ᵛ g

  pub record Reduced (a : Value d) (fs : List (Value (suc d))) (ps : List (Polynomial d)) (ss moved : List (Share d)) : Type 0 where
    pub is : (c : ℕ → Value d) → weighted_value c fs ≡ whole (weighted c ps) +ᵛ sum_at c ss +ᵛ difference a (sum_at c moved)

  pub whole-constant : (c : Value d) → whole (constant c) ≡ constant_value d c
  whole-constant c = whole-poly (c ∷ [])

  pub next_constant_value : (c : Value d) → shift_value d (constant_value d c) ≡ constant_value d c
  next_constant_value c = ap (shift_value d) (sym (whole-constant c)) ∙ whole-next (constant c) ∙ ap whole (next-constant c) ∙ whole-constant c

  pub difference-add : (a : Value d) (x y : Value (suc d)) → difference a (x +ᵛ y) ≡ difference a x +ᵛ difference a y
  difference-add a x y = by (ValueR (suc d)) (constant_value d a ∷ x ∷ y ∷ shift_value d x ∷ shift_value d y ∷ shift_value d (x +ᵛ y) ∷ []) (scale (ValueR (suc d)) (constant_value d a) (shift_value-add d x y)) (search reads depth 20 fits 4000) refl

  pub next-neg : (x : Value (suc d)) → shift_value d (neg_value x) ≡ neg_value (shift_value d x)
  next-neg x = on-neg (ValueR (suc d)) (ValueR (suc d)) (shift_valueH d) x

  -- ---- Solutions

  solve_shift : (a f e u nu g ng n : Value (suc d)) → f ≡ e +ᵛ (a *ᵛ nu -ᵛ u) → a *ᵛ ng -ᵛ g ≡ f → n +ᵛ nu ≡ ng → a *ᵛ n -ᵛ (g -ᵛ u) ≡ e
  solve_shift a f e u nu g ng n h k l = by (ValueR (suc d)) (a ∷ f ∷ e ∷ u ∷ nu ∷ g ∷ ng ∷ n ∷ []) ((ValueR (suc d)).add_cong h ((ValueR (suc d)).add_cong k (scale (ValueR (suc d)) a l))) (search reads depth 20 fits 4000) refl

  pub solution_to : (a : Value d) (fs : List (Value (suc d))) (ps : List (Polynomial d)) (ss moved : List (Share d)) → Reduced a fs ps ss moved → (c : ℕ → Value d) (g : Value (suc d)) → Solves (constant_value d a) fs c g
      → difference a (g -ᵛ sum_at c moved) ≡ whole (weighted c ps) +ᵛ sum_at c ss
  solution_to a fs ps ss moved r c g h = solve_shift (constant_value d a) (weighted_value c fs) (whole (weighted c ps) +ᵛ sum_at c ss) u (shift_value d u) g (shift_value d g) (shift_value d (g -ᵛ u)) (r.is c) h
      (sym (shift_value-add d (g -ᵛ u) u) ∙ ap (shift_value d) (ring (ValueR (suc d)) (g ∷ u ∷ []) (search reads depth 16) refl))
    where
      u : Value (suc d)
      u = sum_at c moved

  pub solution_from : (a : Value d) (fs : List (Value (suc d))) (ps : List (Polynomial d)) (ss moved : List (Share d)) → Reduced a fs ps ss moved → (c : ℕ → Value d) (y : Value (suc d)) → difference a y ≡ whole (weighted c ps) +ᵛ sum_at c ss
      → Solves (constant_value d a) fs c (y +ᵛ sum_at c moved)
  solution_from a fs ps ss moved r c y h = difference-add a y (sum_at c moved) ∙ ap (λ z. z +ᵛ difference a (sum_at c moved)) h ∙ sym (r.is c)

  -- ---- Steps

  pub next_quotient : (n w : Polynomial d) → ¬ (w ≡ zero_polynomial) → ¬ (next w ≡ zero_polynomial) → shift_value d (whole n /ᵛ whole w) ≡ whole (next n) /ᵛ whole (next w)
  next_quotient n w h k = value_quotient (whole (next n)) (whole (next w)) (shift_value d (whole n /ᵛ whole w)) (whole_ne d (next w) k)
      (ap (λ z. shift_value d (whole n /ᵛ whole w) *ᵛ z) (sym (whole-next w)) ∙ sym (shift_value-mul d (whole n /ᵛ whole w) (whole w)) ∙ ap (shift_value d) (value_product (whole n) (whole w) (whole_ne d w h)) ∙ whole-next n)
