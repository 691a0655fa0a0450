-- The solutions of first-order equations a(k) g(k+1) - g(k) = c_0 f_0(k) + c_1 f_1(k) + .., and what a basis of them is.
--   weighted_value c fs    c 0 f_0 + c 1 f_1 + .., with constants of depth d and values of depth d + 1
--   Solves a fs c g        the constants c and the value g solve the equation
--   Pair d                 constants, and the value of depth d + 1 that they go with; `pair` makes one
--   sum_consts m ps i      m 0 times the constant at i of the first pair, plus m 1 times that of the second, ..
--   sum_values m ps        the same of the values
--   Combination ps r c g   c (its first r constants) and g are such a sum
--   IsBasis a fs ps        each pair solves the equation, each solution is such a sum, and only the sum with all factors 0 is 0
use Rattle.std.specs.Prelude.{◌≡◌, ℕ, suc, ◌<◌, List, [], ◌∷◌, length}
use Rattle.sg_algebra.specs.Coefficients.{Each}
use Rattle.sg_algebra.proofs.Value.{Value, zero_value, ◌+ᵛ◌, ◌-ᵛ◌, ◌*ᵛ◌}
use Rattle.sg_algebra.proofs.Embedding.{constant_value}
use Rattle.sg_algebra.proofs.Polynomial.{coefficient}
use Rattle.sg_algebra.proofs.ShiftValue.{shift_value}

pub record Pair (d : ℕ) : Type 0 where
  pub consts : List (Value d)
  pub value : Value (suc d)

module _ {d : ℕ} where
  abbrev pub pair : List (Value d) → Value (suc d) → Pair d
  pair c g = record { consts = c; value = g }

  abbrev pub weighted_value : (ℕ → Value d) → List (Value (suc d)) → Value (suc d)
  weighted_value c [] = zero_value
  weighted_value c (f ∷ fs) = constant_value d (c 0) *ᵛ f +ᵛ weighted_value (λ i. c (suc i)) fs

  abbrev pub Solves : Value (suc d) → List (Value (suc d)) → (ℕ → Value d) → Value (suc d) → Type 0
  Solves a fs c g = a *ᵛ shift_value d g -ᵛ g ≡ weighted_value c fs

  abbrev pub sum_consts : (ℕ → Value d) → List (Pair d) → ℕ → Value d
  sum_consts m [] i = zero_value
  sum_consts m (p ∷ ps) i = m 0 *ᵛ coefficient p.consts i +ᵛ sum_consts (λ l. m (suc l)) ps i

  abbrev pub sum_values : (ℕ → Value d) → List (Pair d) → Value (suc d)
  sum_values m [] = zero_value
  sum_values m (p ∷ ps) = constant_value d (m 0) *ᵛ p.value +ᵛ sum_values (λ l. m (suc l)) ps

  pub record Combination (ps : List (Pair d)) (r : ℕ) (c : ℕ → Value d) (g : Value (suc d)) : Type 0 where
    pub factors : ℕ → Value d
    pub consts : (i : ℕ) → i < r → c i ≡ sum_consts factors ps i
    pub value : g ≡ sum_values factors ps

  pub record IsBasis (a : Value (suc d)) (fs : List (Value (suc d))) (ps : List (Pair d)) : Type 0 where
    pub sized : Each (λ p. length p.consts ≡ length fs) ps
    pub solves : Each (λ p. Solves a fs (coefficient p.consts) p.value) ps
    pub spans : (c : ℕ → Value d) (g : Value (suc d)) → Solves a fs c g → Combination ps (length fs) c g
    pub independent : (m : ℕ → Value d) → ((i : ℕ) → i < length fs → sum_consts m ps i ≡ zero_value) → sum_values m ps ≡ zero_value → (l : ℕ) → l < length ps → m l ≡ zero_value
