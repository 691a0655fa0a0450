-- Linear equations whose matrix is small: each entry has the value 0 at the whole numbers args.
--   Small d args x       x has the value 0 at args
--   SmallList d args p   each coefficient of p has
--   small-add, small-mul, small-neg    sums, opposites of small elements are small, and their products with elements that have values
--   one_less, one_less_ne    1 - p has the value 1 for a small p, so it is not 0
--   uniform              a vector that a small matrix sends to itself is 0
use Rattle.std.proofs.Common.{◌≡◌, ℕ, zero, suc, ◌<◌, ◌⊎◌, inl, inr, refl, sym, ◌∙◌, ap, subst, List, [], ◌∷◌, ℤ, arith}
use Rattle.sg_algebra.specs.Coefficients.{coef}
use Rattle.sg_algebra.proofs.Solver.{ring, by, scale, reads}
use Rattle.sg_algebra.proofs.Sums.{sum, sum_cong, sum-add, sum-scale, sum-zero}
use Rattle.sg_algebra.proofs.Value.{Value, ◌+ᵛ◌, ◌-ᵛ◌, ◌*ᵛ◌, ◌/ᵛ◌, neg_value, zero_value, one_value}
use Rattle.sg_algebra.proofs.ValueField.{ValueR, value_one_ne, value_product, value_mul_assoc, sub_zero_value, zero_mul_value, zero_add_value, mul_zero_value}
use Rattle.sg_algebra.proofs.Place.{HasValue}
use Rattle.sg_algebra.proofs.Places.{has_zero, has_unique, has_add, has_neg, has_sub, has_mul, has_div}
use Rattle.sg_dispersion_theory.proofs.Embedded.{has_one}

module _ (d : ℕ) (args : List ℤ) where
  abbrev pub Small : Value d → Type 0
  Small x = HasValue d x args zero_value

  abbrev pub SmallList : List (Value d) → Type 0
  SmallList p = (i : ℕ) → Small (coef (ValueR d) p i)

  pub small-add : (x y : Value d) → Small x → Small y → Small (x +ᵛ y)
  small-add x y h k = subst (λ (v : Value 0). HasValue d (x +ᵛ y) args v) (zero_add_value zero_value) (has_add d args x y zero_value zero_value h k)

  pub small-mul : (x y : Value d) (v : Value 0) → Small x → HasValue d y args v → Small (x *ᵛ y)
  small-mul x y v h k = subst (λ (w : Value 0). HasValue d (x *ᵛ y) args w) (zero_mul_value v) (has_mul d args x y zero_value v h k)

  pub small-neg : (x : Value d) → Small x → Small (neg_value x)
  small-neg x h = subst (λ (w : Value 0). HasValue d (neg_value x) args w) (ring (ValueR 0) [] (search reads depth 12) refl) (has_neg d args x x zero_value zero_value h)

  pub one_less : (p : Value d) → Small p → HasValue d (one_value -ᵛ p) args one_value
  one_less p h = subst (λ (w : Value 0). HasValue d (one_value -ᵛ p) args w) (sub_zero_value one_value)
      (has_sub d args one_value p one_value zero_value (has_one d args (record { item = p; value = zero_value; has = h })) h)

  pub one_less_ne : (p : Value d) → Small p → ¬ (one_value -ᵛ p ≡ zero_value)
  one_less_ne p h z = value_one_ne 0 (has_unique d args zero_value p one_value zero_value (subst (λ (x : Value d). HasValue d x args one_value) z (one_less p h)) (has_zero d args p p zero_value zero_value h))

  -- the unknown y in y = s + p y
  solved : (y s p c : Value d) → c *ᵛ (one_value -ᵛ p) ≡ one_value → y ≡ s +ᵛ p *ᵛ y → y ≡ c *ᵛ s
  solved y s p c k h = by (ValueR d) (y ∷ s ∷ p ∷ c ∷ []) ((ValueR d).add_cong (scale (ValueR d) c h) (scale (ValueR d) (neg_value y) k)) (search reads depth 16) refl

  -- one unknown less: the last one is c s, which the other equations then have in its place
  module _ (n : ℕ) (N : ℕ → ℕ → Value d) (y : ℕ → Value d) (h : (i j : ℕ) → i < suc n → j < suc n → Small (N i j))
      (e : (i : ℕ) → i < suc n → y i ≡ sum (ValueR d) (λ j. N i j *ᵛ y j) (suc n)) where
    corner : Small (N n n)
    corner = h n n (omega arith) (omega arith)

    abbrev c : Value d
    c = one_value /ᵛ (one_value -ᵛ N n n)

    abbrev s : Value d
    s = sum (ValueR d) (λ j. N n j *ᵛ y j) n

    unknown : y n ≡ c *ᵛ s
    unknown = solved (y n) s (N n n) c (value_product one_value (one_value -ᵛ N n n) (one_less_ne (N n n) corner)) (e n (omega arith))

    abbrev M : ℕ → ℕ → Value d
    M i j = N i j +ᵛ N i n *ᵛ c *ᵛ N n j

    smaller : (i j : ℕ) → i < n → j < n → Small (M i j)
    smaller i j k l =
        small-add (N i j) (N i n *ᵛ c *ᵛ N n j) (h i j (omega arith) (omega arith))
        (small-mul (N i n *ᵛ c) (N n j) zero_value
        (small-mul (N i n) c (one_value /ᵛ one_value) (h i n (omega arith) (omega arith))
        (has_div d args one_value (one_value -ᵛ N n n) one_value one_value (has_one d args (record { item = N n n; value = zero_value; has = corner })) (one_less (N n n) corner) (value_one_ne 0)))
        (h n j (omega arith) (omega arith)))

    row : (i : ℕ) → sum (ValueR d) (λ j. M i j *ᵛ y j) n ≡ sum (ValueR d) (λ j. N i j *ᵛ y j) n +ᵛ N i n *ᵛ c *ᵛ s
    row i =
        sum_cong (ValueR d) (λ j. M i j *ᵛ y j) (λ j. N i j *ᵛ y j +ᵛ N i n *ᵛ c *ᵛ (N n j *ᵛ y j)) n (λ j l. each (N i j) (N i n *ᵛ c) (N n j) (y j))
        ∙ sum-add (ValueR d) (λ j. N i j *ᵛ y j) (λ j. N i n *ᵛ c *ᵛ (N n j *ᵛ y j)) n
        ∙ ap (λ z. sum (ValueR d) (λ j. N i j *ᵛ y j) n +ᵛ z) (sum-scale (ValueR d) (N i n *ᵛ c) (λ j. N n j *ᵛ y j) n)
      where
        each : (a b r z : Value d) → (a +ᵛ b *ᵛ r) *ᵛ z ≡ a *ᵛ z +ᵛ b *ᵛ (r *ᵛ z)
        each a b r z = ring (ValueR d) (a ∷ b ∷ r ∷ z ∷ []) (search reads depth 16) refl

    equations : (i : ℕ) → i < n → y i ≡ sum (ValueR d) (λ j. M i j *ᵛ y j) n
    equations i l = e i (omega arith) ∙ ap (λ z. sum (ValueR d) (λ j. N i j *ᵛ y j) n +ᵛ z) (ap (λ z. N i n *ᵛ z) unknown ∙ sym (value_mul_assoc d (N i n) c s)) ∙ sym (row i)

    last : ((i : ℕ) → i < n → y i ≡ zero_value) → y n ≡ zero_value
    last z = unknown ∙ ap (λ t. c *ᵛ t) (sum-zero (ValueR d) (λ j. N n j *ᵛ y j) n (λ j l. ap (λ t. N n j *ᵛ t) (z j l) ∙ mul_zero_value (N n j))) ∙ mul_zero_value c

  last_or_less : (i n : ℕ) → i < suc n → (i ≡ n) ⊎ (i < n)
  last_or_less i n l = grind arith

  pub uniform : (n : ℕ) (N : ℕ → ℕ → Value d) (y : ℕ → Value d) → ((i j : ℕ) → i < n → j < n → Small (N i j))
      → ((i : ℕ) → i < n → y i ≡ sum (ValueR d) (λ j. N i j *ᵛ y j) n) → (i : ℕ) → i < n → y i ≡ zero_value
  uniform zero N y h e i l = absurd (omega arith)
  uniform (suc n) N y h e i l =
      let before = uniform n (M n N y h e) y (smaller n N y h e) (equations n N y h e) in
      elim (last_or_less i n l) [ inl s ↦ rw s (last n N y h e before) | inr k ↦ before i k ]
