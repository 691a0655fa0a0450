-- Coefficients in another unit, step by step.
--   power_first, power_more    a number times powers, one factor more each time
--   unit_row                   the coefficients in another unit
use Rattle.std.proofs.Common.{◌≡◌, ℕ, zero, suc, ◌+◌, ◌-◌, refl, sym, ◌∙◌, ap, List, [], ◌∷◌, map, length, arith}
use Rattle.sg_algebra.proofs.Ring.{pow}
use Rattle.sg_algebra.proofs.Solver.{ring, by, scale, reads}
use Rattle.sg_algebra.proofs.Value.{Value, ◌*ᵛ◌, one_value}
use Rattle.sg_algebra.proofs.ValueField.{ValueR}
use Rattle.sg_algebra.proofs.Lists.{length_map}
use Rattle.sg_algebra.proofs.Rows.{Builds, builds_poly}
use Rattle.sg_algebra.proofs.Polynomial.{poly, coefficient}
use Rattle.sg_num.specs.Value.{number}
use Rattle.sg_num.specs.Scaled.{scaled}
use Rattle.sg_num.specs.declared.rat.Rat.{Rat}

pub power_more : (x t c r : Value 0) (n : ℕ) → t ≡ x *ᵛ pow (ValueR 0) c n → r ≡ t *ᵛ c → r ≡ x *ᵛ pow (ValueR 0) c (n + 1)
power_more x t c r n h s = rw (one_more n) (s ∙ by (ValueR 0) (x ∷ t ∷ c ∷ pow (ValueR 0) c n ∷ []) (scale (ValueR 0) c h) (search reads depth 16) refl)
  where
    one_more : (n : ℕ) → n + 1 ≡ suc n
    one_more n = omega arith

pub power_first : (x : Value 0) → x ≡ x *ᵛ one_value
power_first x = ring (ValueR 0) (x ∷ []) (search reads depth 12) refl

scaled_at : (c : Value 0) (p : List (Value 0)) (i : ℕ) → coefficient (scaled (ValueR 0) c p) i ≡ coefficient p i *ᵛ pow (ValueR 0) c (length p - 1 - i)
scaled_at c [] i = ring (ValueR 0) (pow (ValueR 0) c (0 - 1 - i) ∷ []) (search reads depth 16) refl
scaled_at c (x ∷ p) zero = ap (λ n. x *ᵛ pow (ValueR 0) c n) (size p)
  where
    size : (p : List (Value 0)) → length p ≡ length (x ∷ p) - 1 - 0
    size p = omega arith
scaled_at c (x ∷ p) (suc i) = scaled_at c p i ∙ ap (λ n. coefficient p i *ᵛ pow (ValueR 0) c n) (size p i)
  where
    size : (p : List (Value 0)) (i : ℕ) → length p - 1 - i ≡ length (x ∷ p) - 1 - suc i
    size p i = omega arith

scaled_length : (c : Value 0) (p : List (Value 0)) → length (scaled (ValueR 0) c p) ≡ length p
scaled_length c [] = refl
scaled_length c (x ∷ p) = ap suc (scaled_length c p)

module _ (c : Value 0) (list : List Rat) (row : List Rat) where
  pub unit_row : (n : ℕ) → n ≡ length list → Builds number (λ i. coefficient (map number list) i *ᵛ pow (ValueR 0) c (length list - 1 - i)) n row → poly (map number row) ≡ poly (scaled (ValueR 0) c (map number list))
  unit_row n same given =
      let b : Builds number (λ i. coefficient (map number list) i *ᵛ pow (ValueR 0) c (length list - 1 - i)) (length list) row = rw same at given in
      builds_poly number (length list) row (scaled (ValueR 0) c (map number list))
      (record { size = b.size; built = λ k h. b.built k h ∙ at k })
      (let e : length (scaled (ValueR 0) c (map number list)) ≡ length list = scaled_length c (map number list) ∙ length_map number list in omega arith)
    where
      at : (k : ℕ) → coefficient (map number list) k *ᵛ pow (ValueR 0) c (length list - 1 - k) ≡ coefficient (scaled (ValueR 0) c (map number list)) k
      at k = ap (λ n. coefficient (map number list) k *ᵛ pow (ValueR 0) c (n - 1 - k)) (sym (length_map number list)) ∙ sym (scaled_at c (map number list) k)
