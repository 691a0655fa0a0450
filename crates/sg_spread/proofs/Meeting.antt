-- Where two polynomials meet, from a monic common divisor; and where they don't.
--   constant_divisor          what divides a constant other than 0 is a constant
--   meets_by                  a monic common divisor of a(k) and b(k + m) with more than one coefficient: a and b meet at m
--   meets_not                 a and b don't meet where the greatest common divisor is monic with at most one coefficient
--   meets_apart               where a and b meet, a' and b' aren't coprime: a' has the divisors of a, and b' is a multiple of b
--   meets_left_constant, meets_right_constant    a constant other than 0 meets nothing
use Rattle.std.proofs.Common.{◌≡◌, ℕ, zero, suc, ◌≤◌, ◌<◌, refl, sym, ◌∙◌, List, [], ◌∷◌, length, ℤ, arith}
use Rattle.sg_algebra.specs.Coefficients.{poly_mul}
use Rattle.sg_algebra.proofs.Divides.{Divides, dvd_same, dvd_trans, dvd-scale}
use Rattle.sg_algebra.proofs.Coprime.{Coprime, coprime_unit}
use Rattle.sg_algebra.proofs.PolynomialRing.{PolyR}
use Rattle.sg_algebra.proofs.PolynomialLowest.{unit_constant}
use Rattle.sg_algebra.proofs.Evaluation.{compose-constant}
use Rattle.sg_algebra.proofs.Shift.{moved, moved_cong, movedH}
use Rattle.sg_algebra.proofs.Value.{Value, ◌*ᵛ◌, inv_value, zero_value, one_value}
use Rattle.sg_algebra.proofs.ValueField.{ValueR, ValueD, value_one_ne, value_mul-inv, value_add-zero}
use Rattle.sg_algebra.proofs.Rational.{whole_value}
use Rattle.sg_algebra.proofs.Polynomial.{Polynomial, PolynomialR, poly, constant, coefficient, EndsNonzero, zero_polynomial, one_polynomial, poly_same, poly_cong, same_poly, same_list, poly-mul, ◌*ᵖ◌}
use Rattle.sg_algebra.proofs.Rows.{at_past}
use Rattle.sg_poly.specs.Divisors.{◌∣ᵖ◌, IsMonic, IsGcd}
use Rattle.sg_dispersion_theory.proofs.Listed.{list_of, poly-list_of, poly_dvd}
use Rattle.sg_dispersion_theory.proofs.ValueCertificate.{monic_length}
use Rattle.sg_spread.specs.Shifts.{Meets}

-- ---- Constants

-- a polynomial without coefficients past the first is a constant
first_alone : {d : ℕ} (p : List (Value d)) → ((i : ℕ) → 0 < i → coefficient p i ≡ zero_value) → poly p ≡ constant (coefficient p 0)
first_alone {d} p h = poly_same p (coefficient p 0 ∷ []) at
  where
    at : (n : ℕ) → coefficient p n ≡ coefficient (coefficient p 0 ∷ []) n
    at zero = refl
    at (suc n) = h (suc n) (omega arith)

short : {d : ℕ} (p : List (Value d)) → length p ≤ 1 → poly p ≡ constant (coefficient p 0)
short p l = first_alone p (λ i g. at_past p i (omega arith))

constant_zero : {d : ℕ} (x : Value d) → x ≡ zero_value → constant x ≡ zero_polynomial
constant_zero {d} x h = poly_same (x ∷ []) [] none
  where
    none : (n : ℕ) → coefficient (x ∷ []) n ≡ coefficient {d = d} [] n
    none zero = h
    none (suc n) = refl

-- a short polynomial other than 0 has a first coefficient other than 0
first_ne : {d : ℕ} (p : List (Value d)) → length p ≤ 1 → ¬ (poly p ≡ zero_polynomial) → ¬ (coefficient p 0 ≡ zero_value)
first_ne p l h z = h (short p l ∙ constant_zero (coefficient p 0) z)

constant_unit : {d : ℕ} (x : Value d) → ¬ (x ≡ zero_value) → one_polynomial ≡ constant x *ᵖ constant (inv_value x)
constant_unit {d} x h = poly_same (one_value ∷ []) (poly_mul (ValueR d) (x ∷ []) (inv_value x ∷ [])) at ∙ poly-mul (x ∷ []) (inv_value x ∷ [])
  where
    at : (n : ℕ) → coefficient (one_value ∷ []) n ≡ coefficient (poly_mul (ValueR d) (x ∷ []) (inv_value x ∷ [])) n
    at zero = sym (value_add-zero d (x *ᵛ inv_value x) ∙ value_mul-inv d x h)
    at (suc n) = refl

module _ {d : ℕ} where
  unit_alone : (c : Polynomial d) → c ∣ᵖ one_polynomial → (y : Value d) × (c ≡ constant y)
  unit_alone c h =
      let p = list_of c in
      let k : Divides (PolyR (ValueR d)) p (one_value ∷ []) = poly_dvd p (one_value ∷ []) (dvd_same (PolynomialR d) c one_polynomial (poly p) one_polynomial (sym (poly-list_of c)) refl h) in
      (coefficient p 0, sym (poly-list_of c) ∙ first_alone p (unit_constant (ValueD d) p k.cofactor ((PolyR (ValueR d)).symm k.is)))

  pub constant_divisor : (c : Polynomial d) (x : Value d) → ¬ (x ≡ zero_value) → c ∣ᵖ constant x → (y : Value d) × (c ≡ constant y)
  constant_divisor c x n h = unit_alone c (dvd_trans (PolynomialR d) c (constant x) one_polynomial h (record { cofactor = constant (inv_value x); is = constant_unit x n }))

  -- ---- Where they meet

  module _ (a b : List (Value d)) (m : ℤ) where
    pub meets_by : (g : List (Value d)) → IsMonic g → 1 < length g → EndsNonzero g → poly g ∣ᵖ poly a → poly g ∣ᵖ poly (moved (ValueR d) (whole_value d m) b) → Meets a b m
    meets_by g q l e of_a of_b = record { common = poly g; left = of_a; right = of_b; positive = no_constant (q.0) (monic_length q.0 g q.1 e) q.1.top }
      where
        no_constant : (n : ℕ) → length g ≡ suc n → coefficient g n ≡ one_value → (c : Value d) → ¬ (poly g ≡ constant c)
        no_constant zero s t c h = absurd (omega arith)
        no_constant (suc n) s t c h = value_one_ne d (sym t ∙ same_poly g (c ∷ []) h (suc n))

    -- the common divisor divides no constant other than 0
    no_divisor : (k : Meets a b m) (x : Value d) → ¬ (x ≡ zero_value) → k.common ∣ᵖ constant x → ⊥
    no_divisor k x n h = let y = constant_divisor k.common x n h in k.positive y.0 y.1

    -- nor a short polynomial other than 0
    no_short : (k : Meets a b m) (p q : List (Value d)) → poly q ≡ poly p → ¬ (poly p ≡ zero_polynomial) → length p ≤ 1 → k.common ∣ᵖ poly q → ⊥
    no_short k p q e n l h = no_divisor k (coefficient p 0) (first_ne p l n)
        (dvd_same (PolynomialR d) k.common (poly q) k.common (constant (coefficient p 0)) refl (e ∙ short p l) h)

    pub meets_not : (g : List (Value d)) → Meets a b m → IsMonic g → length g ≤ 1 → IsGcd (poly g) (poly a) (poly (moved (ValueR d) (whole_value d m) b)) → ⊥
    meets_not g k q l h = no_short k g g refl (λ z. value_one_ne d (sym q.1.top ∙ same_poly g [] z q.0)) l (h.greatest k.common k.left k.right)

    pub meets_left_constant : ¬ (poly a ≡ zero_polynomial) → length a ≤ 1 → Meets a b m → ⊥
    meets_left_constant n l k = no_short k a a refl n l k.left

    pub meets_right_constant : ¬ (poly b ≡ zero_polynomial) → length b ≤ 1 → Meets a b m → ⊥
    meets_right_constant n l k = no_short k b (moved (ValueR d) (whole_value d m) b) still n l k.right
      where
        still : poly (moved (ValueR d) (whole_value d m) b) ≡ poly b
        still =
            poly_cong (moved_cong (ValueR d) (whole_value d m) (whole_value d m) b (coefficient b 0 ∷ []) refl (same_list b (coefficient b 0 ∷ []) (short b l)))
            ∙ poly_cong (compose-constant (ValueR d) (coefficient b 0) (whole_value d m ∷ one_value ∷ []))
            ∙ sym (short b l)

    pub meets_multiples : (a' b' : List (Value d)) (t : Value d) → ((c : Polynomial d) → c ∣ᵖ poly a → c ∣ᵖ poly a') → poly b' ≡ constant t *ᵖ poly b → Meets a b m → Meets a' b' m
    meets_multiples a' b' t over_a e k = record { common = k.common; left = over_a k.common k.left; right = of_b'; positive = k.positive }
      where
        multiple : poly (moved (ValueR d) (whole_value d m) b') ≡ poly (moved (ValueR d) (whole_value d m) (t ∷ [])) *ᵖ poly (moved (ValueR d) (whole_value d m) b)
        multiple =
            poly_cong (moved_cong (ValueR d) (whole_value d m) (whole_value d m) b' (poly_mul (ValueR d) (t ∷ []) b) refl (same_list b' (poly_mul (ValueR d) (t ∷ []) b) (e ∙ sym (poly-mul (t ∷ []) b))))
            ∙ poly_cong ((movedH (ValueR d) (whole_value d m)).on-mul (t ∷ []) b)
            ∙ poly-mul (moved (ValueR d) (whole_value d m) (t ∷ [])) (moved (ValueR d) (whole_value d m) b)

        of_b' : k.common ∣ᵖ poly (moved (ValueR d) (whole_value d m) b')
        of_b' = dvd_same (PolynomialR d) k.common _ k.common (poly (moved (ValueR d) (whole_value d m) b')) refl (sym multiple)
            (dvd-scale (PolynomialR d) k.common (poly (moved (ValueR d) (whole_value d m) (t ∷ []))) (poly (moved (ValueR d) (whole_value d m) b)) k.right)

    pub meets_apart : (a' b' : List (Value d)) (t : Value d) → ((c : Polynomial d) → c ∣ᵖ poly a → c ∣ᵖ poly a') → poly b' ≡ constant t *ᵖ poly b → Meets a b m
        → ¬ Coprime (PolynomialR d) (poly a') (poly (moved (ValueR d) (whole_value d m) b'))
    unfolding meets_multiples
    meets_apart a' b' t over_a e k apart =
        let n = meets_multiples a' b' t over_a e k in
        no_divisor k one_value (value_one_ne d) (coprime_unit (PolynomialR d) (poly a') (poly (moved (ValueR d) (whole_value d m) b')) n.common n.left n.right apart)
