-- The equation a(k) g(k+1) - g(k) = c_0 f_0(k) + c_1 f_1(k) + .. over the values of depth d + 1, and the equation of polynomials that it is reduced to.
--   left a b y             a y(k+1) - b y, of polynomials
--   IsReduced a fs a' b' q xs     each solution g is y / q for a polynomial y with left a' b' y = c_0 x_0 + .., and each such y gives one
--   reduced_first          from a common denominator b, a reduction of the equation, and the right sides as polynomials
use Rattle.std.proofs.Common.{◌≡◌, ℕ, suc, refl, sym, ◌∙◌, List, [], ◌∷◌}
use Rattle.sg_algebra.proofs.Solver.{by, scale, reads}
use Rattle.sg_algebra.proofs.Field.{field_cancel}
use Rattle.sg_algebra.proofs.Divides.{Divides, iter}
use Rattle.sg_algebra.proofs.Coprime.{Coprime}
use Rattle.sg_algebra.proofs.Value.{Value, zero_value, ◌+ᵛ◌, ◌-ᵛ◌, ◌*ᵛ◌, ◌/ᵛ◌, neg_value}
use Rattle.sg_algebra.proofs.ValueField.{ValueR, ValueF, value_product, value_mul_comm}
use Rattle.sg_algebra.proofs.Polynomial.{Polynomial, PolynomialR, PolynomialD, zero_polynomial, one_polynomial, ◌-ᵖ◌, ◌*ᵖ◌}
use Rattle.sg_first_order_theory.proofs.Reduction.{Reduction}
use Rattle.sg_first_order_theory.proofs.Fractions.{reduced_to, reduced_from, solves_cong, solution_sides, whole_part, solves_below, solves_above, Solves as SolvesIn}
use Rattle.sg_first_order_theory.proofs.Next.{next, nextH, unit_denominator}
use Rattle.sg_algebra.proofs.ShiftValue.{shift_value}
use Rattle.sg_first_order_theory.proofs.ValueFractions.{whole, whole_same, whole-mul, whole-zero, value_fractions, numerator, denominator, denominator_ne}
use Rattle.sg_first_order_theory.specs.Solutions.{weighted_value, Solves}
use Rattle.sg_first_order_theory.proofs.Weighted.{weighted, Cleared, cleared-weighted}

module _ {d : ℕ} where
  abbrev pub left : Polynomial d → Polynomial d → Polynomial d → Polynomial d
  left a b y = a *ᵖ next y -ᵖ b *ᵖ y

  pub record Whole (q a' b' : Polynomial d) (xs : List (Polynomial d)) (c : ℕ → Value d) (g : Value (suc d)) : Type 0 where
    pub y : Polynomial d
    pub is : whole q *ᵛ g ≡ whole y
    pub solves : left a' b' y ≡ weighted c xs

  pub record IsReduced (a : Value (suc d)) (fs : List (Value (suc d))) (a' b' q : Polynomial d) (xs : List (Polynomial d)) : Type 0 where
    pub some : ¬ (q ≡ zero_polynomial)
    pub sound : (c : ℕ → Value d) (y : Polynomial d) → left a' b' y ≡ weighted c xs → Solves a fs c (whole y /ᵛ whole q)
    pub complete : (c : ℕ → Value d) (g : Value (suc d)) → Solves a fs c g → Whole q a' b' xs c g

module _ (d : ℕ) where
  abbrev S : Value (suc d) → Value (suc d) → Value (suc d)
  S x y = x +ᵛ y

  pub whole_ne : (x : Polynomial d) → ¬ (x ≡ zero_polynomial) → ¬ (whole x ≡ zero_value)
  whole_ne x h z = h (whole_same x zero_polynomial (z ∙ sym (whole-zero d)))

  cross_to : (a b n g w p : Value (suc d)) → b *ᵛ a ≡ p → a *ᵛ n -ᵛ g ≡ w → p *ᵛ n +ᵛ neg_value (b *ᵛ g) ≡ b *ᵛ w
  cross_to a b n g w p h k = by (ValueR (suc d)) (a ∷ b ∷ n ∷ g ∷ w ∷ p ∷ []) ((ValueR (suc d)).add_cong (scale (ValueR (suc d)) b k) (scale (ValueR (suc d)) (neg_value n) h)) (search reads depth 20 fits 4000) refl

  cross_from : (a b n g w p : Value (suc d)) → ¬ (b ≡ zero_value) → b *ᵛ a ≡ p → p *ᵛ n +ᵛ neg_value (b *ᵛ g) ≡ b *ᵛ w → a *ᵛ n -ᵛ g ≡ w
  cross_from a b n g w p ne h k = field_cancel (ValueF (suc d)) {c = b} ne (by (ValueR (suc d)) (a ∷ b ∷ n ∷ g ∷ w ∷ p ∷ []) ((ValueR (suc d)).add_cong k (scale (ValueR (suc d)) n h)) (search reads depth 20 fits 4000) refl)

  module _ (a : Value (suc d)) (fs : List (Value (suc d))) (A B A' B' Q M : Polynomial d) (xs : List (Polynomial d))
      (some : ¬ (B ≡ zero_polynomial)) (over : whole B *ᵛ a ≡ whole A) (red : Reduction (PolynomialD d) (nextH d) A B A' B' Q M)
      (cleared : Cleared (M *ᵖ B) fs xs) where
    sides_are : (c : ℕ → Value d) → whole M *ᵛ (whole B *ᵛ weighted_value c fs) ≡ whole (weighted c xs)
    sides_are c = by (ValueR (suc d)) (whole M ∷ whole B ∷ weighted_value c fs ∷ whole (M *ᵖ B) ∷ whole (weighted c xs) ∷ [])
        ((ValueR (suc d)).add_cong (cleared-weighted (M *ᵖ B) c fs xs cleared) (scale (ValueR (suc d)) (neg_value (weighted_value c fs)) (whole-mul M B))) (search reads depth 20 fits 4000) refl

    back : (c : ℕ → Value d) (y : Polynomial d) → left A' B' y ≡ weighted c xs → Solves a fs c (whole y /ᵛ whole Q)
    back c y h = cross_from a (whole B) (shift_value d g) g (weighted_value c fs) (whole A) (whole_ne B some) over
        (reduced_from (PolynomialD d) (nextH d) (ValueF (suc d)) (value_fractions d) A B A' B' Q M red (whole B *ᵛ weighted_value c fs) g
        (solves_cong (PolynomialD d) (nextH d) (ValueF (suc d)) (value_fractions d) A' B' (whole (weighted c xs)) (whole M *ᵛ (whole B *ᵛ weighted_value c fs)) (whole y) (whole Q *ᵛ g)
        (sym (sides_are c)) (sym (value_mul_comm (suc d) (whole Q) g ∙ value_product (whole y) (whole Q) (whole_ne Q red.Q_ne)))
        (solves_above (PolynomialD d) (nextH d) (ValueF (suc d)) (value_fractions d) A' B' (weighted c xs) y h)))
      where
        g : Value (suc d)
        g = whole y /ᵛ whole Q

    forth : ((m : ℕ) → Coprime (PolynomialR d) A' (iter (PolynomialR d) (nextH d) (suc m) B')) → (c : ℕ → Value d) (g : Value (suc d)) → Solves a fs c g → Whole Q A' B' xs c g
    forth far c g h = made (unit_denominator A' B' (denominator d y) (denominator_ne d y) (solution_sides (PolynomialD d) (nextH d) (ValueF (suc d)) (value_fractions d) A' B' (weighted c xs) y low) far)
      where
        y : Value (suc d)
        y = whole Q *ᵛ g

        low : SolvesIn (PolynomialD d) (nextH d) (ValueF (suc d)) (value_fractions d) A' B' (whole (weighted c xs)) (whole Q *ᵛ g)
        low = solves_cong (PolynomialD d) (nextH d) (ValueF (suc d)) (value_fractions d) A' B' (whole M *ᵛ (whole B *ᵛ weighted_value c fs)) (whole (weighted c xs)) (whole Q *ᵛ g) (whole Q *ᵛ g) (sides_are c) refl
            (reduced_to (PolynomialD d) (nextH d) (ValueF (suc d)) (value_fractions d) A B A' B' Q M red (whole B *ᵛ weighted_value c fs) g (cross_to a (whole B) (shift_value d g) g (weighted_value c fs) (whole A) over h))

        made : Divides (PolynomialR d) (denominator d y) one_polynomial → Whole Q A' B' xs c g
        made u = record {
          y = numerator d y *ᵖ u.cofactor;
          is = e;
          solves = solves_below (PolynomialD d) (nextH d) (ValueF (suc d)) (value_fractions d) A' B' (weighted c xs) (numerator d y *ᵖ u.cofactor)
              (solves_cong (PolynomialD d) (nextH d) (ValueF (suc d)) (value_fractions d) A' B' (whole (weighted c xs)) (whole (weighted c xs)) (whole Q *ᵛ g) (whole (numerator d y *ᵖ u.cofactor)) refl e low);
        }
          where
            e : whole Q *ᵛ g ≡ whole (numerator d y *ᵖ u.cofactor)
            e = whole_part (PolynomialD d) (nextH d) (ValueF (suc d)) (value_fractions d) y u

    pub reduced_first : ((m : ℕ) → Coprime (PolynomialR d) A' (iter (PolynomialR d) (nextH d) (suc m) B')) → IsReduced a fs A' B' Q xs
    reduced_first far = record { some = red.Q_ne; sound = back; complete = forth far }
