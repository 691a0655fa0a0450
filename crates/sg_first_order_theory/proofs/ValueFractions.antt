-- The values of depth d + 1 as the fractions of the polynomials over the values of depth d.
--   whole x            a polynomial as a value; `whole-poly`: of a list of coefficients
--   wholeH             a map of rings; whole_same: equal values come from equal polynomials
--   value_fractions    each value is a fraction of polynomials in lowest terms
use Rattle.std.proofs.Common.{◌≡◌, ℕ, suc, refl, sym, ◌∙◌, ap, ap₂, List, [], ◌∷◌, pos}
use Rattle.sg_algebra.specs.Ring.{Hom}
use Rattle.sg_algebra.specs.Coefficients.{zip_longest, poly_mul}
use Rattle.sg_algebra.proofs.Divides.{on-O, on-neg}
use Rattle.sg_algebra.proofs.Ring.{mul_O}
use Rattle.sg_algebra.proofs.Solver.{by, scale, reads}
use Rattle.sg_algebra.proofs.Euclid.{Bezout, coprime_parts_of}
use Rattle.sg_algebra.proofs.Degree.{PolyD}
use Rattle.sg_algebra.proofs.Division.{bezoutPoly}
use Rattle.sg_algebra.proofs.Shift.{moved}
use Rattle.sg_algebra.proofs.Value.{Value, one_value, zero_value, ◌+ᵛ◌, ◌*ᵛ◌}
use Rattle.sg_algebra.proofs.ValueField.{ValueR, ValueF, ValueD, value_product}
use Rattle.sg_algebra.proofs.OverValue.{over_value_same}
use Rattle.sg_algebra.proofs.Rational.{whole_value}
use Rattle.sg_algebra.proofs.Embedding.{polynomial_value, polynomial_value_cong, polynomial_value_same, polynomial_value-add, polynomial_value-mul, polynomial_value-one, polynomial_value-zero, over_value-quotient}
use Rattle.sg_algebra.proofs.Polynomial.{Polynomial, PolynomialR, PolynomialD, ListR, poly, poly_cong, same_list, poly-add, poly-mul, zero_polynomial, one_polynomial, ◌+ᵖ◌, ◌*ᵖ◌}
use Rattle.sg_dispersion_theory.proofs.Listed.{list_of, poly-list_of, coprime_poly}
use Rattle.sg_first_order_theory.proofs.Next.{next, nextH, moved-iter_next}
use Rattle.sg_first_order_theory.proofs.Parts.{upper, lower, parts_are, lower_ne, shift_polynomial_value}
use Rattle.sg_algebra.proofs.ShiftValue.{shift_value, shift_valueH}
use Rattle.sg_first_order_theory.proofs.Fractions.{Fractions}

module _ {d : ℕ} where
  unfoldable pub whole : Polynomial d → Value (suc d)
  whole x = polynomial_value d (list_of x)

  pub whole-poly : (p : List (Value d)) → whole (poly p) ≡ polynomial_value d p
  unfolding whole
  whole-poly p = polynomial_value_cong d (list_of (poly p)) p (same_list (list_of (poly p)) p (poly-list_of (poly p)))

  pub whole_same : (x y : Polynomial d) → whole x ≡ whole y → x ≡ y
  unfolding whole
  whole_same x y e = sym (poly-list_of x) ∙ poly_cong (polynomial_value_same d (list_of x) (list_of y) e) ∙ poly-list_of y

  pub whole-add : (x y : Polynomial d) → whole (x +ᵖ y) ≡ whole x +ᵛ whole y
  unfolding whole
  whole-add x y = ap whole (sym (poly-add (list_of x) (list_of y) ∙ ap₂ ◌+ᵖ◌ (poly-list_of x) (poly-list_of y))) ∙ whole-poly (zip_longest ◌+ᵛ◌ (list_of x) (list_of y)) ∙ polynomial_value-add d (list_of x) (list_of y)

  pub whole-mul : (x y : Polynomial d) → whole (x *ᵖ y) ≡ whole x *ᵛ whole y
  unfolding whole
  whole-mul x y = ap whole (sym (poly-mul (list_of x) (list_of y) ∙ ap₂ ◌*ᵖ◌ (poly-list_of x) (poly-list_of y))) ∙ whole-poly (poly_mul (ValueR d) (list_of x) (list_of y)) ∙ polynomial_value-mul d (list_of x) (list_of y)

  pub whole-one : whole one_polynomial ≡ one_value
  whole-one = whole-poly (one_value ∷ []) ∙ polynomial_value-one d

  pub whole-next : (x : Polynomial d) → shift_value d (whole x) ≡ whole (next x)
  unfolding whole
  whole-next x = shift_polynomial_value d (list_of x) ∙ sym (whole-poly (moved (ValueR d) (whole_value d (pos 1)) (list_of x))) ∙ ap whole (moved-iter_next 1 (list_of x) ∙ ap next (poly-list_of x))

abbrev pub wholeH : (d : ℕ) → Hom (PolynomialR d) (ValueR (suc d))
wholeH d = record { on = whole; on_cong = λ x y. ap whole; on-add = whole-add; on-mul = whole-mul; on-one = whole-one }

module _ (d : ℕ) where
  abbrev pub whole-zero : whole (zero_polynomial {d = d}) ≡ zero_value
  whole-zero = on-O (PolynomialR d) (ValueR (suc d)) (wholeH d)

  pub bez : (g : Value (suc d)) → Bezout (ListR d) (upper g) (lower g)
  bez g = bezoutPoly (ValueF d) (upper g) (lower g)

  abbrev pub numerator : Value (suc d) → Polynomial d
  numerator g = poly (bez g).s

  abbrev pub denominator : Value (suc d) → Polynomial d
  denominator g = poly (bez g).t

  pub below_ne : (g : Value (suc d)) → ¬ ((ListR d).◌≈◌ (bez g).t [])
  below_ne g z = lower_ne g ((ListR d).trans ((ListR d).symm (bez g).of_b) ((ListR d).trans ((ListR d).mul_cong {x = (bez g).g} {y = (bez g).g} (ListR d).rfl z) (mul_O (ListR d) {x = (bez g).g})))

  pub denominator_ne : (g : Value (suc d)) → ¬ (denominator g ≡ zero_polynomial)
  denominator_ne g e = below_ne g (same_list (bez g).t [] e)

  cross : (u l g s t : List (Value d)) → (ListR d).◌≈◌ ((ListR d).◌⊠◌ g s) u → (ListR d).◌≈◌ ((ListR d).◌⊠◌ g t) l → (ListR d).◌≈◌ ((ListR d).◌⊠◌ s l) ((ListR d).◌⊠◌ u t)
  cross u l g s t h k = by (ListR d) (u ∷ l ∷ g ∷ s ∷ t ∷ []) ((ListR d).add_cong (scale (ListR d) t h) (scale (ListR d) ((ListR d).⊟ s) k)) (search reads depth 20 fits 4000) refl

  pub parts_value : (g : Value (suc d)) → g *ᵛ whole (denominator g) ≡ whole (numerator g)
  parts_value g =
      ap₂ ◌*ᵛ◌ (sym (over_value_same d (bez g).s (bez g).t (upper g) (lower g) (below_ne g) (lower_ne g) (cross (upper g) (lower g) (bez g).g (bez g).s (bez g).t (bez g).of_a (bez g).of_b) ∙ parts_are g) ∙ over_value-quotient d (bez g).s (bez g).t (below_ne g)) (whole-poly (bez g).t)
      ∙ value_product (polynomial_value d (bez g).s) (polynomial_value d (bez g).t) (λ z. below_ne g (polynomial_value_same d (bez g).t [] (z ∙ sym (polynomial_value-zero d)))) ∙ sym (whole-poly (bez g).s)

  abbrev pub value_fractions : Fractions (PolynomialD d) (nextH d) (ValueF (suc d))
  value_fractions = record {
    ι = whole;
    ι_cong = λ x y. ap whole;
    ι_same = whole_same;
    ι-add = whole-add;
    ι-mul = whole-mul;
    ι-neg = on-neg (PolynomialR d) (ValueR (suc d)) (wholeH d);
    ι-one = whole-one;
    ι-zero = whole-zero;
    τ = shift_valueH d;
    ι-on = whole-next;
    p = numerator;
    q = denominator;
    q_ne = denominator_ne;
    lowest = λ g. coprime_poly (bez g).s (bez g).t (coprime_parts_of (PolyD (ValueD d)) (upper g) (lower g) (bez g) (lower_ne g));
    parts = parts_value;
  }
