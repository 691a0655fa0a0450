-- The shift of a reduced fraction is reduced.
--   list_coprime     coprime polynomials are coprime as lists of coefficients
--   moved_reduced    at k + m
use Rattle.std.proofs.Common.{◌≡◌, ℕ, zero, suc, ◌<◌, refl, sym, ◌∙◌, ap, ap₂, List, [], ◌∷◌, arith}
use Rattle.sg_algebra.specs.Coefficients.{poly_mul}
use Rattle.sg_algebra.proofs.Solver.{ring, reads}
use Rattle.sg_algebra.proofs.Divides.{identity}
use Rattle.sg_algebra.proofs.Coprime.{Coprime, coprime_unit, coprime_on}
use Rattle.sg_algebra.proofs.Euclid.{Bezout, coprime_of_unit}
use Rattle.sg_algebra.proofs.Division.{bezoutPoly}
use Rattle.sg_algebra.proofs.PolynomialLowest.{unit_constant}
use Rattle.sg_algebra.proofs.Shift.{moved, movedH, twist-top, twist-past}
use Rattle.sg_algebra.proofs.Value.{Value, zero_value, one_value, inv_value}
use Rattle.sg_algebra.proofs.ValueField.{ValueR, ValueF, ValueD, value_mul-inv}
use Rattle.sg_algebra.proofs.Polynomial.{Polynomial, PolynomialR, ListR, poly, poly_cong, poly_same, poly-add, poly-mul, same_list, listed, polynomial_set, polynomial_one_ne, coefficient, constant, zero_polynomial, one_polynomial, ◌+ᵖ◌, ◌*ᵖ◌}
use Rattle.sg_poly.specs.Divisors.{◌∣ᵖ◌, IsMonic}
use Rattle.sg_poly.proofs.Dividers.{constants}
use Rattle.sg_ratfun.specs.Reduced.{IsReduced}
use Rattle.sg_ratfun.proofs.Monics.{monic_cong}
use Rattle.sg_ratfun.proofs.Coprimes.{Prime}

module _ {d : ℕ} where
  only_constant : (g c : List (Value d)) → one_polynomial ≡ poly g *ᵖ poly c → poly g ≡ constant (coefficient g 0)
  only_constant g c e = poly_same g (coefficient g 0 ∷ []) go
    where
      past : (i : ℕ) → 0 < i → coefficient g i ≡ zero_value
      past = unit_constant (ValueD d) g c (same_list (poly_mul (ValueR d) g c) (one_value ∷ []) (poly-mul g c ∙ sym e))

      go : (i : ℕ) → coefficient g i ≡ coefficient (coefficient g 0 ∷ []) i
      go zero = refl
      go (suc i) = past (suc i) (omega arith)

  constant_of : (g : List (Value d)) (c : Polynomial d) → one_polynomial ≡ poly g *ᵖ c → poly g ≡ constant (coefficient g 0)
  constant_of g = listed (λ c. one_polynomial ≡ poly g *ᵖ c → poly g ≡ constant (coefficient g 0)) (λ c. hlevel (polynomial_set d)) (only_constant g)

  no_constant : (x : Value d) → x ≡ zero_value → constant x ≡ zero_polynomial
  no_constant x e = poly_same (x ∷ []) [] go
    where
      go : (i : ℕ) → coefficient (x ∷ []) i ≡ coefficient [] i
      go zero = e
      go (suc i) = refl

  nothing_times : (c : Polynomial d) → zero_polynomial *ᵖ c ≡ zero_polynomial
  nothing_times c = ring (PolynomialR d) (c ∷ []) (search reads depth 12) refl

  pub list_coprime : (p q : List (Value d)) → Prime (poly p) (poly q) → Coprime (ListR d) p q
  list_coprime p q k = coprime_of_unit (ListR d) p q b (record { cofactor = inv_value lead ∷ []; is = same_list (one_value ∷ []) (poly_mul (ValueR d) b.g (inv_value lead ∷ [])) whole })
    where
      b : Bezout (ListR d) p q
      b = bezoutPoly (ValueF d) p q

      unit : (poly b.g) ∣ᵖ one_polynomial
      unit = coprime_unit (PolynomialR d) (poly p) (poly q) (poly b.g)
          (record { cofactor = poly b.s; is = poly_cong ((ListR d).symm b.of_a) ∙ poly-mul b.g b.s }) (record { cofactor = poly b.t; is = poly_cong ((ListR d).symm b.of_b) ∙ poly-mul b.g b.t }) k

      lead : Value d
      lead = coefficient b.g 0

      is_constant : poly b.g ≡ constant lead
      is_constant = constant_of b.g unit.cofactor unit.is

      some : ¬ (lead ≡ zero_value)
      some z = polynomial_one_ne (unit.is ∙ ap (λ x. x *ᵖ unit.cofactor) (is_constant ∙ no_constant lead z) ∙ nothing_times unit.cofactor)

      whole : one_polynomial ≡ poly (poly_mul (ValueR d) b.g (inv_value lead ∷ []))
      whole = sym (poly-mul b.g (inv_value lead ∷ []) ∙ ap (λ x. x *ᵖ constant (inv_value lead)) is_constant ∙ constants lead (inv_value lead) (value_mul-inv d lead some))

  list_prime : (p q : List (Value d)) → Coprime (ListR d) p q → Prime (poly p) (poly q)
  list_prime p q c = record {
    u = poly c.u;
    w = poly c.w;
    comb = sym (poly-add (poly_mul (ValueR d) c.u p) (poly_mul (ValueR d) c.w q) ∙ ap₂ ◌+ᵖ◌ (poly-mul c.u p) (poly-mul c.w q)) ∙ poly_cong c.comb;
  }

  moved_monic : (β : Value d) (q : List (Value d)) → IsMonic q → IsMonic (moved (ValueR d) β q)
  moved_monic β q m = (m.0, record { top = twist-top (ValueR d) (identity (ValueR d)) β m.0 q m.1.ends ∙ m.1.top; ends = twist-past (ValueR d) (identity (ValueR d)) β m.0 q m.1.ends })

  pub moved_reduced : (β : Value d) (p q n m : List (Value d)) → IsReduced p q → poly n ≡ poly (moved (ValueR d) β p) → poly m ≡ poly (moved (ValueR d) β q) → IsReduced n m
  moved_reduced β p q n m r e h = record {
    coprime = rw (e, h) (list_prime (moved (ValueR d) β p) (moved (ValueR d) β q) (coprime_on (ListR d) (ListR d) (movedH (ValueR d) β) p q (list_coprime p q r.coprime)));
    monic = monic_cong (moved (ValueR d) β q) m (sym h) (moved_monic β q r.monic);
  }

  pub same_reduced : (p q n m : List (Value d)) → IsReduced p q → poly n ≡ poly p → poly m ≡ poly q → IsReduced n m
  same_reduced p q n m r e h = record { coprime = rw (e, h) r.coprime; monic = monic_cong q m (sym h) r.monic }
