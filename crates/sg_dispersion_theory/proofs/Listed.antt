-- Divisors and coprimality of polynomials over values are those of their lists of coefficients.
--   list_of x            the coefficients of the polynomial x, without zeros at the end; `poly-list_of`: its polynomial is x
--   coprime_poly, poly_coprime    p and q are coprime as polynomials exactly where they are as lists
--   poly_dvd             what divides q as a polynomial divides it as a list
--   poly_degree          a polynomial that isn't 0 has a degree
use Rattle.std.proofs.Common.{◌≡◌, ℕ, sym, ◌∙◌, ap, ap₂, List, [], ◌∷◌}
use mathlib.Core.Quot.{lift}
use mathlib.Core.List.{is_set}
use Rattle.sg_algebra.proofs.Divides.{Divides}
use Rattle.sg_algebra.proofs.Coprime.{Coprime}
use Rattle.sg_algebra.proofs.PolynomialRing.{PolyR}
use Rattle.sg_algebra.proofs.Degree.{Degree, degree_of}
use Rattle.sg_algebra.proofs.Strip.{strip, strip-at, strip_same}
use Rattle.sg_algebra.proofs.Level.{level_set}
use Rattle.sg_algebra.proofs.Value.{Value, one_value}
use Rattle.sg_algebra.proofs.ValueField.{ValueR, value_is_zero}
use Rattle.sg_algebra.proofs.Polynomial.{Polynomial, PolynomialR, poly, poly_cong, poly_same, same_list, poly-add, poly-mul, listed, polynomial_set, zero_polynomial, ◌+ᵖ◌, ◌*ᵖ◌}

value_set : (d : ℕ) → IsSet (Value d)
value_set d = hlevel (level_set d)

module _ {d : ℕ} where
  pub list_of : Polynomial d → List (Value d)
  list_of x = lift (is_set (value_set d)) (strip (ValueR d) (value_is_zero d)) (λ p q e. strip_same (ValueR d) (value_is_zero d) (λ x y h. h) p q e.image.at) x.raw

  pub poly-list_of : (x : Polynomial d) → poly (list_of x) ≡ x
  unfolding list_of poly
  poly-list_of = listed (λ x. poly (list_of x) ≡ x) (λ x. polynomial_set d (poly (list_of x)) x) at
    where
      at : (p : List (Value d)) → poly (list_of (poly p)) ≡ poly p
      at p = poly_same (strip (ValueR d) (value_is_zero d) p) p (strip-at (ValueR d) (value_is_zero d) p)

  pub poly_degree : (p : List (Value d)) → ¬ (poly p ≡ zero_polynomial) → (n : ℕ) × Degree (ValueR d) n p
  poly_degree p h = degree_of (ValueR d) (value_is_zero d) p (λ z. h (poly_cong z))

module _ {d : ℕ} (p q : List (Value d)) where
  open PolyR (ValueR d) use {◌⊞◌ as ◌⊕◌, ◌⊠◌ as ◌⊗◌}

  poly-both : (u w : List (Value d)) → poly (u ⊗ p ⊕ w ⊗ q) ≡ poly u *ᵖ poly p +ᵖ poly w *ᵖ poly q
  poly-both u w = poly-add (u ⊗ p) (w ⊗ q) ∙ ap₂ ◌+ᵖ◌ (poly-mul u p) (poly-mul w q)

  pub coprime_poly : Coprime (PolyR (ValueR d)) p q → Coprime (PolynomialR d) (poly p) (poly q)
  coprime_poly c = record { u = poly c.u; w = poly c.w; comb = sym (poly-both c.u c.w) ∙ poly_cong c.comb }

  pub poly_coprime : Coprime (PolynomialR d) (poly p) (poly q) → Coprime (PolyR (ValueR d)) p q
  poly_coprime c = record {
    u = list_of c.u;
    w = list_of c.w;
    comb = same_list (list_of c.u ⊗ p ⊕ list_of c.w ⊗ q) (one_value ∷ [])
        (poly-both (list_of c.u) (list_of c.w) ∙ ap₂ (λ x y. x *ᵖ poly p +ᵖ y *ᵖ poly q) (poly-list_of c.u) (poly-list_of c.w) ∙ c.comb);
  }

  pub poly_dvd : Divides (PolynomialR d) (poly p) (poly q) → Divides (PolyR (ValueR d)) p q
  poly_dvd c = record {
    cofactor = list_of c.cofactor;
    is = same_list q (p ⊗ list_of c.cofactor) (c.is ∙ ap (λ x. poly p *ᵖ x) (sym (poly-list_of c.cofactor)) ∙ sym (poly-mul p (list_of c.cofactor)));
  }
