-- Where a polynomial a divides a power of r, so that what is coprime to r is coprime to a. The field F has characteristic 0.
--   constant_unit        a polynomial of degree 0 is a unit
--   factor_degree, divisor_degree    the degrees of the factors of a polynomial with a degree
--   InPower F a r        a divides a power of r
--   radical_power        so it is for r = a / gcd(a, a'), since a divides a' r. No factors that can't be split are needed: without gcd(a, r) what is left of a
--                        divides its own derivative times r again, and where that divisor is 1, a divides a', and is a unit
--   coprime_by_powers    where a and b divide powers of r and s, and r and s moved by β are coprime, so are a and b moved by β
--   IsRadical a r        for polynomials over values: a is r times a factor of a'
--   coprime_of_radicals  where r and s moved by β are coprime, so are a and b moved by β
use Rattle.std.proofs.Common.{◌≡◌, ℕ, zero, suc, ◌+◌, ◌<◌, refl, sym, ◌∙◌, ap, subst, List, [], ◌∷◌, inl, inr, arith}
use Rattle.sg_algebra.specs.Ring.{Ring, Field}
use Rattle.sg_algebra.specs.Coefficients.{coef, poly_mul}
use Rattle.sg_algebra.proofs.Ring.{nat, pow, O_mul, mul_O}
use Rattle.sg_algebra.proofs.Solver.{by, scale, reads}
use Rattle.sg_algebra.proofs.Field.{product_ne, domain}
use Rattle.sg_algebra.proofs.Divides.{Divides, dvd_same, dvd-mul, dvd_on, on-pow}
use Rattle.sg_algebra.proofs.Coprime.{Coprime, coprime_dvd_both, coprime_pow_both, gauss}
use Rattle.sg_algebra.proofs.Euclid.{Bezout, coprime_of_unit}
use Rattle.sg_algebra.proofs.PolynomialRing.{PolyR, coef-scale}
use Rattle.sg_algebra.proofs.Degree.{Degree, degree_same, degree_unique, degree_ne, degree_or_zero, degree-mul, poly_cancel}
use Rattle.sg_algebra.proofs.Derivative.{derivative, derivative_cong, derivative-mul, coef-derivative}
use Rattle.sg_algebra.proofs.Division.{bezoutPoly}
use Rattle.sg_algebra.proofs.Shift.{moved, movedH}
use Rattle.sg_algebra.proofs.Value.{Value}
use Rattle.sg_algebra.proofs.ValueField.{ValueR, ValueF}
use Rattle.sg_algebra.proofs.Embedding.{numeral_ne}
use Rattle.sg_algebra.proofs.Polynomial.{Polynomial, PolynomialR, poly, zero_polynomial, same_list, poly-mul, ◌*ᵖ◌}
use Rattle.sg_dispersion_theory.proofs.Listed.{list_of, poly-list_of, coprime_poly, poly_coprime, poly_dvd, poly_degree}

module _ (F : Field) where
  open F use {R, inv, mul_inv, is_zero}
  open R use {A, ◌≈◌, ◌⊞◌, ◌⊠◌, ⊟, O, I, rfl, symm, trans, add_cong, mul_cong, mul_comm}
  open PolyR R use {◌≈◌ as ◌≋◌, ◌⊞◌ as ◌⊕◌, ◌⊠◌ as ◌⊗◌, ⊟ as ⊖}

  abbrev P : Ring
  P = PolyR R

  pub constant_unit : (g : List A) → Degree R 0 g → Divides P g (I ∷ [])
  constant_unit g d = record { cofactor = inv (coef R g 0) ∷ []; is = P.trans (record { image = record { at = at } }) (P.mul_comm {x = inv (coef R g 0) ∷ []} {y = g}) }
    where
      at : (n : ℕ) → coef R (I ∷ []) n ≈ coef R ((inv (coef R g 0) ∷ []) ⊗ g) n
      at zero = symm (trans (coef-scale R (inv (coef R g 0)) g 0) (trans mul_comm (mul_inv (coef R g 0) d.lead)))
      at (suc n) = symm (trans (coef-scale R (inv (coef R g 0)) g (suc n)) (trans (mul_cong rfl (d.ends (suc n) (omega arith))) (mul_O R)))

  pub factor_degree : (m n : ℕ) (a h s : List A) → Degree R m a → Degree R n h → h ⊗ s ≋ a → (l : ℕ) × Degree R l s × (n + l ≡ m)
  factor_degree m n a h s d e k = elim (degree_or_zero R is_zero s) [
    | inl z ↦ absurd (degree_ne R m a d (P.trans (P.symm k) (P.trans (P.mul_cong {x = h} {y = h} P.rfl z) (mul_O P {x = h}))))
    | inr f ↦ (f.0, f.1, degree_unique R (n + f.0) m a (degree_same R (n + f.0) (h ⊗ s) a k (degree-mul (domain F) n f.0 h s e f.1)) d)
  ]

  pub divisor_degree : (m : ℕ) (a h s : List A) → Degree R m a → h ⊗ s ≋ a → (n : ℕ) × Degree R n h
  divisor_degree m a h s d k = elim (degree_or_zero R is_zero h) [
    | inl z ↦ absurd (degree_ne R m a d (P.trans (P.symm k) (P.trans (P.mul_cong z P.rfl) (O_mul P {x = s}))))
    | inr f ↦ f
  ]

  pub record InPower (a r : List A) : Type 0 where
    pub power : ℕ
    pub divides : Divides P a (pow P r power)

  module _ (numeral : (n : ℕ) → ¬ (nat R (suc n) ≈ O)) where
    derivative_degree : (n : ℕ) (g : List A) → Degree R (suc n) g → Degree R n (derivative R g)
    derivative_degree n g d = record {
      lead = λ z. product_ne (domain F) (numeral n) d.lead (trans (symm (coef-derivative R g n)) z);
      ends = λ i l. trans (coef-derivative R g i) (trans (mul_cong rfl (d.ends (suc i) (omega arith))) (mul_O R));
    }

    -- the derivative has a lower degree, and isn't 0 in characteristic 0
    not_own_derivative : (n : ℕ) (g : List A) → Degree R n g → Divides P g (derivative R g) → Divides P g (I ∷ [])
    not_own_derivative zero g d k = constant_unit g d
    not_own_derivative (suc n) g d k =
        let f = factor_degree n (suc n) (derivative R g) g k.cofactor (derivative_degree n g d) d (P.symm k.is) in
        let e : suc n + f.0 ≡ n = f.2 in
        absurd (omega arith)

    -- what is left of a, when the greatest common divisor h of a and r is taken out, divides its derivative times r again
    left : (h s t q a r a' h' s' : List A) → ¬ (h ≋ []) → h ⊗ s ≋ a → h ⊗ t ≋ r → a' ≋ h' ⊗ s ⊕ h ⊗ s' → a' ⊗ r ≋ a ⊗ q → s' ⊗ r ≋ s ⊗ (q ⊕ ⊖ (h' ⊗ t))
    left h s t q a r a' h' s' n ka kr kd k = poly_cancel (domain F) {p = h} n
        (by P (h ∷ s ∷ t ∷ q ∷ a ∷ r ∷ a' ∷ h' ∷ s' ∷ [])
        (P.add_cong (P.add_cong k (scale P (⊖ r) kd)) (P.add_cong (scale P (⊖ q) ka) (scale P (h' ⊗ s) kr))) (search reads depth 24 fits 5000) refl)

    by_size : (n m : ℕ) (a r : List A) → m < n → Degree R m a → Divides P a (derivative R a ⊗ r) → InPower a r
    by_size zero m a r l d k = absurd (omega arith)
    by_size (suc n) m a r l d k =
        let c = bezoutPoly F a r in
        let h = divisor_degree m a c.g c.s d c.of_a in
        go c h.0 h.1 (λ i s j e w. by_size n i s r j e w)
      where
        go : (c : Bezout P a r) (i : ℕ) → Degree R i c.g → ((i : ℕ) (s : List A) → i < n → Degree R i s → Divides P s (derivative R s ⊗ r) → InPower s r) → InPower a r
        go c zero e more = record {
          power = 0;
          divides = not_own_derivative m a d (gauss P a r (derivative R a) (coprime_of_unit P a r c (constant_unit c.g e))
              (dvd_same P a (derivative R a ⊗ r) a (r ⊗ derivative R a) P.rfl (P.mul_comm {x = derivative R a} {y = r}) k));
        }
        go c (suc i) e more =
            let f = factor_degree m (suc i) a c.g c.s d e c.of_a in
            let w : suc i + f.0 ≡ m = f.2 in
            let b = more f.0 c.s (omega (arith, w, l)) f.1 (record {
              cofactor = k.cofactor ⊕ ⊖ (derivative R c.g ⊗ c.t);
              is = left c.g c.s c.t k.cofactor a r (derivative R a) (derivative R c.g) (derivative R c.s) (degree_ne R (suc i) c.g e) c.of_a c.of_b
                  (P.trans (derivative_cong R a (c.g ⊗ c.s) (P.symm c.of_a)) (derivative-mul R c.g c.s)) k.is;
            }) in
            record {
              power = suc b.power;
              divides = dvd_same P (c.s ⊗ c.g) (pow P r b.power ⊗ r) a (pow P r b.power ⊗ r) (P.trans (P.mul_comm {x = c.s} {y = c.g}) c.of_a) P.rfl
                  (dvd-mul P c.s c.g (pow P r b.power) r b.divides (record { cofactor = c.t; is = P.symm c.of_b }));
            }

    power_of : (m : ℕ) (a r : List A) → Degree R m a → Divides P a (derivative R a ⊗ r) → InPower a r
    power_of m a r d k = by_size (suc m) m a r (omega arith) d k

    -- r is a without a factor g of a and a'
    pub radical_power : (m : ℕ) (a g r : List A) → Degree R m a → g ⊗ r ≋ a → Divides P g (derivative R a) → InPower a r
    radical_power m a g r d k e = power_of m a r d (record { cofactor = e.cofactor; is = together a g r (derivative R a) e.cofactor k e.is })
      where
        together : (a g r a' t : List A) → g ⊗ r ≋ a → a' ≋ g ⊗ t → a' ⊗ r ≋ a ⊗ t
        together a g r a' t h k = by P (a ∷ g ∷ r ∷ a' ∷ t ∷ []) (P.add_cong (scale P r k) (scale P t h)) (search reads depth 16 fits 4000) refl

  pub coprime_by_powers : (β : A) (a b r s : List A) → InPower a r → InPower b s → Coprime P r (moved R β s) → Coprime P a (moved R β b)
  coprime_by_powers β a b r s h k c = coprime_dvd_both P (pow P r h.power) (pow P (moved R β s) k.power) a (moved R β b) h.divides
      (dvd_same P (moved R β b) (moved R β (pow P s k.power)) (moved R β b) (pow P (moved R β s) k.power) P.rfl (on-pow P P (movedH R β) s k.power)
      (dvd_on P P (movedH R β) b (pow P s k.power) k.divides))
      (coprime_pow_both P r (moved R β s) h.power k.power c)

-- ---- Polynomials over values

-- a without a factor that a and its derivative have in common
pub record IsRadical {d : ℕ} (a r : List (Value d)) : Type 0 where
  pub factor : Polynomial d
  pub is : poly a ≡ factor *ᵖ poly r
  pub divides : Divides (PolynomialR d) factor (poly (derivative (ValueR d) a))

module _ (d : ℕ) where
  radical_of : (a r : List (Value d)) → ¬ (poly a ≡ zero_polynomial) → IsRadical a r → InPower (ValueF d) a r
  radical_of a r h k =
      let g = list_of k.factor in
      let e = poly_degree a h in
      radical_power (ValueF d) (λ n. numeral_ne d (suc n) (omega arith)) e.0 a g r e.1
      (same_list (poly_mul (ValueR d) g r) a (poly-mul g r ∙ ap (λ x. x *ᵖ poly r) (poly-list_of k.factor) ∙ sym k.is))
      (poly_dvd g (derivative (ValueR d) a) (subst (λ (x : Polynomial d). Divides (PolynomialR d) x (poly (derivative (ValueR d) a))) (sym (poly-list_of k.factor)) k.divides))

  pub coprime_of_radicals : (β : Value d) (a b r s : List (Value d)) → ¬ (poly a ≡ zero_polynomial) → ¬ (poly b ≡ zero_polynomial) → IsRadical a r → IsRadical b s
      → Coprime (PolynomialR d) (poly r) (poly (moved (ValueR d) β s)) → Coprime (PolynomialR d) (poly a) (poly (moved (ValueR d) β b))
  coprime_of_radicals β a b r s h k e f c = coprime_poly a (moved (ValueR d) β b)
      (coprime_by_powers (ValueF d) β a b r s (radical_of a r h e) (radical_of b s k f) (poly_coprime r (moved (ValueR d) β s) c))
