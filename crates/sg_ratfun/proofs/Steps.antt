-- The steps of arithmetic of reduced fractions.
--   Makes n m x       n / m is reduced and has the value x
--   lowest_makes, product_makes, sum_makes, difference_makes, inverse_makes, quotient_makes
use Rattle.std.proofs.Common.{◌≡◌, ℕ, suc, refl, sym, ◌∙◌, ap, List, [], ◌∷◌}
use Rattle.sg_algebra.specs.Coefficients.{poly_mul}
use Rattle.sg_algebra.proofs.Solver.{ring, by, scale, reads}
use Rattle.sg_algebra.proofs.Coprime.{coprime_symm}
use Rattle.sg_algebra.proofs.Value.{Value, zero_value, one_value, over_value, inv_value, ◌+ᵛ◌, ◌-ᵛ◌, ◌*ᵛ◌, ◌/ᵛ◌}
use Rattle.sg_algebra.proofs.ValueField.{ValueR, value_quotient, value_one_ne}
use Rattle.sg_algebra.proofs.Polynomial.{Polynomial, PolynomialR, poly, poly_cong, poly-mul, constant, neg_polynomial, zero_polynomial, one_polynomial, polynomial_one_ne, ◌+ᵖ◌, ◌-ᵖ◌, ◌*ᵖ◌}
use Rattle.sg_algebra.proofs.OverValue.{over_value-self}
use Rattle.sg_poly.specs.Divisors.{IsMonic}
use Rattle.sg_poly.proofs.Dividers.{monic_some}
use Rattle.sg_ratfun.specs.Reduced.{IsReduced}
use Rattle.sg_ratfun.proofs.Monics.{monic_product, monic_quotient}
use Rattle.sg_ratfun.proofs.Coprimes.{Prime, coprime_units, coprime_cross, coprime_sum}
use Rattle.sg_ratfun.proofs.Quotients.{over_cross, over_sum, over_difference, over_product}

module _ {d : ℕ} where
  pub record Makes (n m : List (Value d)) (x : Value (suc d)) : Type 0 where
    pub value : over_value n m ≡ x
    pub reduced : IsReduced n m

  scaled : (k l r g : Polynomial d) → (k *ᵖ l) *ᵖ (r *ᵖ g) ≡ (l *ᵖ g) *ᵖ (k *ᵖ r)
  scaled k l r g = ring (PolynomialR d) (k ∷ l ∷ r ∷ g ∷ []) (search reads depth 16) refl

  pub lowest_makes : (p q l r g n m : List (Value d)) (x : Value d) → ¬ (poly q ≡ zero_polynomial) → poly p ≡ poly l *ᵖ poly g → poly q ≡ poly r *ᵖ poly g → Prime (poly l) (poly r)
      → ¬ (x ≡ zero_value) → poly n ≡ constant (inv_value x) *ᵖ poly l → poly m ≡ constant (inv_value x) *ᵖ poly r → IsMonic m → Makes n m (over_value p q)
  lowest_makes p q l r g n m x q0 ip iq lr x0 in' im mm = record {
    value = over_cross n m p q (monic_some m mm) q0 (rw (in', im, ip, iq) (scaled (constant (inv_value x)) (poly l) (poly r) (poly g)));
    reduced = record { coprime = coprime_units (poly l) (poly r) (poly n) (poly m) x x0 in' im lr; monic = mm };
  }

  crossed : (a b c e g h : Polynomial d) → (a *ᵖ c) *ᵖ ((b *ᵖ h) *ᵖ (e *ᵖ g)) ≡ ((a *ᵖ g) *ᵖ (c *ᵖ h)) *ᵖ (b *ᵖ e)
  crossed a b c e g h = ring (PolynomialR d) (a ∷ b ∷ c ∷ e ∷ g ∷ h ∷ []) (search reads depth 20) refl

  pub product_makes : (a b c e g h a' e' c' b' n m : List (Value d)) → IsReduced a b → IsReduced c e → poly a ≡ poly a' *ᵖ poly g → poly e ≡ poly e' *ᵖ poly g → Prime (poly a') (poly e') → IsMonic g
      → poly c ≡ poly c' *ᵖ poly h → poly b ≡ poly b' *ᵖ poly h → Prime (poly c') (poly b') → IsMonic h → poly n ≡ poly a' *ᵖ poly c' → poly m ≡ poly b' *ᵖ poly e' → Makes n m (over_value a b *ᵛ over_value c e)
  product_makes a b c e g h a' e' c' b' n m ab ce ia ie ae mg ic ib cb mh in' im =
      let mm : IsMonic m = monic_product b' e' m im (monic_quotient b' h b ib ab.monic mh) (monic_quotient e' g e ie ce.monic mg) in
      record {
        value = over_product a b c e n m (monic_some b ab.monic) (monic_some e ce.monic) (monic_some m mm) (rw (in', im, ia, ie, ic, ib) (crossed (poly a') (poly b') (poly c') (poly e') (poly g) (poly h)));
        reduced = record {
          coprime = coprime_cross (poly a) (poly b) (poly c) (poly e) (poly g) (poly h) (poly a') (poly e') (poly c') (poly b') (poly n) (poly m) ab.coprime ce.coprime ia ie ic ib ae cb in' im;
          monic = mm;
        };
      }

  over_least : (a c b e g n n' g' h : Polynomial d) → n ≡ a *ᵖ e +ᵖ c *ᵖ b → n ≡ n' *ᵖ h → g ≡ g' *ᵖ h
      → n' *ᵖ ((b *ᵖ g) *ᵖ (e *ᵖ g)) ≡ (a *ᵖ (e *ᵖ g) +ᵖ c *ᵖ (b *ᵖ g)) *ᵖ ((b *ᵖ e) *ᵖ g')
  over_least a c b e g n n' g' h k l m =
      by (PolynomialR d) (a ∷ c ∷ b ∷ e ∷ g ∷ n ∷ n' ∷ g' ∷ h ∷ [])
      ((PolynomialR d).add_cong (scale (PolynomialR d) (((b *ᵖ e) *ᵖ g) *ᵖ n') m) ((PolynomialR d).add_cong (scale (PolynomialR d) (((b *ᵖ e) *ᵖ g) *ᵖ g') k) ((PolynomialR d).neg_cong (scale (PolynomialR d) (((b *ᵖ e) *ᵖ g) *ᵖ g') l)))) (search reads depth 24 fits 9000) refl

  minus_least : (a c b e g n n' g' h : Polynomial d) → n ≡ a *ᵖ e -ᵖ c *ᵖ b → n ≡ n' *ᵖ h → g ≡ g' *ᵖ h
      → n' *ᵖ ((b *ᵖ g) *ᵖ (e *ᵖ g)) ≡ (a *ᵖ (e *ᵖ g) -ᵖ c *ᵖ (b *ᵖ g)) *ᵖ ((b *ᵖ e) *ᵖ g')
  minus_least a c b e g n n' g' h k l m =
      by (PolynomialR d) (a ∷ c ∷ b ∷ e ∷ g ∷ n ∷ n' ∷ g' ∷ h ∷ [])
      ((PolynomialR d).add_cong (scale (PolynomialR d) (((b *ᵖ e) *ᵖ g) *ᵖ n') m) ((PolynomialR d).add_cong (scale (PolynomialR d) (((b *ᵖ e) *ᵖ g) *ᵖ g') k) ((PolynomialR d).neg_cong (scale (PolynomialR d) (((b *ᵖ e) *ᵖ g) *ᵖ g') l)))) (search reads depth 24 fits 9000) refl

  three_monic : (a b c m : List (Value d)) → poly m ≡ (poly a *ᵖ poly b) *ᵖ poly c → IsMonic a → IsMonic b → IsMonic c → IsMonic m
  three_monic a b c m e x y z = monic_product (poly_mul (ValueR d) a b) c m (e ∙ ap (λ p. p *ᵖ poly c) (sym (poly-mul a b))) (monic_product a b (poly_mul (ValueR d) a b) (poly-mul a b) x y) z

  negated : (c e : Polynomial d) → Prime c e → Prime (neg_polynomial c) e
  negated c e p = record { u = neg_polynomial p.u; w = p.w; comb = by (PolynomialR d) (c ∷ e ∷ p.u ∷ p.w ∷ []) p.comb (search reads depth 16) refl }

  minus : (x c b : Polynomial d) → x -ᵖ c *ᵖ b ≡ x +ᵖ neg_polynomial c *ᵖ b
  minus x c b = ring (PolynomialR d) (x ∷ c ∷ b ∷ []) (search reads depth 16) refl

  module _ (a b c e b' e' g n n' g' h m : List (Value d)) (ab : IsReduced a b) (ce : IsReduced c e)
      (ib : poly b ≡ poly b' *ᵖ poly g) (ie : poly e ≡ poly e' *ᵖ poly g) (be : Prime (poly b') (poly e')) (mg : IsMonic g)
      (in' : poly n ≡ poly n' *ᵖ poly h) (ig : poly g ≡ poly g' *ᵖ poly h) (ng : Prime (poly n') (poly g')) (mh : IsMonic h) (im : poly m ≡ (poly b' *ᵖ poly e') *ᵖ poly g')
    where
      monic : IsMonic m
      monic = three_monic b' e' g' m im (monic_quotient b' g b ib ab.monic mg) (monic_quotient e' g e ie ce.monic mg) (monic_quotient g' h g ig mg mh)

      pub sum_makes : poly n ≡ poly a *ᵖ poly e' +ᵖ poly c *ᵖ poly b' → Makes n' m (over_value a b +ᵛ over_value c e)
      sum_makes is = record {
        value = over_sum a b c e n' m (monic_some b ab.monic) (monic_some e ce.monic) (monic_some m monic)
            (rw (im, ie, ib) (over_least (poly a) (poly c) (poly b') (poly e') (poly g) (poly n) (poly n') (poly g') (poly h) is in' ig));
        reduced = record {
          coprime = coprime_sum (poly a) (poly b) (poly c) (poly e) (poly g) (poly h) (poly b') (poly e') (poly n) (poly n') (poly g') (poly c) (poly m) ab.coprime ce.coprime ib ie be in' ng (λ p. p) is im;
          monic = monic;
        };
      }

      pub difference_makes : poly n ≡ poly a *ᵖ poly e' -ᵖ poly c *ᵖ poly b' → Makes n' m (over_value a b -ᵛ over_value c e)
      difference_makes is = record {
        value = over_difference a b c e n' m (monic_some b ab.monic) (monic_some e ce.monic) (monic_some m monic)
            (rw (im, ie, ib) (minus_least (poly a) (poly c) (poly b') (poly e') (poly g) (poly n) (poly n') (poly g') (poly h) is in' ig));
        reduced = record {
          coprime = coprime_sum (poly a) (poly b) (poly c) (poly e) (poly g) (poly h) (poly b') (poly e') (poly n) (poly n') (poly g') (neg_polynomial (poly c)) (poly m) ab.coprime ce.coprime ib ie be in' ng
              (negated (poly c) (poly e')) (is ∙ minus (poly a *ᵖ poly e') (poly c) (poly b')) im;
          monic = monic;
        };
      }

  turned : (k c e : Polynomial d) → one_polynomial *ᵖ ((k *ᵖ c) *ᵖ e) ≡ ((k *ᵖ e) *ᵖ c) *ᵖ one_polynomial
  turned k c e = ring (PolynomialR d) (k ∷ c ∷ e ∷ []) (search reads depth 16) refl

  one_apart : ¬ (one_polynomial {d = d} ≡ zero_polynomial)
  one_apart = polynomial_one_ne

  pub inverse_value : (c e n m : List (Value d)) (k : Polynomial d) → IsReduced c e → IsMonic m → poly n ≡ k *ᵖ poly e → poly m ≡ k *ᵖ poly c → over_value n m *ᵛ over_value c e ≡ one_value
  inverse_value c e n m k ce mm in' im =
      sym (over_product n m c e (one_value ∷ []) (one_value ∷ []) (monic_some m mm) (monic_some e ce.monic) one_apart (rw (in', im) (turned k (poly c) (poly e))))
      ∙ over_value-self d (one_value ∷ []) (λ z. one_apart (poly_cong z))

  pub inverse_reduced : (c e n m : List (Value d)) (x : Value d) → IsReduced c e → ¬ (x ≡ zero_value) → IsMonic m → poly n ≡ constant (inv_value x) *ᵖ poly e → poly m ≡ constant (inv_value x) *ᵖ poly c → IsReduced n m
  inverse_reduced c e n m x ce x0 mm in' im = record { coprime = coprime_units (poly e) (poly c) (poly n) (poly m) x x0 in' im (coprime_symm (PolynomialR d) (poly c) (poly e) ce.coprime); monic = mm }

  grouped : (x i y : Value (suc d)) → i *ᵛ y ≡ one_value → (x *ᵛ i) *ᵛ y ≡ x
  grouped x i y e = by (ValueR (suc d)) (x ∷ i ∷ y ∷ []) (scale (ValueR (suc d)) x e) (search reads depth 16) refl

  nonzero : (i y : Value (suc d)) → i *ᵛ y ≡ one_value → ¬ (y ≡ zero_value)
  nonzero i y e z = value_one_ne (suc d) (sym e ∙ ap (◌*ᵛ◌ i) z ∙ ring (ValueR (suc d)) (i ∷ []) (search reads depth 12) refl)

  pub quotient_value : (r x i y : Value (suc d)) → i *ᵛ y ≡ one_value → r ≡ x *ᵛ i → r ≡ x /ᵛ y
  quotient_value r x i y e h = value_quotient x y r (nonzero i y e) (ap (λ z. z *ᵛ y) h ∙ grouped x i y e)
