-- Constants as fractions of polynomials.
--   small_denominator, small_numerator    a monic polynomial of one coefficient is 1; one of at most one coefficient is a constant
--   not_longer          without zeros at its end a constant has one coefficient at most
--   parts_of_constant   a fraction in lowest terms that is a constant is this constant over 1
--   constant_reduced    a constant over 1 is reduced
--   constant_apart      a constant other than 0 is coprime to everything
--   constant-zero, constant-one, constant-rational    what the constants 0, 1 and a fraction stand for
use Rattle.std.proofs.Common.{◌≡◌, ℕ, zero, suc, ◌<◌, ◌≤◌, refl, sym, ◌∙◌, ap, ap₂, List, [], ◌∷◌, map, length, ℤ, arith}
use Rattle.sg_algebra.proofs.Ring.{nat}
use Rattle.sg_algebra.proofs.Coprime.{Coprime, coprime_one}
use Rattle.sg_algebra.proofs.Value.{Value, over_value, zero_value, one_value, ◌/ᵛ◌}
use Rattle.sg_algebra.proofs.ValueField.{ValueR, value_quotient, value_product, value_one_ne}
use Rattle.sg_algebra.proofs.OverValue.{over_value-self}
use Rattle.sg_algebra.proofs.Embedding.{constant_value, constant_valueH, constant_value-nat, constant_value-whole, numeral_ne}
use Rattle.sg_algebra.proofs.Rational.{whole_value, rational_value}
use Rattle.sg_algebra.proofs.Polynomial.{Polynomial, PolynomialR, poly, poly_cong, poly_same, same_poly, coefficient, EndsNonzero, zero_polynomial, one_polynomial, polynomial_one_ne, ◌+ᵖ◌, ◌*ᵖ◌}
use Rattle.sg_algebra.proofs.Solver.{ring, reads}
use Rattle.sg_poly.specs.Divisors.{IsMonic}
use Rattle.sg_poly.proofs.Taken.{coprime_rest}
use Rattle.sg_ratfun.specs.Reduced.{IsReduced}
use Rattle.sg_ratfun.proofs.Monics.{monic_cong}
use Rattle.sg_poly.proofs.Dividers.{monic_some}
use Rattle.sg_ratfun.proofs.Coprimes.{lowest_parts}
use Rattle.sg_ratfun.proofs.Quotients.{over_zero, over_equal, cross_over}

module _ {d : ℕ} where
  one_monic : IsMonic (one_value {d = d} ∷ [])
  one_monic = (0, record { top = refl; ends = past })
    where
      past : (i : ℕ) → 0 < i → coefficient (one_value {d = d} ∷ []) i ≡ zero_value
      past zero l = absurd (omega arith)
      past (suc i) l = refl

  pub monic_one : (m : List (Value d)) → poly m ≡ one_polynomial → IsMonic m
  monic_one m e = monic_cong (one_value ∷ []) m (sym e) one_monic

  pub times_one : (p l c : Polynomial d) → l ≡ p → c ≡ one_polynomial → p ≡ l *ᵖ c
  times_one p l c h e = rw (h, e) (ring (PolynomialR d) (p ∷ []) (search reads depth 12) refl)

  zero_more : (p q : Polynomial d) → q ≡ zero_polynomial *ᵖ p +ᵖ q
  zero_more p q = ring (PolynomialR d) (p ∷ q ∷ []) (search reads depth 12) refl

  -- what has one coefficient at most and isn't 0 is coprime to everything
  pub constant_apart : {K : Type 0} (v : K → Value d) (p : Polynomial d) (r : List K) → length r ≤ 1 → ¬ (poly (map v r) ≡ zero_polynomial) → Coprime (PolynomialR d) p (poly (map v r))
  constant_apart v p r s n = coprime_rest v p (poly (map v r)) zero_polynomial r s n (zero_more p (poly (map v r)))

  pub one_left : {K : Type 0} (v : K → Value d) (p : List K) → length p ≡ 1 → EndsNonzero (map v p) → ¬ (poly (map v p) ≡ zero_polynomial)
  one_left v [] l e = absurd (omega (arith, l))
  one_left v (x ∷ []) l e = λ z. e 0 refl (same_poly (v x ∷ []) [] z 0)
  one_left v (x ∷ y ∷ p) l e = absurd (omega (arith, l))

  pub constant_reduced : (n m : List (Value d)) → poly m ≡ one_polynomial → IsReduced n m
  constant_reduced n m e = record { coprime = rw e (coprime_one (PolynomialR d) (poly n)); monic = monic_cong (one_value ∷ []) m (sym e) one_monic }

  pub constant_equal : (n m : List (Value d)) (c : Value d) → poly n ≡ poly (c ∷ []) → poly m ≡ one_polynomial → over_value n m ≡ over_value (c ∷ []) (one_value ∷ [])
  constant_equal n m c e h = over_equal n m (c ∷ []) (one_value ∷ []) (λ z. polynomial_one_ne (sym h ∙ z)) e h

  no_constant : poly (zero_value {d = d} ∷ []) ≡ zero_polynomial
  no_constant = poly_same (zero_value ∷ []) [] go
    where
      go : (i : ℕ) → coefficient (zero_value {d = d} ∷ []) i ≡ coefficient [] i
      go zero = refl
      go (suc i) = refl

  pub constant-zero : (c : Value d) → c ≡ zero_value → over_value (c ∷ []) (one_value ∷ []) ≡ zero_value
  constant-zero c e = rw e (over_zero (zero_value ∷ []) (one_value ∷ []) polynomial_one_ne no_constant)

  pub constant-one : (c : Value d) → c ≡ one_value → over_value (c ∷ []) (one_value ∷ []) ≡ one_value
  constant-one c e = rw e (over_value-self d (one_value ∷ []) (λ z. polynomial_one_ne (poly_cong z)))

  pub constant-rational : (c : Value d) (n : ℤ) (m : ℕ) → 0 < m → c ≡ rational_value d n m → over_value (c ∷ []) (one_value ∷ []) ≡ rational_value (suc d) n m
  constant-rational c n m h e = rw e (
      value_quotient (constant_value d (whole_value d n)) (constant_value d (nat (ValueR d) m)) (constant_value d (rational_value d n m)) (λ z. numeral_ne (suc d) m h (sym (constant_value-nat d m) ∙ z))
      (sym ((constant_valueH d).on-mul (rational_value d n m) (nat (ValueR d) m)) ∙ ap (constant_value d) (value_product (whole_value d n) (nat (ValueR d) m) (numeral_ne d m h)))
      ∙ ap₂ ◌/ᵛ◌ (constant_value-whole d n) (constant_value-nat d m))

  -- ---- Which fractions are constants

  pub small_denominator : (m : List (Value d)) → IsMonic m → length m ≤ 1 → poly m ≡ one_polynomial
  small_denominator [] k l = absurd (value_one_ne d (sym k.1.top))
  small_denominator (x ∷ []) (zero, k) l = ap (λ y. poly (y ∷ [])) k.top
  small_denominator (x ∷ []) (suc n, k) l = absurd (value_one_ne d (sym k.top))
  small_denominator (x ∷ y ∷ m) k l = absurd (omega arith)

  pub small_numerator : (n : List (Value d)) → length n ≤ 1 → poly n ≡ poly (coefficient n 0 ∷ [])
  small_numerator [] l = sym no_constant
  small_numerator (x ∷ []) l = refl
  small_numerator (x ∷ y ∷ n) l = absurd (omega arith)

  pub not_longer : (n : List (Value d)) (c : Value d) → EndsNonzero n → poly n ≡ poly (c ∷ []) → length n ≤ 1
  not_longer [] c e h = omega arith
  not_longer (x ∷ []) c e h = omega arith
  not_longer (x ∷ y ∷ n) c e h = absurd (e (suc (length n)) refl (same_poly (x ∷ y ∷ n) (c ∷ []) h (suc (length n))))

  pub parts_of_constant : (n m : List (Value d)) (c : Value d) → IsReduced n m → over_value n m ≡ over_value (c ∷ []) (one_value ∷ []) → (poly n ≡ poly (c ∷ [])) × (poly m ≡ one_polynomial)
  parts_of_constant n m c r e =
      let k = constant_reduced (c ∷ []) (one_value ∷ []) refl in
      lowest_parts n m (c ∷ []) (one_value ∷ []) r.coprime k.coprime r.monic k.monic (cross_over n m (c ∷ []) (one_value ∷ []) (monic_some m r.monic) (λ z. polynomial_one_ne z) e)
