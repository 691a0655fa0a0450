-- The factor of a polynomial that divides a power of another one, and the rest.
--   size_degree           the size of a polynomial of degree n; size_same: equal polynomials have one size
--   size_falls, size_falls_right    a factor is smaller, where the other one is no constant
--   monic_short           a monic polynomial with at most one coefficient is 1
--   coprime_gcd           where the greatest common divisor is 1, they are coprime
--   IsTaken w u v e       w is u v, where u divides a power of e
--   taken_start, taken_more, taken_part    in the beginning, with one more common divisor, and in the end
use Rattle.std.proofs.Common.{◌≡◌, ℕ, zero, suc, ◌+◌, ◌≤◌, ◌<◌, refl, sym, ◌∙◌, ap, subst, List, [], ◌∷◌, ◌⊎◌, inl, inr, length, map, arith}
use Rattle.sg_algebra.specs.Coefficients.{poly_mul}
use Rattle.sg_algebra.proofs.Ring.{pow}
use Rattle.sg_algebra.proofs.Lists.{length_map}
use Rattle.sg_algebra.proofs.Rows.{at_past}
use Rattle.sg_algebra.proofs.Solver.{ring, by, scale, reads}
use Rattle.sg_algebra.proofs.Divides.{Divides, dvd-mul, dvd_same}
use Rattle.sg_algebra.proofs.Euclid.{Bezout, bezout_dvd, coprime_of_unit}
use Rattle.sg_algebra.proofs.Coprime.{Coprime}
use Rattle.sg_algebra.proofs.Degree.{Degree, below_degree, below_same, degree_below, degree_same, degree-mul, none_above, size_below}
use Rattle.sg_algebra.proofs.Value.{Value, zero_value, one_value}
use Rattle.sg_algebra.proofs.ValueField.{ValueR, ValueD, value_is_zero, value_one_ne}
use Rattle.sg_algebra.proofs.Polynomial.{Polynomial, PolynomialR, poly, poly_same, same_list, poly-mul, coefficient, EndsNonzero, zero_polynomial, one_polynomial, ◌*ᵖ◌}
use Rattle.sg_dispersion_theory.proofs.Listed.{poly_degree}
use Rattle.sg_dispersion_theory.proofs.ValueCertificate.{monic_length}
use Rattle.sg_poly.specs.Divisors.{◌∣ᵖ◌, IsMonic, IsGcd}
use Rattle.sg_ratfun.proofs.Monics.{monic_cong}
use Rattle.sg_first_order_theory.proofs.Next.{nextH, bezout_polynomial}
use Rattle.sg_reduction_theory.proofs.Settling.{IsPart}
use Rattle.sg_constant.specs.Shares.{size}

module _ {d : ℕ} where
  pub size_degree : (n : ℕ) (p : List (Value d)) → Degree (ValueR d) n p → size p ≡ suc n
  size_degree n p g = between (size p) n (size_below (ValueR d) (value_is_zero d) p (suc n) (below_degree (ValueR d) n p g)) (degree_below (ValueR d) (size p) n p g (none_above (ValueR d) (value_is_zero d) p))
    where
      between : (s n : ℕ) → s ≤ suc n → n < s → s ≡ suc n
      between s n l k = omega (arith, l, k)

  pub size_same : (p q : List (Value d)) → poly p ≡ poly q → size p ≡ size q
  size_same p q e = same (size p) (size q)
      (size_below (ValueR d) (value_is_zero d) p (size q) (below_same (ValueR d) (size q) q p (same_list q p (sym e)) (none_above (ValueR d) (value_is_zero d) q)))
      (size_below (ValueR d) (value_is_zero d) q (size p) (below_same (ValueR d) (size p) p q (same_list p q e) (none_above (ValueR d) (value_is_zero d) p)))
    where
      same : (a b : ℕ) → a ≤ b → b ≤ a → a ≡ b
      same a b l k = omega (arith, l, k)

  product_degree : (m n : ℕ) (p q r : List (Value d)) → poly p ≡ poly q *ᵖ poly r → Degree (ValueR d) m q → Degree (ValueR d) n r → Degree (ValueR d) (m + n) p
  product_degree m n p q r e g h = degree_same (ValueR d) (m + n) (poly_mul (ValueR d) q r) p (same_list (poly_mul (ValueR d) q r) p (poly-mul q r ∙ sym e)) (degree-mul (ValueD d) m n q r g h)

  -- a product with a factor of positive degree
  pub size_less : (n : ℕ) (p q r : List (Value d)) → poly p ≡ poly q *ᵖ poly r → ¬ (poly q ≡ zero_polynomial) → Degree (ValueR d) n r → 0 < n → size q < size p
  size_less n p q r e ne g l = at (poly_degree q ne)
    where
      less : (m s t : ℕ) → s ≡ suc m → t ≡ suc (m + n) → s < t
      less m s t h k = omega (arith, h, k, l)

      at : (m : ℕ) × Degree (ValueR d) m q → size q < size p
      at m = less m.0 (size q) (size p) (size_degree m.0 q m.1) (size_degree (m.0 + n) p (product_degree m.0 n p q r e m.1 g))

  pub monic_degree : (p : List (Value d)) (m : IsMonic p) → Degree (ValueR d) m.0 p
  monic_degree p m = record { lead = λ z. value_one_ne d (sym m.1.top ∙ z); ends = m.1.ends }

  pub monic_long : (p : List (Value d)) (m : IsMonic p) → EndsNonzero p → 1 < length p → 0 < m.0
  monic_long p m e l = positive m.0 (length p) (monic_length m.0 p m.1 e) l
    where
      positive : (n s : ℕ) → s ≡ suc n → 1 < s → 0 < n
      positive n s h k = omega (arith, h, k)

  pub monic_short : (p : List (Value d)) → IsMonic p → length p ≤ 1 → poly p ≡ one_polynomial
  monic_short p m l = poly_same p (one_value ∷ []) (λ i. at i)
    where
      side : (n s : ℕ) → s ≤ 1 → (n ≡ 0) ⊎ (s ≤ n)
      side n s h = grind arith

      low : (m.0 ≡ 0) ⊎ (length p ≤ m.0) → m.0 ≡ 0
      low (inl e) = e
      low (inr h) = absurd (value_one_ne d (sym m.1.top ∙ at_past p m.0 h))

      is : m.0 ≡ 0
      is = low (side m.0 (length p) l)

      at : (i : ℕ) → coefficient p i ≡ coefficient (one_value ∷ []) i
      at zero = subst (λ (j : ℕ). coefficient p j ≡ one_value) is m.1.top
      at (suc i) = m.1.ends (suc i) (omega (arith, is))

  pub coprime_gcd : (g x y : Polynomial d) → IsGcd g x y → g ≡ one_polynomial → Coprime (PolynomialR d) x y
  coprime_gcd g x y h e =
      let b : Bezout (PolynomialR d) x y = bezout_polynomial x y in
      let both = bezout_dvd (PolynomialR d) x y b in
      coprime_of_unit (PolynomialR d) x y b (dvd_same (PolynomialR d) b.g g b.g one_polynomial refl e (h.greatest b.g both.0 both.1))

  pub record IsTaken (w u v e : Polynomial d) : Type 0 where
    pub is : w ≡ u *ᵖ v
    pub n : ℕ
    pub radical : Divides (PolynomialR d) u (pow (PolynomialR d) e n)

  pub taken_start : (w u v e : Polynomial d) → u ≡ one_polynomial → v ≡ w → IsTaken w u v e
  taken_start w u v e hu hv = record {
    is = by (PolynomialR d) (w ∷ u ∷ v ∷ []) ((PolynomialR d).add_cong (scale (PolynomialR d) ((PolynomialR d).⊟ v) hu) (scale (PolynomialR d) ((PolynomialR d).⊟ one_polynomial) hv)) (search reads depth 16) refl;
    n = 0;
    radical = record { cofactor = one_polynomial; is = by (PolynomialR d) (u ∷ []) (scale (PolynomialR d) ((PolynomialR d).⊟ one_polynomial) hu) (search reads depth 16) refl };
  }

  pub taken_more : (w u v e g u' v' : Polynomial d) → IsTaken w u v e → g ∣ᵖ e → u' ≡ u *ᵖ g → v ≡ v' *ᵖ g → IsTaken w u' v' e
  taken_more w u v e g u' v' t h hu hv = record {
    is = by (PolynomialR d) (w ∷ u ∷ v ∷ g ∷ u' ∷ v' ∷ []) ((PolynomialR d).add_cong t.is ((PolynomialR d).add_cong (scale (PolynomialR d) u hv) (scale (PolynomialR d) ((PolynomialR d).⊟ v') hu))) (search reads depth 20 fits 4000) refl;
    n = suc t.n;
    radical = dvd_same (PolynomialR d) (u *ᵖ g) (pow (PolynomialR d) e (suc t.n)) u' (pow (PolynomialR d) e (suc t.n)) (sym hu) refl (dvd-mul (PolynomialR d) u g (pow (PolynomialR d) e t.n) e t.radical h);
  }

  pub taken_part : (w u v e : Polynomial d) → IsTaken w u v e → Coprime (PolynomialR d) v e → IsPart (PolynomialR d) (nextH d) w u v e
  taken_part w u v e t c = record { is = t.is; n = t.n; radical = t.radical; rest = c }

  pub factor_some : (v v' g : Polynomial d) → v ≡ v' *ᵖ g → ¬ (v ≡ zero_polynomial) → ¬ (v' ≡ zero_polynomial)
  factor_some v v' g e h z = h (e ∙ ap (λ x. x *ᵖ g) z ∙ ring (PolynomialR d) (g ∷ []) (search reads depth 12) refl)

  pub some_same : (p q : Polynomial d) → p ≡ q → ¬ (q ≡ zero_polynomial) → ¬ (p ≡ zero_polynomial)
  some_same p q e h z = h (sym e ∙ z)

  pub monic_one : (p : List (Value d)) → poly p ≡ one_polynomial → IsMonic p
  monic_one p e = monic_cong (one_value ∷ []) p (sym e) (0, record { top = refl; ends = λ i l. past i l })
    where
      past : (i : ℕ) → 0 < i → coefficient (one_value {d = d} ∷ []) i ≡ zero_value
      past zero l = absurd (omega arith)
      past (suc i) l = refl

module _ {K : Type 0} {d : ℕ} (v : K → Value d) where
  pub long_of : (xs l : List K) → l ≡ xs → 1 < length l → 1 < length (map v xs)
  long_of xs l e h = subst (λ (n : ℕ). 1 < n) (sym (length_map v xs)) (subst (λ (l : List K). 1 < length l) e h)

  pub short_of : (xs l : List K) → l ≡ xs → length l ≤ 1 → length (map v xs) ≤ 1
  short_of xs l e h = subst (λ (n : ℕ). n ≤ 1) (sym (length_map v xs)) (subst (λ (l : List K). length l ≤ 1) e h)

  -- where a common divisor of positive degree is taken off the rest, that gets smaller
  pub taken_smaller : (rest rest' g l : List K) (m : IsMonic (map v g)) → EndsNonzero (map v g) → l ≡ g → 1 < length l → ¬ (poly (map v rest) ≡ zero_polynomial) → poly (map v rest) ≡ poly (map v rest') *ᵖ poly (map v g) → size (map v rest') < size (map v rest)
  taken_smaller rest rest' g l m ends e long some is = size_less m.0 (map v rest) (map v rest') (map v g) is (factor_some (poly (map v rest)) (poly (map v rest')) (poly (map v g)) is some)
      (monic_degree (map v g) m) (monic_long (map v g) m ends (long_of g l e long))

  pub taken_apart : (g l : List K) (x y : Polynomial d) → IsMonic (map v g) → l ≡ g → length l ≤ 1 → IsGcd (poly (map v g)) x y → Coprime (PolynomialR d) x y
  taken_apart g l x y m e short h = coprime_gcd (poly (map v g)) x y h (monic_short (map v g) m (short_of g l e short))
