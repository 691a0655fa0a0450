-- Euclid's algorithm with one factor kept.
--   multiple_start, multiple_scaled, multiple_less    the steps keep that the first is the second times u, up to a multiple of w
--   coprime_scaled, coprime_less      and that both are coprime
--   monic_unit            a monic polynomial that is a unit is 1
--   inverse_end           so in the end u times the factor is 1
use Rattle.std.proofs.Common.{◌≡◌, ℕ, zero, suc, ◌+◌, ◌<◌, refl, sym, ◌∙◌, ap, subst, List, [], ◌∷◌, length, map, get_or, ◌-◌, arith}
use Rattle.sg_algebra.proofs.Solver.{ring, by, scale, reads}
use Rattle.sg_algebra.proofs.Ring.{mul_O}
use Rattle.sg_algebra.proofs.Divides.{Divides, dvd_refl, dvd_O}
use Rattle.sg_algebra.proofs.Coprime.{Coprime, coprime_unit}
use Rattle.sg_algebra.proofs.Degree.{Degree, degree-mul, degree_unique, degree_of, degree_same, poly_one_ne}
use Rattle.sg_algebra.proofs.Value.{Value, zero_value, one_value, inv_value, ◌*ᵛ◌, ◌/ᵛ◌}
use Rattle.sg_algebra.proofs.ValueField.{ValueR, ValueD, value_is_zero, value_one_ne, value_mul-inv}
use Rattle.sg_algebra.proofs.PolynomialRing.{constant-mul}
use Rattle.sg_algebra.proofs.Polynomial.{Polynomial, PolynomialR, ListR, poly, poly_cong, poly_same, same_poly, poly-mul, constant, coefficient, EndsNonzero, zero_polynomial, one_polynomial, ◌+ᵖ◌, ◌-ᵖ◌, ◌*ᵖ◌, neg_polynomial}
use Rattle.sg_algebra.proofs.Rows.{at_read, last_nonzero}
use Rattle.sg_dispersion_theory.proofs.Listed.{poly_dvd}
use Rattle.sg_poly.specs.Divisors.{IsMonic}
use Rattle.sg_constant.specs.Multiples.{IsMultiple, IsScaled, IsLess}

module _ {d : ℕ} where
  pub multiple_start : (w u : Polynomial d) → IsMultiple w u w zero_polynomial
  multiple_start w u = record { cofactor = one_polynomial; is = ring (PolynomialR d) (w ∷ u ∷ []) (search reads depth 16) refl }

  -- the rest of u by w
  pub multiple_first : (w u q r : Polynomial d) → u ≡ q *ᵖ w +ᵖ r → IsMultiple w u r one_polynomial
  multiple_first w u q r h = record { cofactor = neg_polynomial q; is = by (PolynomialR d) (w ∷ u ∷ q ∷ r ∷ []) (scale (PolynomialR d) (neg_polynomial one_polynomial) h) (search reads depth 16) refl }

  pub multiple_scaled : (w u x t x' t' : Polynomial d) → IsScaled x t x' t' → IsMultiple w u x t → IsMultiple w u x' t'
  multiple_scaled w u x t x' t' s m = record {
    cofactor = constant s.c *ᵖ m.cofactor;
    is = by (PolynomialR d) (w ∷ u ∷ x ∷ t ∷ x' ∷ t' ∷ constant s.c ∷ m.cofactor ∷ []) ((PolynomialR d).add_cong (scale (PolynomialR d) (constant s.c) m.is) ((PolynomialR d).add_cong s.value (scale (PolynomialR d) (neg_polynomial u) s.factor))) (search reads depth 20 fits 4000) refl;
  }

  pub multiple_less : (w u x t y s x' t' : Polynomial d) → IsLess x t y s x' t' → IsMultiple w u x t → IsMultiple w u y s → IsMultiple w u x' t'
  multiple_less w u x t y s x' t' l m k = record {
    cofactor = m.cofactor -ᵖ l.q *ᵖ k.cofactor;
    is = by (PolynomialR d) (w ∷ u ∷ x ∷ t ∷ y ∷ s ∷ x' ∷ t' ∷ l.q ∷ m.cofactor ∷ k.cofactor ∷ [])
        ((PolynomialR d).add_cong m.is ((PolynomialR d).add_cong (scale (PolynomialR d) (neg_polynomial l.q) k.is) ((PolynomialR d).add_cong (scale (PolynomialR d) (neg_polynomial one_polynomial) l.value) (scale (PolynomialR d) (neg_polynomial u) l.factor)))) (search reads depth 24 fits 6000) refl;
  }

  units : (a b : Value d) → a *ᵛ b ≡ one_value → constant a *ᵖ constant b ≡ one_polynomial
  units a b h = sym (poly-mul (a ∷ []) (b ∷ [])) ∙ poly_cong ((ListR d).symm (constant-mul (ValueR d) a b)) ∙ ap constant h

  pub coprime_scaled : (a x t x' t' : Polynomial d) → IsScaled x t x' t' → Coprime (PolynomialR d) a x → Coprime (PolynomialR d) a x'
  coprime_scaled a x t x' t' s c = record {
    u = c.u;
    w = c.w *ᵖ constant s.inverse;
    comb = by (PolynomialR d) (a ∷ x ∷ x' ∷ c.u ∷ c.w ∷ constant s.inverse ∷ constant s.c ∷ [])
        ((PolynomialR d).add_cong c.comb ((PolynomialR d).add_cong (scale (PolynomialR d) (c.w *ᵖ constant s.inverse) s.value) (scale (PolynomialR d) (c.w *ᵖ x) (units s.inverse s.c s.unit)))) (search reads depth 20 fits 5000) refl;
  }

  pub coprime_less : (x t y s x' t' : Polynomial d) → IsLess x t y s x' t' → Coprime (PolynomialR d) x y → Coprime (PolynomialR d) y x'
  coprime_less x t y s x' t' l c = record {
    u = c.w +ᵖ c.u *ᵖ l.q;
    w = c.u;
    comb = by (PolynomialR d) (x ∷ y ∷ x' ∷ c.u ∷ c.w ∷ l.q ∷ []) ((PolynomialR d).add_cong c.comb (scale (PolynomialR d) (neg_polynomial c.u) l.value)) (search reads depth 20 fits 4000) refl;
  }

  pub monic_unit : (p : List (Value d)) → IsMonic p → Divides (PolynomialR d) (poly p) one_polynomial → poly p ≡ one_polynomial
  monic_unit p m h = go m.0 refl
    where
      k : Divides (ListR d) p (one_value ∷ [])
      k = poly_dvd p (one_value ∷ []) h

      one_degree : Degree (ValueR d) 0 (one_value ∷ [])
      one_degree = record { lead = value_one_ne d; ends = past }
        where
          past : (i : ℕ) → 0 < i → coefficient (one_value {d = d} ∷ []) i ≡ zero_value
          past zero l = absurd (omega arith)
          past (suc i) l = refl

      low : m.0 ≡ 0
      low = from_degree (degree_of (ValueR d) (value_is_zero d) k.cofactor (λ z. poly_one_ne (ValueD d) ((ListR d).trans k.is ((ListR d).trans ((ListR d).mul_cong {x = p} {y = p} (ListR d).rfl z) (mul_O (ListR d) {x = p})))))
        where
          zero_left : (a b : ℕ) → a + b ≡ 0 → a ≡ 0
          zero_left a b e = omega (arith, e)

          from_degree : (n : ℕ) × Degree (ValueR d) n k.cofactor → m.0 ≡ 0
          from_degree x = zero_left m.0 x.0 (degree_unique (ValueR d) (m.0 + x.0) 0 (one_value ∷ [])
              (degree_same (ValueR d) (m.0 + x.0) ((ListR d).◌⊠◌ p k.cofactor) (one_value ∷ []) ((ListR d).symm k.is)
              (degree-mul (ValueD d) m.0 x.0 p k.cofactor (record { lead = λ z. value_one_ne d (sym m.1.top ∙ z); ends = m.1.ends }) x.1)) one_degree)

      go : (n : ℕ) → m.0 ≡ n → poly p ≡ one_polynomial
      go n e = poly_same p (one_value ∷ []) (λ i. at i)
        where
          at : (i : ℕ) → coefficient p i ≡ coefficient (one_value ∷ []) i
          at zero = subst (λ (j : ℕ). coefficient p j ≡ one_value) low m.1.top
          at (suc i) = m.1.ends (suc i) (omega (arith, low))

  -- in the end
  pub inverse_end : (w u x t : Polynomial d) → x ≡ one_polynomial → IsMultiple w u x t → IsMultiple w u one_polynomial t
  inverse_end w u x t e m = subst (λ y. IsMultiple w u y t) e m

  pub coprime_zero : (x y : Polynomial d) → y ≡ zero_polynomial → Coprime (PolynomialR d) x y → Divides (PolynomialR d) x one_polynomial
  coprime_zero x y e c = coprime_unit (PolynomialR d) x y x (dvd_refl (PolynomialR d) x) (subst (λ z. Divides (PolynomialR d) x z) (sym e) (dvd_O (PolynomialR d) x)) c

  -- the rest of u by w is coprime to w as u is
  pub coprime_rest : (w u q r : Polynomial d) → u ≡ q *ᵖ w +ᵖ r → Coprime (PolynomialR d) w u → Coprime (PolynomialR d) w r
  coprime_rest w u q r h c = record {
    u = c.u +ᵖ c.w *ᵖ q;
    w = c.w;
    comb = by (PolynomialR d) (w ∷ u ∷ q ∷ r ∷ c.u ∷ c.w ∷ []) ((PolynomialR d).add_cong c.comb (scale (PolynomialR d) (neg_polynomial c.w) h)) (search reads depth 20 fits 4000) refl;
  }

module _ {K : Type 0} {d : ℕ} (v : K → Value d) where
  some : (xs : List K) → ¬ (poly (map v xs) ≡ zero_polynomial) → 0 < length xs
  some [] h = absurd (h refl)
  some (x ∷ xs) h = omega arith

  inside : (n : ℕ) → 0 < n → n - 1 < n
  inside n l = omega arith

  -- a polynomial and its factor over its leading coefficient
  pub scaled_last : (xs l : List K) (last : K) (one c : Value d) (x' t t' : Polynomial d) → l ≡ xs → EndsNonzero (map v xs) → last ≡ get_or l (length l - 1) last
      → one ≡ one_value → c ≡ one /ᵛ v last → ¬ (poly (map v xs) ≡ zero_polynomial) → x' ≡ constant (inv_value (coefficient (map v xs) (length xs - 1))) *ᵖ poly (map v xs) → t' ≡ constant c *ᵖ t → IsScaled (poly (map v xs)) t x' t'
  scaled_last xs l last one c x' t t' e ends is o k ne hx ht = record {
    c = inv_value top;
    inverse = top;
    unit = value_mul-inv d top (last_nonzero v xs ends ne);
    value = hx;
    factor = ht ∙ ap (λ z. constant z *ᵖ t) (k ∙ ap (λ z. z *ᵛ inv_value (v last)) o ∙ one_times (inv_value (v last)) ∙ ap inv_value (sym read));
  }
    where
      top : Value d
      top = coefficient (map v xs) (length xs - 1)

      one_times : (x : Value d) → one_value *ᵛ x ≡ x
      one_times x = ring (ValueR d) (x ∷ []) (search reads depth 12) refl

      read : top ≡ v last
      read = at_read v xs (length xs - 1) last (inside (length xs) (some xs ne)) (subst (λ (l : List K). last ≡ get_or l (length l - 1) last) e is)

module _ {d : ℕ} where
  pub monic_same : (p q : List (Value d)) → poly p ≡ poly q → IsMonic q → IsMonic p
  monic_same p q e m = (m.0, record { top = same_poly p q e m.0 ∙ m.1.top; ends = λ i l. same_poly p q e i ∙ m.1.ends i l })

  pub monic_some : (p : List (Value d)) → IsMonic p → ¬ (poly p ≡ zero_polynomial)
  monic_some p m z = value_one_ne d (sym m.1.top ∙ same_poly p [] z m.0)

  pub start_first : (w u x t : Polynomial d) → x ≡ w → t ≡ zero_polynomial → IsMultiple w u x t
  start_first w u x t e k = subst (λ x. IsMultiple w u x t) (sym e) (subst (λ t. IsMultiple w u w t) (sym k) (multiple_start w u))

  pub start_second : (w u q r t : Polynomial d) → u ≡ q *ᵖ w +ᵖ r → t ≡ one_polynomial → IsMultiple w u r t
  start_second w u q r t h k = subst (λ t. IsMultiple w u r t) (sym k) (multiple_first w u q r h)

  pub start_apart : (w u x q r : Polynomial d) → x ≡ w → u ≡ q *ᵖ w +ᵖ r → Coprime (PolynomialR d) w u → Coprime (PolynomialR d) x r
  start_apart w u x q r e h c = subst (λ x. Coprime (PolynomialR d) x r) (sym e) (coprime_rest w u q r h c)
