-- Polynomials in lowest terms.
--   coprime_parts     what is left of two polynomials, when their greatest common divisor is taken out, is coprime
--   coprime_units     so it is after both are multiplied by a constant that isn't 0
--   coprime_cross     a product's parts, when what is common across is taken out
--   coprime_sum, coprime_difference    a sum over the least common denominator
--   factor_ne         a factor of a polynomial that is not 0 is not 0
--   lowest_parts      two equal fractions in lowest terms with monic lower parts have the same parts
use Rattle.std.proofs.Common.{◌≡◌, ℕ, refl, sym, ◌∙◌, ap, ap₂, List, [], ◌∷◌}
use Rattle.sg_algebra.specs.Coefficients.{poly_mul}
use Rattle.sg_algebra.proofs.Solver.{ring, by, scale, reads}
use Rattle.sg_algebra.proofs.Coprime.{Coprime, coprime_symm, coprime_dvd, coprime_dvd_both, coprime-mul, unit_between}
use Rattle.sg_algebra.proofs.Division.{bezoutPoly}
use Rattle.sg_algebra.proofs.Euclid.{Bezout}
use Rattle.sg_algebra.proofs.PolynomialLowest.{unit_constant, monic_same}
use Rattle.sg_algebra.proofs.Value.{Value, zero_value, one_value, inv_value}
use Rattle.sg_algebra.proofs.ValueField.{ValueR, ValueF, ValueD, value_mul-inv, value_mul_comm}
use Rattle.sg_algebra.proofs.Polynomial.{Polynomial, PolynomialR, PolynomialD, ListR, poly, poly_cong, poly-add, poly-mul, same_list, listed, polynomial_set, polynomial_cancel, constant, zero_polynomial, one_polynomial, ◌+ᵖ◌, ◌-ᵖ◌, ◌*ᵖ◌}
use Rattle.sg_poly.specs.Divisors.{◌∣ᵖ◌, IsMonic, IsGcd}
use Rattle.sg_poly.proofs.Dividers.{monic_some, constants}

module _ {d : ℕ} where
  abbrev pub Prime : Polynomial d → Polynomial d → Type 0
  Prime p q = Coprime (PolynomialR d) p q

  multiple : (p s g b t : Polynomial d) → p ≡ s *ᵖ g → b *ᵖ t ≡ s → p ≡ (g *ᵖ b) *ᵖ t
  multiple p s g b t e h = by (PolynomialR d) (p ∷ s ∷ g ∷ b ∷ t ∷ []) ((PolynomialR d).add_cong e ((PolynomialR d).neg_cong (scale (PolynomialR d) g h))) (search reads depth 20 fits 4000) refl

  cancelled : (g b c : Polynomial d) → ¬ (g ≡ zero_polynomial) → g ≡ (g *ᵖ b) *ᵖ c → b *ᵖ c ≡ one_polynomial
  cancelled g b c n e = polynomial_cancel d {c = g} n (by (PolynomialR d) (g ∷ b ∷ c ∷ []) ((PolynomialR d).symm e) (search reads depth 16) refl)

  combined : (u w s t b c : Polynomial d) → u *ᵖ s +ᵖ w *ᵖ t ≡ b → b *ᵖ c ≡ one_polynomial → (c *ᵖ u) *ᵖ s +ᵖ (c *ᵖ w) *ᵖ t ≡ one_polynomial
  combined u w s t b c e h = by (PolynomialR d) (u ∷ w ∷ s ∷ t ∷ b ∷ c ∷ []) ((PolynomialR d).add_cong (scale (PolynomialR d) c e) h) (search reads depth 20 fits 4000) refl

  pub coprime_parts : (p q g : Polynomial d) (s t : List (Value d)) → IsGcd g p q → ¬ (g ≡ zero_polynomial) → p ≡ poly s *ᵖ g → q ≡ poly t *ᵖ g → Prime (poly s) (poly t)
  coprime_parts p q g s t c n e h = made
    where
      b : Bezout (ListR d) s t
      b = bezoutPoly (ValueF d) s t

      of_s : poly b.g *ᵖ poly b.s ≡ poly s
      of_s = sym (poly-mul b.g b.s) ∙ poly_cong b.of_a

      of_t : poly b.g *ᵖ poly b.t ≡ poly t
      of_t = sym (poly-mul b.g b.t) ∙ poly_cong b.of_b

      f : (g *ᵖ poly b.g) ∣ᵖ g
      f = c.greatest (g *ᵖ poly b.g) (record { cofactor = poly b.s; is = multiple p (poly s) g (poly b.g) (poly b.s) e of_s }) (record { cofactor = poly b.t; is = multiple q (poly t) g (poly b.g) (poly b.t) h of_t })

      sum : poly b.u *ᵖ poly s +ᵖ poly b.w *ᵖ poly t ≡ poly b.g
      sum = sym (poly-add (poly_mul (ValueR d) b.u s) (poly_mul (ValueR d) b.w t) ∙ ap₂ ◌+ᵖ◌ (poly-mul b.u s) (poly-mul b.w t)) ∙ poly_cong b.comb

      made : Prime (poly s) (poly t)
      made = record {
        u = f.cofactor *ᵖ poly b.u;
        w = f.cofactor *ᵖ poly b.w;
        comb = combined (poly b.u) (poly b.w) (poly s) (poly t) (poly b.g) f.cofactor sum (cancelled g (poly b.g) f.cofactor n f.is);
      }

  undone : (p r a b : Polynomial d) → r ≡ a *ᵖ p → a *ᵖ b ≡ one_polynomial → p ≡ r *ᵖ b
  undone p r a b e u = by (PolynomialR d) (p ∷ r ∷ a ∷ b ∷ []) ((PolynomialR d).neg_cong ((PolynomialR d).add_cong (scale (PolynomialR d) b e) (scale (PolynomialR d) p u))) (search reads depth 20 fits 4000) refl

  pub unit_constants : (x : Value d) → ¬ (x ≡ zero_value) → constant (inv_value x) *ᵖ constant x ≡ one_polynomial
  unit_constants x h = constants (inv_value x) x (value_mul_comm d (inv_value x) x ∙ value_mul-inv d x h)

  pub coprime_units : (p q r s : Polynomial d) (x : Value d) → ¬ (x ≡ zero_value) → r ≡ constant (inv_value x) *ᵖ p → s ≡ constant (inv_value x) *ᵖ q → Prime p q → Prime r s
  coprime_units p q r s x h e f c = coprime_dvd_both (PolynomialR d) p q r s
      (record { cofactor = constant x; is = undone p r (constant (inv_value x)) (constant x) e (unit_constants x h) })
      (record { cofactor = constant x; is = undone q s (constant (inv_value x)) (constant x) f (unit_constants x h) }) c

  left_part : (p l g : Polynomial d) → p ≡ l *ᵖ g → l ∣ᵖ p
  left_part p l g e = record { cofactor = g; is = e }

  -- (a/b) (c/d), where a and d have g in common, and c and b have h
  pub coprime_cross : (a b c e g h a' e' c' b' n m : Polynomial d) → Prime a b → Prime c e → a ≡ a' *ᵖ g → e ≡ e' *ᵖ g → c ≡ c' *ᵖ h → b ≡ b' *ᵖ h → Prime a' e' → Prime c' b'
      → n ≡ a' *ᵖ c' → m ≡ b' *ᵖ e' → Prime n m
  coprime_cross a b c e g h a' e' c' b' n m ab ce ia ie ic ib ae cb in' im =
      let R = PolynomialR d in
      let ab' : Prime a' b' = coprime_dvd_both R a b a' b' (left_part a a' g ia) (left_part b b' h ib) ab in
      let ce' : Prime c' e' = coprime_dvd_both R c e c' e' (left_part c c' h ic) (left_part e e' g ie) ce in
      let upper : Prime a' (b' *ᵖ e') = coprime-mul R a' b' e' ab' ae in
      let lower : Prime c' (b' *ᵖ e') = coprime-mul R c' b' e' cb ce' in
      rw (in', im) (coprime_symm R (b' *ᵖ e') (a' *ᵖ c') (coprime-mul R (b' *ᵖ e') a' c' (coprime_symm R a' (b' *ᵖ e') upper) (coprime_symm R c' (b' *ᵖ e') lower)))

  -- n is a times something, up to a multiple of b
  pub coprime_shifted : (a b n k : Polynomial d) → Prime a b → n ≡ a +ᵖ k *ᵖ b → Prime n b
  coprime_shifted a b n k c e = record {
    u = c.u;
    w = c.w -ᵖ c.u *ᵖ k;
    comb = by (PolynomialR d) (a ∷ b ∷ n ∷ k ∷ c.u ∷ c.w ∷ []) ((PolynomialR d).add_cong c.comb (scale (PolynomialR d) c.u e)) (search reads depth 20 fits 4000) refl;
  }

  -- n = a d' + k b', over b' d' g, where b = b' g and d = d' g; n = n' h and g = g' h
  pub coprime_sum : (a b c e g h b' e' n n' g' k m : Polynomial d) → Prime a b → Prime c e → b ≡ b' *ᵖ g → e ≡ e' *ᵖ g → Prime b' e' → n ≡ n' *ᵖ h → Prime n' g'
      → (Prime c e' → Prime k e') → n ≡ a *ᵖ e' +ᵖ k *ᵖ b' → m ≡ (b' *ᵖ e') *ᵖ g' → Prime n' m
  coprime_sum a b c e g h b' e' n n' g' k m ab ce ib ie be in' ng kc is im =
      let R = PolynomialR d in
      let ab' : Prime a b' = coprime_dvd_both R a b a b' (record { cofactor = one_polynomial; is = self a }) (left_part b b' g ib) ab in
      let ce' : Prime k e' = kc (coprime_dvd_both R c e c e' (record { cofactor = one_polynomial; is = self c }) (left_part e e' g ie) ce) in
      let nb : Prime n b' = coprime_shifted (a *ᵖ e') b' n k (coprime_symm R b' (a *ᵖ e') (coprime-mul R b' a e' (coprime_symm R a b' ab') be)) is in
      let ne : Prime n e' = coprime_shifted (k *ᵖ b') e' n a (coprime_symm R e' (k *ᵖ b') (coprime-mul R e' k b' (coprime_symm R k e' ce') (coprime_symm R b' e' be))) (is ∙ swap (a *ᵖ e') (k *ᵖ b')) in
      let mb : Prime n' b' = coprime_dvd R n b' n' (left_part n n' h in') nb in
      let me : Prime n' e' = coprime_dvd R n e' n' (left_part n n' h in') ne in
      rw im (coprime-mul R n' (b' *ᵖ e') g' (coprime-mul R n' b' e' mb me) ng)
    where
      self : (x : Polynomial d) → x ≡ x *ᵖ one_polynomial
      self x = ring (PolynomialR d) (x ∷ []) (search reads depth 12) refl

      swap : (x y : Polynomial d) → x +ᵖ y ≡ y +ᵖ x
      swap x y = ring (PolynomialR d) (x ∷ y ∷ []) (search reads depth 12) refl

  -- ---- Lowest terms are unique

  one_unit : (q s : List (Value d)) → IsMonic q → IsMonic s → (m m' : Polynomial d) → poly s ≡ poly q *ᵖ m → m *ᵖ m' ≡ one_polynomial → m ≡ one_polynomial
  one_unit q s a b = listed (λ m. (m' : Polynomial d) → poly s ≡ poly q *ᵖ m → m *ᵖ m' ≡ one_polynomial → m ≡ one_polynomial) (λ m. hlevel (polynomial_set d))
      (λ m. listed (λ m'. poly s ≡ poly q *ᵖ poly m → poly m *ᵖ m' ≡ one_polynomial → poly m ≡ one_polynomial) (λ m'. hlevel (polynomial_set d)) (at m))
    where
      at : (m m' : List (Value d)) → poly s ≡ poly q *ᵖ poly m → poly m *ᵖ poly m' ≡ one_polynomial → poly m ≡ one_polynomial
      at m m' e h = poly_cong (monic_same (ValueD d) a.0 b.0 q s m a.1 b.1 (same_list s (poly_mul (ValueR d) q m) (e ∙ sym (poly-mul q m)))
          (unit_constant (ValueD d) m m' (same_list (poly_mul (ValueR d) m m') (one_value ∷ []) (poly-mul m m' ∙ h))))

  times_one : (p m : Polynomial d) → m ≡ one_polynomial → p *ᵖ m ≡ p
  times_one p m e = rw e (ring (PolynomialR d) (p ∷ []) (search reads depth 12) refl)

  pub lowest_parts : (p q r s : List (Value d)) → Prime (poly p) (poly q) → Prime (poly r) (poly s) → IsMonic q → IsMonic s → poly p *ᵖ poly s ≡ poly r *ᵖ poly q → (poly p ≡ poly r) × (poly q ≡ poly s)
  lowest_parts p q r s c k a b e =
      let u = unit_between (PolynomialD d) (poly p) (poly q) (poly r) (poly s) (monic_some q a) c k e in
      let one : u.m ≡ one_polynomial = one_unit q s a b u.m u.m' u.lower u.unit in
      (sym (u.upper ∙ times_one (poly p) u.m one), sym (u.lower ∙ times_one (poly q) u.m one))

  nothing_times : (g : Polynomial d) → zero_polynomial *ᵖ g ≡ zero_polynomial
  nothing_times g = ring (PolynomialR d) (g ∷ []) (search reads depth 12) refl

  -- a factor of what isn't 0
  pub factor_ne : (q r g : Polynomial d) → q ≡ r *ᵖ g → ¬ (q ≡ zero_polynomial) → ¬ (r ≡ zero_polynomial)
  factor_ne q r g e n z = n (e ∙ ap (λ x. x *ᵖ g) z ∙ nothing_times g)
