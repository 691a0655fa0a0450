-- Common factors taken out of two polynomials, and factors that only one of them has.
--   bezout_lists       each two polynomials have a common divisor that is a combination of them
--   gcd_both           gcd (l a) (l b) = l gcd a b
--   gcd_left           gcd (l a) b = gcd a b, where l and b are coprime
--   gcd_swap           gcd a b = gcd b a
--   coprime_rest       what leaves a constant rest other than 0 is coprime to l
--   keeps_start, keeps_both, keeps_left, keeps_right    it begins with 1; l out of both; l out of one, where it leaves a rest in the other
--   keeps_some         where p and q aren't both 0, a and b aren't
--   keeps_end          a multiple by a unit
use Rattle.std.proofs.Common.{◌≡◌, ℕ, zero, suc, ◌≤◌, sym, refl, ◌∙◌, ap, subst, List, [], ◌∷◌, ◌++◌, map, length, ◌↔◌, arith}
use Rattle.sg_algebra.proofs.Lists.{length_map}
use Rattle.sg_algebra.specs.Coefficients.{poly_mul}
use Rattle.sg_algebra.proofs.Solver.{ring, by, scale, reads}
use Rattle.sg_algebra.proofs.Value.{Value, zero_value, one_value, inv_value}
use Rattle.sg_algebra.proofs.ValueField.{ValueR, ValueF, value_mul-inv, value_mul_comm, value_one_ne}
use Rattle.sg_algebra.proofs.Polynomial.{Polynomial, PolynomialR, poly, poly_cong, same_poly, poly-add, poly-mul, constant, coefficient, zero_polynomial, one_polynomial, ◌+ᵖ◌, ◌-ᵖ◌, ◌*ᵖ◌}
use Rattle.sg_algebra.proofs.Divides.{dvd_refl, dvd_trans, dvd-scale, dvd-mul, dvd_O}
use Rattle.sg_algebra.proofs.Coprime.{Coprime, coprime_symm, coprime_dvd, gauss}
use Rattle.sg_algebra.proofs.Euclid.{Bezout, bezout_dvd, bezout-scale, greatest}
use Rattle.sg_algebra.proofs.Division.{bezoutPoly}
use Rattle.sg_poly.proofs.Dividers.{constants}
use Rattle.sg_poly.specs.Divisors.{◌∣ᵖ◌, IsGcd}
use Rattle.sg_poly.specs.Splits.{KeepsGcd}

module _ {d : ℕ} where
  pub bezout_lists : (p q : List (Value d)) → Bezout (PolynomialR d) (poly p) (poly q)
  bezout_lists p q =
      let c = bezoutPoly (ValueF d) p q in
      record {
        g = poly c.g;
        u = poly c.u;
        w = poly c.w;
        s = poly c.s;
        t = poly c.t;
        comb = ap (λ x. x +ᵖ poly c.w *ᵖ poly q) (sym (poly-mul c.u p)) ∙ ap (λ x. poly (poly_mul (ValueR d) c.u p) +ᵖ x) (sym (poly-mul c.w q)) ∙ sym (poly-add (poly_mul (ValueR d) c.u p) (poly_mul (ValueR d) c.w q)) ∙ poly_cong c.comb;
        of_a = sym (poly-mul c.g c.s) ∙ poly_cong c.of_a;
        of_b = sym (poly-mul c.g c.t) ∙ poly_cong c.of_b;
      }

  pub gcd_both : (l c a b : Polynomial d) → Bezout (PolynomialR d) a b → IsGcd c a b → IsGcd (l *ᵖ c) (l *ᵖ a) (l *ᵖ b)
  gcd_both l c a b z h = record {
    left = dvd-mul (PolynomialR d) l c l a (dvd_refl (PolynomialR d) l) h.left;
    right = dvd-mul (PolynomialR d) l c l b (dvd_refl (PolynomialR d) l) h.right;
    greatest = λ e u v. dvd_trans (PolynomialR d) e (l *ᵖ z.g) (l *ᵖ c)
        (greatest (PolynomialR d) (l *ᵖ a) (l *ᵖ b) e (bezout-scale (PolynomialR d) l a b z) u v)
        (dvd-mul (PolynomialR d) l z.g l c (dvd_refl (PolynomialR d) l) (h.greatest z.g (bezout_dvd (PolynomialR d) a b z).0 (bezout_dvd (PolynomialR d) a b z).1));
  }

  pub gcd_swap : (c a b : Polynomial d) → IsGcd c a b → IsGcd c b a
  gcd_swap c a b h = record { left = h.right; right = h.left; greatest = λ e u v. h.greatest e v u }

  pub gcd_left : (l c a b : Polynomial d) → Coprime (PolynomialR d) l b → IsGcd c a b → IsGcd c (l *ᵖ a) b
  gcd_left l c a b k h = record {
    left = dvd-scale (PolynomialR d) c l a h.left;
    right = h.right;
    greatest = λ e u v. h.greatest e (gauss (PolynomialR d) e l a (coprime_dvd (PolynomialR d) b l e v (coprime_symm (PolynomialR d) l b k)) u) v;
  }

  rest_unit : (l b q e w : Polynomial d) → b ≡ q *ᵖ l +ᵖ e → w *ᵖ e ≡ one_polynomial → (zero_polynomial -ᵖ w *ᵖ q) *ᵖ l +ᵖ w *ᵖ b ≡ one_polynomial
  rest_unit l b q e w h k = by (PolynomialR d) (l ∷ b ∷ q ∷ e ∷ w ∷ []) ((PolynomialR d).add_cong (scale (PolynomialR d) w h) k) (search reads depth 20 fits 4000) refl

  constant_rest : (l b q : Polynomial d) (r : List (Value d)) → length r ≤ 1 → ¬ (poly r ≡ zero_polynomial) → b ≡ q *ᵖ l +ᵖ poly r → Coprime (PolynomialR d) l b
  constant_rest l b q [] s n h = absurd (n refl)
  constant_rest l b q (x ∷ []) s n h = record {
    u = zero_polynomial -ᵖ constant (inv_value x) *ᵖ q;
    w = constant (inv_value x);
    comb = rest_unit l b q (constant x) (constant (inv_value x)) h
        (constants (inv_value x) x (value_mul_comm d (inv_value x) x ∙ value_mul-inv d x (λ z. n (ap constant z ∙ poly_cong (record { image = record { at = empty } })))));
  }
    where
      empty : (k : ℕ) → coefficient (zero_value {d = d} ∷ []) k ≡ coefficient [] k
      empty zero = refl
      empty (suc k) = refl
  constant_rest l b q (x ∷ y ∷ r) s n h = absurd (omega arith)

  pub coprime_rest : {K : Type 0} (v : K → Value d) (l b q : Polynomial d) (r : List K) → length r ≤ 1 → ¬ (poly (map v r) ≡ zero_polynomial) → b ≡ q *ᵖ l +ᵖ poly (map v r) → Coprime (PolynomialR d) l b
  coprime_rest v l b q r s n h = constant_rest l b q (map v r) (omega (arith, s, length_map v r)) n h

  -- ---- Taking out

  exactly : (a q l r : Polynomial d) → a ≡ q *ᵖ l +ᵖ r → r ≡ zero_polynomial → l *ᵖ q ≡ a
  exactly a q l r e z = by (PolynomialR d) (a ∷ q ∷ l ∷ r ∷ []) ((PolynomialR d).neg_cong ((PolynomialR d).add_cong e z)) (search reads depth 16) refl

  turned : (g l c n : Polynomial d) → n ≡ g *ᵖ l → g *ᵖ (l *ᵖ c) ≡ n *ᵖ c
  turned g l c n e = by (PolynomialR d) (g ∷ l ∷ c ∷ n ∷ []) ((PolynomialR d).neg_cong (scale (PolynomialR d) c e)) (search reads depth 16) refl

  one_times : (g c : Polynomial d) → g ≡ one_polynomial → c ≡ g *ᵖ c
  one_times g c e = by (PolynomialR d) (g ∷ c ∷ []) ((PolynomialR d).neg_cong (scale (PolynomialR d) c e)) (search reads depth 16) refl

  pub keeps_start : (g a b p q : Polynomial d) → g ≡ one_polynomial → a ≡ p → b ≡ q → KeepsGcd g a b p q
  keeps_start g a b p q e h k = rw (h, k) (record { lifts = λ c i. subst (λ x. IsGcd x p q) (one_times g c e) i })

  pub keeps_both : (g a b p q l n a' b' ra rb : Polynomial d) → Bezout (PolynomialR d) a' b' → a ≡ a' *ᵖ l +ᵖ ra → ra ≡ zero_polynomial → b ≡ b' *ᵖ l +ᵖ rb → rb ≡ zero_polynomial → n ≡ g *ᵖ l → KeepsGcd g a b p q → KeepsGcd n a' b' p q
  keeps_both g a b p q l n a' b' ra rb z e u h v m k = record {
    lifts = λ c i. subst (λ x. IsGcd x p q) (turned g l c n m)
        (k.lifts (l *ᵖ c) (subst (λ x. IsGcd (l *ᵖ c) x b) (exactly a a' l ra e u) (subst (λ x. IsGcd (l *ᵖ c) (l *ᵖ a') x) (exactly b b' l rb h v) (gcd_both l c a' b' z i))));
  }

  pub keeps_left : (g a b p q l a' ra : Polynomial d) → Coprime (PolynomialR d) l b → a ≡ a' *ᵖ l +ᵖ ra → ra ≡ zero_polynomial → KeepsGcd g a b p q → KeepsGcd g a' b p q
  keeps_left g a b p q l a' ra z e u k = record { lifts = λ c i. k.lifts c (subst (λ x. IsGcd c x b) (exactly a a' l ra e u) (gcd_left l c a' b z i)) }

  pub keeps_swap : (g a b p q : Polynomial d) → KeepsGcd g a b p q → KeepsGcd g b a p q
  keeps_swap g a b p q k = record { lifts = λ c i. k.lifts c (gcd_swap c b a i) }

  pub keeps_right : (g a b p q l b' rb : Polynomial d) → Coprime (PolynomialR d) l a → b ≡ b' *ᵖ l +ᵖ rb → rb ≡ zero_polynomial → KeepsGcd g a b p q → KeepsGcd g a b' p q
  keeps_right g a b p q l b' rb z e u k = keeps_swap g b' a p q (keeps_left g b a p q l b' rb z e u (keeps_swap g a b p q k))

  -- ---- The end

  times_zero : (g s : Polynomial d) → (g *ᵖ zero_polynomial) *ᵖ s ≡ zero_polynomial
  times_zero g s = ring (PolynomialR d) (g ∷ s ∷ []) (search reads depth 12) refl

  zero_gcd : (a b : Polynomial d) → a ≡ zero_polynomial → b ≡ zero_polynomial → IsGcd zero_polynomial a b
  zero_gcd a b e h = rw (e, h) (record { left = dvd_O (PolynomialR d) zero_polynomial; right = dvd_O (PolynomialR d) zero_polynomial; greatest = λ c u v. u })

  pub keeps_some : (g a b p q : Polynomial d) → KeepsGcd g a b p q → ¬ ((p ≡ zero_polynomial) × (q ≡ zero_polynomial)) → ¬ ((a ≡ zero_polynomial) × (b ≡ zero_polynomial))
  keeps_some g a b p q k n z =
      let h = k.lifts zero_polynomial (zero_gcd a b z.0 z.1) in
      n (h.left.is ∙ times_zero g h.left.cofactor, h.right.is ∙ times_zero g h.right.cofactor)

  of_nothing : (s : Polynomial d) → zero_polynomial *ᵖ s ≡ zero_polynomial
  of_nothing s = ring (PolynomialR d) (s ∷ []) (search reads depth 12) refl

  pub gcd_some : (g p q : Polynomial d) → IsGcd g p q → ¬ ((p ≡ zero_polynomial) × (q ≡ zero_polynomial)) → ¬ (g ≡ zero_polynomial)
  gcd_some g p q h n z = n (h.left.is ∙ ap (λ x. x *ᵖ h.left.cofactor) z ∙ of_nothing h.left.cofactor, h.right.is ∙ ap (λ x. x *ᵖ h.right.cofactor) z ∙ of_nothing h.right.cofactor)

  pub gcd_unit : (g r p q : Polynomial d) → IsGcd g p q → ((c : Polynomial d) → (c ∣ᵖ r) ↔ (c ∣ᵖ g)) → IsGcd r p q
  gcd_unit g r p q h u =
      let z = (u r).0 (dvd_refl (PolynomialR d) r) in
      record { left = dvd_trans (PolynomialR d) r g p z h.left; right = dvd_trans (PolynomialR d) r g q z h.right; greatest = λ c k l. (u c).1 (h.greatest c k l) }

  pub keeps_end : (g a b p q c w r : Polynomial d) → KeepsGcd g a b p q → IsGcd c a b → w ≡ g *ᵖ c → ((x : Polynomial d) → (x ∣ᵖ r) ↔ (x ∣ᵖ w)) → IsGcd r p q
  keeps_end g a b p q c w r k h e u = gcd_unit w r p q (subst (λ x. IsGcd x p q) (sym e) (k.lifts c h)) u

  pub keeps_same : (g a b g' a' b' p q : Polynomial d) → g' ≡ g → a' ≡ a → b' ≡ b → KeepsGcd g a b p q → KeepsGcd g' a' b' p q
  keeps_same g a b g' a' b' p q e f h k = rw (e, f, h) k

  pub keeps_gcd : (g a b p q c w : Polynomial d) → KeepsGcd g a b p q → IsGcd c a b → w ≡ g *ᵖ c → IsGcd w p q
  keeps_gcd g a b p q c w k h e = subst (λ x. IsGcd x p q) (sym e) (k.lifts c h)
