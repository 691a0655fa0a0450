-- Lemmas of the reduction: what one shift takes out of an equation.
--   factor_some, product_some    factors and products of what isn't 0
--   multiple_right               p q is a multiple of q' where q is q' times a part of p q
--   product_start, product_more  d(k+1) .. d(k+n-1), one factor after the other
--   back_divides, back_again     what e is moved back by n divides b, where e divides b at k + n; and at k + n it is e
--   advances, apart_after        the equation after e is taken out
--   advances_same                nothing is done
use Rattle.std.proofs.Common.{◌≡◌, ℕ, zero, suc, ◌+◌, ◌-◌, ◌<◌, ◌≤◌, refl, sym, ◌∙◌, ap, ap₂, subst, List, [], ◌∷◌, ◌⊎◌, inl, inr, length, Contains, get_or, ◌↔◌, ℤ, pos, neg_ℤ, arith}
use Rattle.std.proofs.lemmas.List.{get_or_default}
use Rattle.sg_algebra.proofs.Solver.{ring, by, scale, reads}
use Rattle.sg_algebra.proofs.Ring.{nat, O_mul}
use Rattle.sg_algebra.proofs.Divides.{Divides, dvd_on, dvd_same, dvd_trans, iter}
use Rattle.sg_algebra.proofs.Coprime.{Coprime}
use Rattle.sg_algebra.proofs.Euclid.{Bezout, bezout_dvd, coprime_of_unit}
use Rattle.sg_algebra.proofs.Division.{bezoutPoly}
use Rattle.sg_algebra.proofs.Degree.{Degree, degree_of}
use Rattle.sg_algebra.proofs.MonicLowest.{constants-inverse}
use Rattle.sg_algebra.proofs.Shift.{moved, movedH, moved_cong, moved-moved, moved-O, moved-back}
use Rattle.sg_algebra.proofs.Value.{Value, ◌+ᵛ◌, neg_value, inv_value, zero_value}
use Rattle.sg_algebra.proofs.ValueField.{ValueR, ValueF, value_is_zero}
use Rattle.sg_algebra.proofs.Rational.{whole_value}
use Rattle.sg_algebra.proofs.Polynomial.{Polynomial, PolynomialR, PolynomialD, ListR, poly, poly_cong, same_list, same_poly, coefficient, poly-mul, polynomial_factor, zero_polynomial, one_polynomial, ◌*ᵖ◌}
use Rattle.sg_poly.specs.Divisors.{◌∣ᵖ◌, IsGcd}
use Rattle.sg_poly.specs.Polynomials.{polynomial}
use Rattle.sg_dispersion_theory.proofs.Listed.{poly_dvd, coprime_poly}
use Rattle.sg_first_order_theory.proofs.Reduction.{reduction_start as start, images, images-first, reduction_step, coprime_step, coprime_after}
use Rattle.sg_first_order_theory.proofs.Next.{next, nextH, next-mul, next-one, next-zero, next_keeps, iter_next, bezout_polynomial}
use Rattle.sg_spread.specs.Shifts.{Meets}
use Rattle.sg_rational.specs.Reductions.{Apart, IsReduction, Advances}

module _ {d : ℕ} where
  nothing_left : (x y : Polynomial d) → x ≡ zero_polynomial → x *ᵖ y ≡ zero_polynomial
  nothing_left x y e = rw e (ring (PolynomialR d) (y ∷ []) (search reads depth 12) refl)

  nothing_right : (x y : Polynomial d) → y ≡ zero_polynomial → x *ᵖ y ≡ zero_polynomial
  nothing_right x y e = rw e (ring (PolynomialR d) (x ∷ []) (search reads depth 12) refl)

  pub factor_some : (q r g : Polynomial d) → q ≡ r *ᵖ g → ¬ (q ≡ zero_polynomial) → ¬ (r ≡ zero_polynomial)
  factor_some q r g e n z = n (e ∙ nothing_left r g z)

  pub product_some : (p q r : Polynomial d) → r ≡ p *ᵖ q → ¬ (p ≡ zero_polynomial) → ¬ (q ≡ zero_polynomial) → ¬ (r ≡ zero_polynomial)
  product_some p q r e h k z = k (polynomial_factor p q h (sym e ∙ z))

  pub multiple_left : (p s r : Polynomial d) → r ≡ p *ᵖ s → p ∣ᵖ r
  multiple_left p s r e = record { cofactor = s; is = e }

  pub multiple_right : (p q g s t r : Polynomial d) → r ≡ p *ᵖ s → q ≡ s *ᵖ g → p ≡ g *ᵖ t → q ∣ᵖ r
  multiple_right p q g s t r e h k = record { cofactor = t; is = e ∙ by (PolynomialR d) (p ∷ q ∷ g ∷ s ∷ t ∷ []) ((PolynomialR d).add_cong (scale (PolynomialR d) s k) (scale (PolynomialR d) ((PolynomialR d).⊟ t) h)) (search reads depth 20 fits 4000) refl }

  pub cleared_cross : (v p q r s u w : Polynomial d) → v ≡ s *ᵖ u → u ≡ q → w ≡ p → r ≡ s *ᵖ w → r *ᵖ q ≡ v *ᵖ p
  cleared_cross v p q r s u w e h k l = by (PolynomialR d) (v ∷ p ∷ q ∷ r ∷ s ∷ u ∷ w ∷ [])
      ((PolynomialR d).add_cong (scale (PolynomialR d) q l) ((PolynomialR d).add_cong (scale (PolynomialR d) (s *ᵖ q) k) ((PolynomialR d).add_cong (scale (PolynomialR d) ((PolynomialR d).⊟ p) e) (scale (PolynomialR d) ((PolynomialR d).⊟ (s *ᵖ p)) h)))) (search reads depth 24 fits 6000) refl

  -- ---- The product of the shifts

  abbrev between : Polynomial d → ℕ → Polynomial d
  between x n = next (images (PolynomialD d) (nextH d) x n)

  pub product_start : (x p : Polynomial d) (i : ℕ) → i ≡ 1 → p ≡ one_polynomial → p ≡ between x (i - 1)
  product_start x p i e h = h ∙ sym next-one ∙ ap (between x) z
    where
      z : 0 ≡ i - 1
      z = omega arith

  pub product_more : (dl fl : List (Value d)) (p r : Polynomial d) (i : ℕ) → 0 < i → p ≡ between (poly dl) (i - 1) → poly fl ≡ iter (PolynomialR d) (nextH d) i (poly dl) → r ≡ p *ᵖ poly fl → r ≡ between (poly dl) (i + 1 - 1)
  product_more dl fl p r i l h e k = go i l h e
    where
      go : (i : ℕ) → 0 < i → p ≡ between (poly dl) (i - 1) → poly fl ≡ iter (PolynomialR d) (nextH d) i (poly dl) → r ≡ between (poly dl) (i + 1 - 1)
      go zero l h e = absurd (omega arith)
      go (suc h') l h e =
          let s : suc h' - 1 ≡ h' = omega arith in
          let t : suc h' ≡ suc h' + 1 - 1 = omega arith in
          k ∙ ap₂ ◌*ᵖ◌ (h ∙ ap (between (poly dl)) s) e ∙ sym (next-mul (images (PolynomialD d) (nextH d) (poly dl) h') (iter (PolynomialR d) (nextH d) h' (poly dl))) ∙ ap (between (poly dl)) t

  -- ---- Moved back

  back_value : (n : ℕ) → whole_value d (neg_ℤ (pos n)) ≡ neg_value (nat (ValueR d) n)
  back_value zero = sym (ring (ValueR d) [] (search reads depth 12) refl)
  back_value (suc n) = refl

  pub back_again : (n : ℕ) (e dl : List (Value d)) → poly dl ≡ poly (moved (ValueR d) (whole_value d (neg_ℤ (pos n))) e) → iter (PolynomialR d) (nextH d) n (poly dl) ≡ poly e
  back_again n e dl h = iter_next n dl ∙ poly_cong ((ListR d).trans (moved_cong (ValueR d) (nat (ValueR d) n) (nat (ValueR d) n) dl (moved (ValueR d) (whole_value d (neg_ℤ (pos n))) e) refl (same_list dl _ h))
      ((ListR d).trans (moved-moved (ValueR d) (whole_value d (neg_ℤ (pos n))) (nat (ValueR d) n) e)
      ((ListR d).trans (moved_cong (ValueR d) (whole_value d (neg_ℤ (pos n)) +ᵛ nat (ValueR d) n) zero_value e e none (ListR d).rfl) (moved-O (ValueR d) e))))
    where
      none : whole_value d (neg_ℤ (pos n)) +ᵛ nat (ValueR d) n ≡ zero_value
      none = ap (λ x. x +ᵛ nat (ValueR d) n) (back_value n) ∙ ring (ValueR d) (nat (ValueR d) n ∷ []) (search reads depth 12) refl

  pub back_divides : (n : ℕ) (e dl b : List (Value d)) → poly dl ≡ poly (moved (ValueR d) (whole_value d (neg_ℤ (pos n))) e) → poly e ∣ᵖ iter (PolynomialR d) (nextH d) n (poly b) → poly dl ∣ᵖ poly b
  back_divides n e dl b h k = made (dvd_same (ListR d) (moved (ValueR d) (neg_value (nat (ValueR d) n)) e) (moved (ValueR d) (neg_value (nat (ValueR d) n)) (moved (ValueR d) (nat (ValueR d) n) b)) (moved (ValueR d) (neg_value (nat (ValueR d) n)) e) b (ListR d).rfl (moved-back (ValueR d) (nat (ValueR d) n) b)
      (dvd_on (ListR d) (ListR d) (movedH (ValueR d) (neg_value (nat (ValueR d) n))) e (moved (ValueR d) (nat (ValueR d) n) b) (poly_dvd e (moved (ValueR d) (nat (ValueR d) n) b) (rw (iter_next n b) at k))))
    where
      made : Divides (ListR d) (moved (ValueR d) (neg_value (nat (ValueR d) n)) e) b → poly dl ∣ᵖ poly b
      made c = record {
        cofactor = poly c.cofactor;
        is = poly_cong c.is ∙ poly-mul (moved (ValueR d) (neg_value (nat (ValueR d) n)) e) c.cofactor
            ∙ ap (λ x. x *ᵖ poly c.cofactor) (ap (λ x. poly (moved (ValueR d) x e)) (sym (back_value n)) ∙ sym h);
      }

  -- ---- One shift

  iter_zero : (n : ℕ) → iter (PolynomialR d) (nextH d) n zero_polynomial ≡ zero_polynomial
  iter_zero zero = refl
  iter_zero (suc n) = ap next (iter_zero n) ∙ next-zero

  pub moved_some : (n : ℕ) (x e : Polynomial d) → iter (PolynomialR d) (nextH d) n x ≡ e → ¬ (e ≡ zero_polynomial) → ¬ (x ≡ zero_polynomial)
  moved_some n x e again some z = some (sym again ∙ ap (iter (PolynomialR d) (nextH d) n) z ∙ iter_zero n)

  module _ (a b q f e x a' b' s q' f' : Polynomial d) (n : ℕ) (n_some : 0 < n) (common : IsGcd e a (iter (PolynomialR d) (nextH d) n b)) (some : ¬ (e ≡ zero_polynomial))
      (again : iter (PolynomialR d) (nextH d) n x ≡ e) (left : a ≡ a' *ᵖ e) (right : b ≡ b' *ᵖ x) (middle : s ≡ between x (n - 1)) (factor : f' ≡ f *ᵖ s) (t : Polynomial d) (both : t ≡ x *ᵖ s) (lower : q' ≡ q *ᵖ t) where
    root_some : ¬ (x ≡ zero_polynomial)
    root_some = moved_some n x e again some

    pub advances : Advances a b q f a' b' q' f'
    advances = go n n_some again middle
      where
        go : (n : ℕ) → 0 < n → iter (PolynomialR d) (nextH d) n x ≡ e → s ≡ between x (n - 1) → Advances a b q f a' b' q' f'
        go zero l g m = absurd (omega arith)
        go (suc h) l g m =
            let p : suc h - 1 ≡ h = omega arith in
            let m' : s ≡ between x h = m ∙ ap (between x) p in
            record {
              reduction = λ A B r. subst (λ y. IsReduction A B a' b' y f') (ap (λ y. q *ᵖ y) (images-first (PolynomialD d) (nextH d) x h ∙ ap (λ y. x *ᵖ y) (sym m') ∙ sym both) ∙ sym lower)
                  (subst (λ y. IsReduction A B a' b' (q *ᵖ images (PolynomialD d) (nextH d) x (suc h)) y) (ap (λ y. f *ᵖ y) (sym m') ∙ sym factor)
                  (reduction_step (PolynomialD d) (nextH d) next_keeps A B a b q f a' b' x h root_some (left ∙ ap (λ y. a' *ᵖ y) (sym g)) right r));
              left = λ k. factor_some a a' e left k;
              keeps = λ m c. coprime_step (PolynomialD d) (nextH d) a b a' b' e x left right m c;
            }

    pub apart_after : Apart a' b' n
    apart_after = made (bezout_polynomial a (iter (PolynomialR d) (nextH d) n b))
      where
        made : Bezout (PolynomialR d) a (iter (PolynomialR d) (nextH d) n b) → Apart a' b' n
        made c = let k = bezout_dvd (PolynomialR d) a (iter (PolynomialR d) (nextH d) n b) c in let y = common.greatest c.g k.0 k.1 in
            coprime_after (PolynomialD d) (nextH d) a b a' b' x e (c.u *ᵖ y.cofactor) (c.w *ᵖ y.cofactor) n some (sym again) left right
            (by (PolynomialR d) (a ∷ iter (PolynomialR d) (nextH d) n b ∷ c.u ∷ c.w ∷ c.g ∷ y.cofactor ∷ e ∷ []) ((PolynomialR d).add_cong (scale (PolynomialR d) y.cofactor c.comb) ((PolynomialR d).symm y.is)) (search reads depth 20 fits 4000) refl)

  pub advances_same : (a b q f : Polynomial d) → Advances a b q f a b q f
  advances_same a b q f = record { reduction = λ A B r. r; left = λ n. n; keeps = λ m c. c }

  -- ---- The loop

  pub reduction_start : (a b q f : Polynomial d) → q ≡ one_polynomial → f ≡ one_polynomial → IsReduction a b a b q f
  reduction_start a b q f e h = subst (λ x. IsReduction a b a b x f) (sym e) (subst (λ y. IsReduction a b a b one_polynomial y) (sym h) (start (PolynomialD d) (nextH d) a b))

  pub reduction_left : (A B a b q f : Polynomial d) → ¬ (A ≡ zero_polynomial) → IsReduction A B a b q f → ¬ (a ≡ zero_polynomial)
  reduction_left A B a b q f h r z = r.M_ne (polynomial_factor A f h (r.upper ∙ nothing_left a (next q) z))

  pub advances_on : (a b q f a' b' q' f' a'' b'' q'' f'' : Polynomial d) → Advances a b q f a' b' q' f' → Advances a' b' q' f' a'' b'' q'' f'' → Advances a b q f a'' b'' q'' f''
  advances_on a b q f a' b' q' f' a'' b'' q'' f'' h k = record { reduction = λ A B r. k.reduction A B (h.reduction A B r); left = λ n. k.left (h.left n); keeps = λ m c. k.keeps m (h.keeps m c) }

  -- the shifts from the place i on are done
  abbrev pub Done : List ℤ → ℕ → Polynomial d → Polynomial d → Type 0
  Done shifts i a b = (h j : ℕ) → i ≤ j → j < length shifts → get_or shifts j (pos (suc h)) ≡ pos (suc h) → Apart a b (suc h)

  pub done_more : (shifts : List ℤ) (i : ℕ) (m : ℤ) (a b q f a' b' q' f' : Polynomial d) → 0 < i → i ≤ length shifts → m ≡ get_or shifts (i - 1) (pos 0) → Advances a b q f a' b' q' f' → ((h : ℕ) → m ≡ pos (suc h) → Apart a' b' (suc h))
      → Done shifts i a b → Done shifts (i - 1) a' b'
  done_more shifts i m a b q f a' b' q' f' some within read adv this done h j l n e = elim (side j l) [
    | inl p ↦ adv.keeps (suc h) (done h j p n e)
    | inr p ↦ this h (read ∙ get_or_default shifts (i - 1) (pos 0) (pos (suc h)) (omega arith) ∙ ap (λ k. get_or shifts k (pos (suc h))) (sym p) ∙ e)
  ]
    where
      side : (k : ℕ) → i - 1 ≤ k → (i ≤ k) ⊎ (k ≡ i - 1)
      side k g = elim (near k i) [ inl p ↦ inl p | inr p ↦ inr (omega arith) ]
        where
          near : (k i : ℕ) → (i ≤ k) ⊎ (k < i)
          near k i = grind arith

  -- ---- Where two polynomials meet

  pub meets_or_coprime : (a b : List (Value d)) (m : ℤ) → ¬ (poly a ≡ zero_polynomial) → Meets a b m ⊎ Coprime (PolynomialR d) (poly a) (poly (moved (ValueR d) (whole_value d m) b))
  meets_or_coprime a b m some = by_degree (bezoutPoly (ValueF d) a (moved (ValueR d) (whole_value d m) b))
    where
      by_degree : Bezout (ListR d) a (moved (ValueR d) (whole_value d m) b) → Meets a b m ⊎ Coprime (PolynomialR d) (poly a) (poly (moved (ValueR d) (whole_value d m) b))
      by_degree c = go (degree_of (ValueR d) (value_is_zero d) c.g g_some)
        where
          g_some : ¬ ((ListR d).◌≈◌ c.g [])
          g_some z = some (poly_cong ((ListR d).trans ((ListR d).symm c.of_a) ((ListR d).trans ((ListR d).mul_cong {x = c.g} {y = []} {u = c.s} {v = c.s} z (ListR d).rfl) (O_mul (ListR d) {x = c.s}))))

          go : (n : ℕ) × Degree (ValueR d) n c.g → Meets a b m ⊎ Coprime (PolynomialR d) (poly a) (poly (moved (ValueR d) (whole_value d m) b))
          go (zero, e) = inr (coprime_poly a (moved (ValueR d) (whole_value d m) b) (coprime_of_unit (ListR d) a (moved (ValueR d) (whole_value d m) b) c
              (record { cofactor = inv_value (coefficient c.g 0) ∷ []; is = (ListR d).trans ((ListR d).symm (constants-inverse (ValueF d) (coefficient c.g 0) e.lead)) ((ListR d).mul_cong {x = coefficient c.g 0 ∷ []} {y = c.g} {u = inv_value (coefficient c.g 0) ∷ []} {v = inv_value (coefficient c.g 0) ∷ []} (record { image = record { at = flat } }) (ListR d).rfl) })))
            where
              flat : (i : ℕ) → coefficient (coefficient c.g 0 ∷ []) i ≡ coefficient c.g i
              flat zero = refl
              flat (suc i) = sym (e.ends (suc i) (omega arith))
          go (suc n, e) = inl (record {
            common = poly c.g;
            left = record { cofactor = poly c.s; is = sym (sym (poly-mul c.g c.s) ∙ poly_cong c.of_a) };
            right = record { cofactor = poly c.t; is = sym (sym (poly-mul c.g c.t) ∙ poly_cong c.of_b) };
            positive = λ x h. e.lead (same_poly c.g (x ∷ []) h (suc n));
          })

  pub all_apart : (shifts : List ℤ) (al bl : List (Value d)) (q f a' b' q' f' : Polynomial d) → ¬ (poly al ≡ zero_polynomial) → ((m : ℤ) → Contains shifts m ↔ Meets al bl m)
      → Advances (poly al) (poly bl) q f a' b' q' f' → ((h : ℕ) → Contains shifts (pos (suc h)) → Apart a' b' (suc h)) → (h : ℕ) → Apart a' b' (suc h)
  all_apart shifts al bl q f a' b' q' f' some all adv done h = elim (meets_or_coprime al bl (pos (suc h)) some) [
    | inl k ↦ done h ((all (pos (suc h))).1 k)
    | inr c ↦ adv.keeps (suc h) (subst (λ x. Coprime (PolynomialR d) (poly al) x) (sym (iter_next (suc h) bl)) c)
  ]

  pub same_divides : (x y : Polynomial d) → y ≡ x → x ∣ᵖ y
  same_divides x y e = record { cofactor = one_polynomial; is = e ∙ ring (PolynomialR d) (x ∷ []) (search reads depth 12) refl }

  pub divides_on : (x y z : Polynomial d) → x ∣ᵖ y → y ∣ᵖ z → x ∣ᵖ z
  divides_on x y z h k = dvd_trans (PolynomialR d) x y z h k

module _ {K : Type 0} {d : ℕ} (v : K → Value d) where
  pub others_more : (fs : List (List K × List K)) (i : ℕ) (f : List K × List K) (x y z : Polynomial d) → f ≡ get_or fs i f → i < length fs → x ≡ polynomial v f.1 → y ∣ᵖ z → x ∣ᵖ z
      → ((j : ℕ) → j < i → polynomial v (get_or fs j ([], [])).1 ∣ᵖ y) → (j : ℕ) → j < i + 1 → polynomial v (get_or fs j ([], [])).1 ∣ᵖ z
  others_more fs i f x y z read within e yz xz h j l = elim (side j i) [
    | inl p ↦ divides_on (polynomial v (get_or fs j ([], [])).1) y z (h j p) yz
    | inr p ↦ subst (λ w. w ∣ᵖ z) (e ∙ ap (λ (g : List K × List K). polynomial v g.1) (sym (read_at fs i f within read) ∙ ap (λ k. get_or fs k ([], [])) (same j i p l))) xz
  ]
    where
      side : (j i : ℕ) → (j < i) ⊎ (i ≤ j)
      side j i = grind arith

      same : (j i : ℕ) → i ≤ j → j < i + 1 → i ≡ j
      same j i p l = omega arith

      read_at : (fs : List (List K × List K)) (i : ℕ) (f : List K × List K) → i < length fs → f ≡ get_or fs i f → get_or fs i ([], []) ≡ f
      read_at [] i f l e = absurd (omega arith)
      read_at (y ∷ fs) zero f l e = sym e
      read_at (y ∷ fs) (suc i) f l e = read_at fs i f (omega arith) e
