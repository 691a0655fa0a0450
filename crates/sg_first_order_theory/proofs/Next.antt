-- Polynomials over the values of one depth, at k + 1 and at k + m.
--   next x             the polynomial x at k + 1; `next-poly`: of a list of coefficients; `nextH`: a map of rings
--   moved_polynomial m x    the polynomial x at k + m, for any whole m; `moved_polynomial-poly`
--   iter_next          n steps go to k + n
--   next_keeps, next_back    what isn't 0 stays so; what becomes a unit is one
--   bezout_polynomial  a greatest common divisor as a combination
--   value_char         numerals but 0 aren't 0
--   unit_denominator   the denominator of a solution is a unit, where a is coprime to b at k + 1, k + 2, ..
use Rattle.std.proofs.Common.{◌≡◌, ℕ, zero, suc, refl, sym, ◌∙◌, ap, ap₂, List, [], ◌∷◌, ℤ, pos, arith}
use Rattle.sg_algebra.specs.Ring.{Hom}
use Rattle.sg_algebra.specs.Coefficients.{zip_longest, poly_mul}
use Rattle.sg_algebra.proofs.Ring.{nat}
use Rattle.sg_algebra.proofs.Divides.{Divides, dvd_on, dvd_same, iter, iter_cong}
use Rattle.sg_algebra.proofs.Coprime.{Coprime, coprime_same}
use Rattle.sg_algebra.proofs.Euclid.{Bezout}
use Rattle.sg_algebra.proofs.PolynomialRing.{PolyR}
use Rattle.sg_algebra.proofs.Division.{bezoutPoly}
use Rattle.sg_algebra.proofs.Evaluation.{compose-constant}
use Rattle.sg_algebra.proofs.Shift.{shiftH, moved, movedH, moved_cong, moved-back, iter-shift}
use Rattle.sg_algebra.proofs.Value.{Value, ◌+ᵛ◌, neg_value, zero_value, one_value}
use Rattle.sg_algebra.proofs.ValueField.{ValueR, ValueF}
use Rattle.sg_algebra.proofs.Rational.{whole_value}
use Rattle.sg_algebra.proofs.Embedding.{numeral_ne}
use Rattle.sg_algebra.proofs.Polynomial.{Polynomial, PolynomialR, PolynomialD, ListR, poly, poly_cong, same_list, poly-add, poly-mul, constant, listed, polynomial_set, zero_polynomial, one_polynomial, ◌+ᵖ◌, ◌*ᵖ◌}
use Rattle.sg_dispersion_theory.proofs.Listed.{list_of, poly-list_of, coprime_poly, poly_dvd}
use Rattle.sg_first_order_theory.proofs.NonRoot.{coprime_somewhere}
use Rattle.sg_first_order_theory.proofs.Terminal.{Sides, descend}

module _ {d : ℕ} where
  abbrev shift : List (Value d) → List (Value d)
  shift p = (shiftH (ValueR d)).on p

  abbrev shift_cong : (p q : List (Value d)) → (ListR d).◌≈◌ p q → (ListR d).◌≈◌ (shift p) (shift q)
  shift_cong p q h = (shiftH (ValueR d)).on_cong p q h

  unfoldable pub next : Polynomial d → Polynomial d
  next x = poly (shift (list_of x))

  pub next-poly : (p : List (Value d)) → next (poly p) ≡ poly (shift p)
  unfolding next
  next-poly p = poly_cong (shift_cong (list_of (poly p)) p (same_list (list_of (poly p)) p (poly-list_of (poly p))))

  pub next-add : (x y : Polynomial d) → next (x +ᵖ y) ≡ next x +ᵖ next y
  next-add x y = listed (λ x. next (x +ᵖ y) ≡ next x +ᵖ next y) (λ x. polynomial_set d (next (x +ᵖ y)) (next x +ᵖ next y))
      (λ p. listed (λ y. next (poly p +ᵖ y) ≡ next (poly p) +ᵖ next y) (λ y. polynomial_set d (next (poly p +ᵖ y)) (next (poly p) +ᵖ next y)) (λ q. at p q) y) x
    where
      at : (p q : List (Value d)) → next (poly p +ᵖ poly q) ≡ next (poly p) +ᵖ next (poly q)
      at p q = ap next (sym (poly-add p q)) ∙ next-poly (zip_longest ◌+ᵛ◌ p q) ∙ poly_cong ((shiftH (ValueR d)).on-add p q) ∙ poly-add (shift p) (shift q) ∙ sym (ap₂ ◌+ᵖ◌ (next-poly p) (next-poly q))

  pub next-mul : (x y : Polynomial d) → next (x *ᵖ y) ≡ next x *ᵖ next y
  next-mul x y = listed (λ x. next (x *ᵖ y) ≡ next x *ᵖ next y) (λ x. polynomial_set d (next (x *ᵖ y)) (next x *ᵖ next y))
      (λ p. listed (λ y. next (poly p *ᵖ y) ≡ next (poly p) *ᵖ next y) (λ y. polynomial_set d (next (poly p *ᵖ y)) (next (poly p) *ᵖ next y)) (λ q. at p q) y) x
    where
      at : (p q : List (Value d)) → next (poly p *ᵖ poly q) ≡ next (poly p) *ᵖ next (poly q)
      at p q = ap next (sym (poly-mul p q)) ∙ next-poly (poly_mul (ValueR d) p q) ∙ poly_cong ((shiftH (ValueR d)).on-mul p q) ∙ poly-mul (shift p) (shift q) ∙ sym (ap₂ ◌*ᵖ◌ (next-poly p) (next-poly q))

  pub next-one : next one_polynomial ≡ one_polynomial
  next-one = next-poly (one_value ∷ []) ∙ poly_cong (shiftH (ValueR d)).on-one

  pub next-zero : next zero_polynomial ≡ zero_polynomial
  next-zero = next-poly []

  pub next-constant : (c : Value d) → next (constant c) ≡ constant c
  next-constant c = next-poly (c ∷ []) ∙ poly_cong ((ListR d).trans (iter-shift (ValueR d) 1 (c ∷ [])) (compose-constant (ValueR d) c (nat (ValueR d) 1 ∷ one_value ∷ [])))

abbrev pub nextH : (d : ℕ) → Hom (PolynomialR d) (PolynomialR d)
nextH d = record { on = next; on_cong = λ x y. ap next; on-add = next-add; on-mul = next-mul; on-one = next-one }

module _ {d : ℕ} where
  -- ---- Any number of steps

  pub iter_next : (n : ℕ) (p : List (Value d)) → iter (PolynomialR d) (nextH d) n (poly p) ≡ poly (moved (ValueR d) (nat (ValueR d) n) p)
  iter_next n p = steps n ∙ poly_cong (iter-shift (ValueR d) n p)
    where
      steps : (n : ℕ) → iter (PolynomialR d) (nextH d) n (poly p) ≡ poly (iter (PolyR (ValueR d)) (shiftH (ValueR d)) n p)
      steps zero = refl
      steps (suc n) = ap next (steps n) ∙ next-poly (iter (PolyR (ValueR d)) (shiftH (ValueR d)) n p)

  unfoldable pub moved_polynomial : ℤ → Polynomial d → Polynomial d
  moved_polynomial m x = poly (moved (ValueR d) (whole_value d m) (list_of x))

  pub moved_polynomial-poly : (m : ℤ) (p : List (Value d)) → moved_polynomial m (poly p) ≡ poly (moved (ValueR d) (whole_value d m) p)
  unfolding moved_polynomial
  moved_polynomial-poly m p = poly_cong (moved_cong (ValueR d) (whole_value d m) (whole_value d m) (list_of (poly p)) p refl (same_list (list_of (poly p)) p (poly-list_of (poly p))))

  pub moved-iter_next : (n : ℕ) (p : List (Value d)) → poly (moved (ValueR d) (whole_value d (pos n)) p) ≡ iter (PolynomialR d) (nextH d) n (poly p)
  moved-iter_next n p = sym (iter_next n p)

  shift-moved : (p : List (Value d)) → (ListR d).◌≈◌ (shift p) (moved (ValueR d) (nat (ValueR d) 1) p)
  shift-moved p = iter-shift (ValueR d) 1 p

  abbrev back : List (Value d) → List (Value d)
  back p = moved (ValueR d) (neg_value (nat (ValueR d) 1)) p

  back-shift : (p : List (Value d)) → (ListR d).◌≈◌ (back (shift p)) p
  back-shift p = (ListR d).trans ((movedH (ValueR d) (neg_value (nat (ValueR d) 1))).on_cong (shift p) (moved (ValueR d) (nat (ValueR d) 1) p) (shift-moved p)) (moved-back (ValueR d) (nat (ValueR d) 1) p)

  pub next_keeps : (x : Polynomial d) → ¬ (x ≡ zero_polynomial) → ¬ (next x ≡ zero_polynomial)
  unfolding next
  next_keeps x h e = h (sym (poly-list_of x) ∙ poly_cong ((ListR d).trans ((ListR d).symm (back-shift (list_of x))) ((movedH (ValueR d) (neg_value (nat (ValueR d) 1))).on_cong (shift (list_of x)) [] (same_list (shift (list_of x)) [] e))))

  pub next_back : (x : Polynomial d) → Divides (PolynomialR d) (next x) one_polynomial → Divides (PolynomialR d) x one_polynomial
  unfolding next
  next_back x h = made (dvd_same (PolyR (ValueR d)) (back (shift (list_of x))) (back (one_value ∷ [])) (list_of x) (one_value ∷ []) (back-shift (list_of x)) (movedH (ValueR d) (neg_value (nat (ValueR d) 1))).on-one
      (dvd_on (PolyR (ValueR d)) (PolyR (ValueR d)) (movedH (ValueR d) (neg_value (nat (ValueR d) 1))) (shift (list_of x)) (one_value ∷ []) (poly_dvd (shift (list_of x)) (one_value ∷ []) h)))
    where
      made : Divides (PolyR (ValueR d)) (list_of x) (one_value ∷ []) → Divides (PolynomialR d) x one_polynomial
      made k = record { cofactor = poly k.cofactor; is = poly_cong k.is ∙ poly-mul (list_of x) k.cofactor ∙ ap (λ y. y *ᵖ poly k.cofactor) (poly-list_of x) }

  pub bezout_polynomial : (x y : Polynomial d) → Bezout (PolynomialR d) x y
  bezout_polynomial x y = made (bezoutPoly (ValueF d) (list_of x) (list_of y))
    where
      made : Bezout (PolyR (ValueR d)) (list_of x) (list_of y) → Bezout (PolynomialR d) x y
      made b = record {
        g = poly b.g;
        u = poly b.u;
        w = poly b.w;
        s = poly b.s;
        t = poly b.t;
        comb = sym (ap₂ (λ p q. poly b.u *ᵖ p +ᵖ poly b.w *ᵖ q) (poly-list_of x) (poly-list_of y))
            ∙ sym (poly-add (poly_mul (ValueR d) b.u (list_of x)) (poly_mul (ValueR d) b.w (list_of y)) ∙ ap₂ ◌+ᵖ◌ (poly-mul b.u (list_of x)) (poly-mul b.w (list_of y))) ∙ poly_cong b.comb;
        of_a = sym (poly-mul b.g b.s) ∙ poly_cong b.of_a ∙ poly-list_of x;
        of_b = sym (poly-mul b.g b.t) ∙ poly_cong b.of_b ∙ poly-list_of y;
      }

pub value_char : (d n : ℕ) → ¬ (nat (ValueR d) (suc n) ≡ zero_value)
value_char d n = numeral_ne d (suc n) (omega arith)

pub unit_denominator : {d : ℕ} (a b q : Polynomial d) → ¬ (q ≡ zero_polynomial) → Sides (PolynomialR d) (nextH d) a b q
    → ((m : ℕ) → Coprime (PolynomialR d) a (iter (PolynomialR d) (nextH d) (suc m) b)) → Divides (PolynomialR d) q one_polynomial
unit_denominator {d} a b q h s apart = made (coprime_somewhere (ValueF d) (value_char d) (list_of q) (list_of q) some some)
  where
    some : ¬ ((PolyR (ValueR d)).◌≈◌ (list_of q) [])
    some z = h (sym (poly-list_of q) ∙ poly_cong z)

    made : (n : ℕ) × Coprime (PolyR (ValueR d)) (list_of q) (moved (ValueR d) (nat (ValueR d) n) (list_of q)) → Divides (PolynomialR d) q one_polynomial
    made c = descend (PolynomialD d) (nextH d) bezout_polynomial next_back a b q s apart c.0
        (coprime_same (PolynomialR d) (poly (list_of q)) (poly (moved (ValueR d) (nat (ValueR d) c.0) (list_of q))) q (iter (PolynomialR d) (nextH d) c.0 q) (poly-list_of q)
        (sym (iter_next c.0 (list_of q)) ∙ iter_cong (PolynomialR d) (nextH d) c.0 (poly (list_of q)) q (poly-list_of q))
        (coprime_poly (list_of q) (moved (ValueR d) (nat (ValueR d) c.0) (list_of q)) c.1))
