-- From all whole shifts to images.
--   forward_is            at k + n, after n steps
--   apart_everywhere      w coprime to v at each whole shift: they are apart
--   free_later            w coprime to itself at each positive shift: it is free
use Rattle.std.proofs.Common.{◌≡◌, ℕ, zero, suc, refl, sym, ◌∙◌, ap, subst, List, [], ◌∷◌, ℤ, pos, neg_ℤ}
use Rattle.sg_algebra.proofs.Ring.{nat, neg_O}
use Rattle.sg_algebra.proofs.Solver.{ring, reads}
use Rattle.sg_algebra.proofs.Divides.{iter}
use Rattle.sg_algebra.proofs.Coprime.{Coprime, coprime_symm, coprime_on}
use Rattle.sg_algebra.proofs.Shift.{moved, moved_cong, moved-moved, moved-O}
use Rattle.sg_algebra.proofs.Value.{Value, neg_value, zero_value, ◌+ᵛ◌}
use Rattle.sg_algebra.proofs.ValueField.{ValueR}
use Rattle.sg_algebra.proofs.Rational.{whole_value}
use Rattle.sg_algebra.proofs.Polynomial.{Polynomial, PolynomialR, ListR, poly_cong}
use Rattle.sg_dispersion_theory.proofs.Listed.{list_of, poly-list_of}
use Rattle.sg_first_order_theory.proofs.Next.{nextH, moved_polynomial, moved_polynomial-poly, iter_next, moved-iter_next}
use Rattle.sg_reduction_theory.proofs.Apart.{Free, Apart}

module _ {d : ℕ} where
  abbrev image : ℕ → Polynomial d → Polynomial d
  image n x = iter (PolynomialR d) (nextH d) n x

  pub forward_is : (n : ℕ) (v : Polynomial d) → moved_polynomial (pos n) v ≡ iter (PolynomialR d) (nextH d) n v
  forward_is n v = ap (moved_polynomial (pos n)) (sym (poly-list_of v)) ∙ moved_polynomial-poly (pos n) (list_of v) ∙ moved-iter_next n (list_of v) ∙ ap (image n) (poly-list_of v)

  coprime_image : (n : ℕ) (x y : Polynomial d) → Coprime (PolynomialR d) x y → Coprime (PolynomialR d) (image n x) (image n y)
  coprime_image zero x y c = c
  coprime_image (suc n) x y c = coprime_on (PolynomialR d) (PolynomialR d) (nextH d) (image n x) (image n y) (coprime_image n x y c)

  backward_is : (n : ℕ) (v : Polynomial d) → (whole_value d (neg_ℤ (pos n)) ≡ neg_value (nat (ValueR d) n)) → image n (moved_polynomial (neg_ℤ (pos n)) v) ≡ v
  backward_is n v e = ap (λ z. image n (moved_polynomial (neg_ℤ (pos n)) z)) (sym (poly-list_of v)) ∙ ap (image n) (moved_polynomial-poly (neg_ℤ (pos n)) p) ∙ iter_next n (moved (ValueR d) (whole_value d (neg_ℤ (pos n))) p)
      ∙ poly_cong ((ListR d).trans (moved-moved (ValueR d) (whole_value d (neg_ℤ (pos n))) (nat (ValueR d) n) p) ((ListR d).trans
      (moved_cong (ValueR d) (whole_value d (neg_ℤ (pos n)) +ᵛ nat (ValueR d) n) zero_value p p (ap (λ z. z +ᵛ nat (ValueR d) n) e ∙ ring (ValueR d) (nat (ValueR d) n ∷ []) (search reads depth 12) refl) (ListR d).rfl) (moved-O (ValueR d) p))) ∙ poly-list_of v
    where
      p : List (Value d)
      p = list_of v

  negative : (n : ℕ) → whole_value d (neg_ℤ (pos n)) ≡ neg_value (nat (ValueR d) n)
  negative zero = sym (neg_O (ValueR d))
  negative (suc n) = refl

  pub apart_everywhere : (w v : Polynomial d) → ((m : ℤ) → Coprime (PolynomialR d) w (moved_polynomial m v)) → Apart (PolynomialR d) (nextH d) w v
  apart_everywhere w v h = record {
    later = λ m. subst (λ z. Coprime (PolynomialR d) w z) (forward_is m v) (h (pos m));
    sooner = λ m. coprime_symm (PolynomialR d) (image m w) v (subst (λ z. Coprime (PolynomialR d) (image m w) z) (backward_is m v (negative m)) (coprime_image m w (moved_polynomial (neg_ℤ (pos m)) v) (h (neg_ℤ (pos m)))));
  }

  pub free_later : (w : Polynomial d) → ((m : ℕ) → Coprime (PolynomialR d) w (moved_polynomial (pos (suc m)) w)) → Free (PolynomialR d) (nextH d) w
  free_later w h m = subst (λ z. Coprime (PolynomialR d) w z) (forward_is (suc m) w) (h m)
