-- Polynomials whose roots are split off: where their parts are coprime after a shift.
--   linear F a          the polynomial t - a
--   of_roots F r        the product of t - a over the items a of r
--   remainder           p is (t - a) times a quotient, and p(a)
--   linear_coprime      t - a is coprime to p, where p(a) isn't 0
--   roots_coprime       the product over r is coprime to p, where p is 0 at no item of r
--   split_coprime       the product over r, times p, is coprime to the product over s, times q, all moved by β, where no item of r moved by β is one of s,
--                       q isn't 0 at an item of r moved by β, p isn't 0 at an item of s moved back, and p is coprime to q moved by β
use Rattle.std.proofs.Common.{ℕ, zero, suc, refl, List, [], ◌∷◌}
use Rattle.sg_algebra.specs.Ring.{Ring, Field}
use Rattle.sg_algebra.specs.Coefficients.{coef, eval, Each}
use Rattle.sg_algebra.proofs.Ring.{mul_O, O_add}
use Rattle.sg_algebra.proofs.Solver.{ring, by, scale, reads}
use Rattle.sg_algebra.proofs.Field.{domain, product_ne}
use Rattle.sg_algebra.proofs.Coprime.{Coprime, coprime_symm, coprime_same, coprime_one, coprime-mul, coprime_on}
use Rattle.sg_algebra.proofs.PolynomialRing.{PolyR, X, cons-is, constantH, one_coefficient}
use Rattle.sg_algebra.proofs.Evaluation.{eval-mul}
use Rattle.sg_algebra.proofs.Shift.{moved, movedH, moved_cong, moved-moved, moved-O, moved-eval}

module _ (F : Field) where
  open F use {R, inv, mul_inv}
  open R use {A, ◌≈◌, ◌⊞◌, ◌⊠◌, ⊟, O, I, rfl, symm, trans, add_cong, mul_comm}
  open PolyR R use {◌≈◌ as ◌≋◌, ◌⊞◌ as ◌⊕◌, ◌⊠◌ as ◌⊗◌, ⊟ as ⊖}

  abbrev P : Ring
  P = PolyR R

  abbrev pub linear : A → List A
  linear a = ⊟ a ∷ I ∷ []

  abbrev pub of_roots : List A → List A
  of_roots [] = I ∷ []
  of_roots (a ∷ r) = linear a ⊗ of_roots r

  linear-is : (a : A) → linear a ≋ ⊖ (a ∷ []) ⊕ X R
  linear-is a = cons_is
    where
      cons_is : linear a ≋ ⊖ (a ∷ []) ⊕ X R
      cons_is = P.trans (cons-is R (⊟ a) (I ∷ [])) (P.add_cong {x = ⊟ a ∷ []} {y = ⊖ (a ∷ [])} P.rfl (P.mul_I {x = X R}))

  next : (a c e : A) → ((c ⊞ a ⊠ e) ∷ []) ≋ (c ∷ []) ⊕ (a ∷ []) ⊗ (e ∷ [])
  next a c e = P.trans ((constantH R).on-add c (a ⊠ e)) (P.add_cong {x = c ∷ []} {y = c ∷ []} P.rfl ((constantH R).on-mul a e))

  zero_constant : (n : ℕ) → coef R [] n ≈ coef R (O ∷ []) n
  zero_constant zero = rfl
  zero_constant (suc n) = rfl

  none : (l : List A) → [] ≋ l ⊗ [] ⊕ (O ∷ [])
  none l = P.trans (record { image = record { at = zero_constant } }) (P.symm (P.trans (P.add_cong {x = l ⊗ []} {y = []} (mul_O P {x = l}) (P.rfl {x = O ∷ []})) (O_add P {x = O ∷ []})))

  pub record Remainder (a : A) (p : List A) : Type 0 where
    pub quotient : List A
    pub is : p ≋ linear a ⊗ quotient ⊕ (eval R p a ∷ [])

  -- over the variables t, l = t - a, and the constants a, c, e = p(a)
  step : (t l a c e p q k n : List A) → l ≋ ⊖ a ⊕ t → p ≋ l ⊗ q ⊕ e → k ≋ c ⊕ t ⊗ p → n ≋ c ⊕ a ⊗ e → k ≋ l ⊗ (t ⊗ q ⊕ e) ⊕ n
  step t l a c e p q k n h i j m = by P (t ∷ l ∷ a ∷ c ∷ e ∷ p ∷ q ∷ k ∷ n ∷ [])
      (P.add_cong j (P.add_cong (scale P t i) (P.add_cong (scale P (⊖ e) h) (scale P (⊖ (I ∷ [])) m)))) (search reads depth 24 fits 5000) refl

  pub remainder : (a : A) (p : List A) → Remainder a p
  remainder a [] = record { quotient = []; is = none (linear a) }
  remainder a (c ∷ p) =
      let r = remainder a p in
      record {
        quotient = X R ⊗ r.quotient ⊕ (eval R p a ∷ []);
        is = step (X R) (linear a) (a ∷ []) (c ∷ []) (eval R p a ∷ []) p r.quotient (c ∷ p) (eval R (c ∷ p) a ∷ []) (linear-is a) r.is (cons-is R c p) (next a c (eval R p a));
      }

  inverse : (l q p e w : List A) → p ≋ l ⊗ q ⊕ e → w ⊗ e ≋ I ∷ [] → ⊖ (w ⊗ q) ⊗ l ⊕ w ⊗ p ≋ I ∷ []
  inverse l q p e w h k = by P (l ∷ q ∷ p ∷ e ∷ w ∷ []) (P.add_cong (scale P w h) k) (search reads depth 20 fits 4000) refl

  pub linear_coprime : (a : A) (p : List A) → ¬ (eval R p a ≈ O) → Coprime P (linear a) p
  linear_coprime a p n =
      let r = remainder a p in
      let e = eval R p a in
      record {
        u = ⊖ ((inv e ∷ []) ⊗ r.quotient);
        w = inv e ∷ [];
        comb = inverse (linear a) r.quotient p (e ∷ []) (inv e ∷ []) r.is
            (P.trans (P.symm ((constantH R).on-mul (inv e) e)) (one_coefficient R (inv e ⊠ e) I (trans mul_comm (mul_inv e n))));
      }

  pub roots_coprime : (r p : List A) → Each (λ a. ¬ (eval R p a ≈ O)) r → Coprime P (of_roots r) p
  roots_coprime [] p h = coprime_symm P p (I ∷ []) (coprime_one P p)
  roots_coprime (a ∷ r) p h = coprime_symm P p (linear a ⊗ of_roots r)
      (coprime-mul P p (linear a) (of_roots r) (coprime_symm P (linear a) p (linear_coprime a p h.0)) (coprime_symm P (of_roots r) p (roots_coprime r p h.1)))

  linear-eval : (a x : A) → eval R (linear a) x ≈ x ⊞ ⊟ a
  linear-eval a x = ring R (a ∷ x ∷ []) (search reads depth 20) refl

  pub roots_ne : (r : List A) (x : A) → Each (λ a. ¬ (x ≈ a)) r → ¬ (eval R (of_roots r) x ≈ O)
  roots_ne [] x h e = F.one_ne (trans (symm (ring R (x ∷ []) (search reads depth 20) refl)) e)
  roots_ne (a ∷ r) x h e = product_ne (domain F) (λ z. h.0 (by R (x ∷ a ∷ []) z (search reads depth 12) refl)) (roots_ne r x h.1)
      (trans (R.mul_cong (symm (linear-eval a x)) rfl) (trans (symm (eval-mul R (linear a) (of_roots r) x)) e))

  each_map : (Q S : A → Type 0) → ((a : A) → Q a → S a) → (r : List A) → Each Q r → Each S r
  each_map Q S f [] h = tt
  each_map Q S f (a ∷ r) h = (f a h.0, each_map Q S f r h.1)

  each_both : (Q S : A → Type 0) → (r : List A) → Each Q r → Each S r → Each (λ a. Q a × S a) r
  each_both Q S [] h k = tt
  each_both Q S (a ∷ r) h k = ((h.0, k.0), each_both Q S r h.1 k.1)

  module _ (β : A) (r s p q : List A) where
    there : (a : A) → Each (λ b. ¬ (a ⊞ β ≈ b)) s → ¬ (eval R q (a ⊞ β) ≈ O) → ¬ (eval R (moved R β (of_roots s ⊗ q)) a ≈ O)
    there a h k e = product_ne (domain F) (roots_ne s (a ⊞ β) h) k
        (trans (symm (eval-mul R (of_roots s) q (a ⊞ β))) (trans (symm (moved-eval R β a (of_roots s ⊗ q))) e))

    back : (b : A) → ¬ (eval R p (b ⊞ ⊟ β) ≈ O) → ¬ (eval R (moved R (⊟ β) p) b ≈ O)
    back b h e = h (trans (symm (moved-eval R (⊟ β) b p)) e)

    forth-back : moved R β (moved R (⊟ β) p) ≋ p
    forth-back = P.trans (moved-moved R (⊟ β) β p) (P.trans (moved_cong R (⊟ β ⊞ β) O p p (ring R (β ∷ []) (search reads depth 12) refl) P.rfl) (moved-O R p))

    rest_roots : Each (λ b. ¬ (eval R p (b ⊞ ⊟ β) ≈ O)) s → Coprime P p (moved R β (of_roots s))
    rest_roots h = coprime_same P (moved R β (moved R (⊟ β) p)) (moved R β (of_roots s)) p (moved R β (of_roots s)) forth-back P.rfl
        (coprime_on P P (movedH R β) (moved R (⊟ β) p) (of_roots s)
        (coprime_symm P (of_roots s) (moved R (⊟ β) p) (roots_coprime s (moved R (⊟ β) p) (each_map (λ b. ¬ (eval R p (b ⊞ ⊟ β) ≈ O)) (λ b. ¬ (eval R (moved R (⊟ β) p) b ≈ O)) back s h))))

    pub split_coprime : Each (λ a. Each (λ b. ¬ (a ⊞ β ≈ b)) s) r → Each (λ a. ¬ (eval R q (a ⊞ β) ≈ O)) r → Each (λ b. ¬ (eval R p (b ⊞ ⊟ β) ≈ O)) s → Coprime P p (moved R β q)
        → Coprime P (of_roots r ⊗ p) (moved R β (of_roots s ⊗ q))
    split_coprime apart right left rests =
        let z = moved R β (of_roots s ⊗ q) in
        coprime_symm P z (of_roots r ⊗ p) (coprime-mul P z (of_roots r) p
        (coprime_symm P (of_roots r) z (roots_coprime r z (each_map (λ a. Each (λ b. ¬ (a ⊞ β ≈ b)) s × ¬ (eval R q (a ⊞ β) ≈ O)) (λ a. ¬ (eval R z a ≈ O)) (λ a h. there a h.0 h.1) r
        (each_both (λ a. Each (λ b. ¬ (a ⊞ β ≈ b)) s) (λ a. ¬ (eval R q (a ⊞ β) ≈ O)) r apart right))))
        (coprime_symm P p z (coprime_same P p (moved R β (of_roots s) ⊗ moved R β q) p z P.rfl (P.symm ((movedH R β).on-mul (of_roots s) q))
        (coprime-mul P p (moved R β (of_roots s)) (moved R β q) (rest_roots left) rests))))
