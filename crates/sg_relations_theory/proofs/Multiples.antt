-- Which relations hold, where all that hold up to a sign are the multiples of one row e.
--   Ratio x           x is τ(r)/r up to 1: similar to 1
--   twice             where e holds with the sign -1, twice e holds, and whatever holds is a multiple of twice e
--   expressed         a row with 1 at the last element expresses it
use Rattle.std.proofs.Common.{◌≡◌, zero, suc, refl, sym, ap, ◌∙◌, List, [], ◌∷◌, ◌++◌, length, ℤ, pos, negsuc, ◌+ℤ◌, ◌*ℤ◌, arith}
use Rattle.std.proofs.lemmas.Int.{ints}
use Rattle.sg_algebra.specs.Ring.{Field, Hom}
use Rattle.sg_algebra.specs.Coefficients.{Each}
use Rattle.sg_algebra.proofs.Ring.{I_mul, neg_is}
use Rattle.sg_algebra.proofs.Solver.{by, ring, scale, reads}
use Rattle.sg_algebra.proofs.Whole.{ℤR, readsℤ}
use Rattle.sg_tower_theory.specs.Powers.{power, powers}
use Rattle.sg_relations_theory.specs.Rows.{multiple_row}
use Rattle.sg_relations_theory.proofs.PowerLaws.{Some, power_ne, powers_ne, power-add, power-mul, powers-multiple, one-power, power_cong}
use Rattle.sg_relations_theory.proofs.Similar.{Similar, similar_same, similar-mul, similar-power}

multiple-multiple : (s t : ℤ) (e : List ℤ) → multiple_row s (multiple_row t e) ≡ multiple_row (s *ℤ t) e
multiple-multiple s t [] = refl
multiple-multiple s t (x ∷ e) = rw (multiple-multiple s t e) (ap (λ y. y ∷ multiple_row (s *ℤ t) e) (ring ℤR (s ∷ t ∷ x ∷ []) (search readsℤ depth 12) refl))

-- a whole number is even or odd
pub data Parity (t : ℤ) : Type 0 where
  even : (s : ℤ) → t ≡ s *ℤ pos 2 → Parity t
  odd : (s : ℤ) → t ≡ s *ℤ pos 2 +ℤ pos 1 → Parity t

pub parity : (t : ℤ) → Parity t
parity (pos zero) = even (pos 0) refl
parity (pos (suc n)) = go (parity (pos n))
  where
    go : Parity (pos n) → Parity (pos (suc n))
    go (even s h) = odd s (omega (arith, ints))
    go (odd s h) = even (s +ℤ pos 1) (omega (arith, ints))
parity (negsuc zero) = odd (negsuc 0) refl
parity (negsuc (suc n)) = go (parity (negsuc n))
  where
    go : Parity (negsuc n) → Parity (negsuc (suc n))
    go (even s h) = odd (s +ℤ negsuc 0) (omega (arith, ints))
    go (odd s h) = even s (omega (arith, ints))

module _ (K : Field) (τ : Hom K.R K.R) where
  open K use {R, inv, mul_inv, one_ne}
  open R use {A, ◌≈◌, ◌⊞◌, ◌⊠◌, ⊟, O, I, rfl, symm, trans, add_cong, mul_cong, mul_comm, mul_I, neg_cong}

  abbrev pub Ratio : A → Type 0
  Ratio x = Similar K τ x I

  pub ratio-mul : (x y : A) → Ratio x → Ratio y → Ratio (x ⊠ y)
  ratio-mul x y h k = similar_same K τ (x ⊠ y) (I ⊠ I) (x ⊠ y) I rfl mul_I (similar-mul K τ x I y I h k)

  pub ratio-power : (x : A) (e : ℤ) → Some K x → Ratio x → Ratio (power K x e)
  ratio-power x e s h = similar_same K τ (power K x e) (power K I e) (power K x e) I rfl (one-power K e) (similar-power K τ x I e s one_ne h)

  -- x y and x are: so is y
  pub ratio-quotient : (x y : A) → Some K x → Ratio x → Ratio (x ⊠ y) → Ratio y
  ratio-quotient x y s h k = similar_same K τ (power K x (negsuc 0) ⊠ (x ⊠ y)) I y I
      (by R (x ∷ y ∷ inv x ∷ []) (scale R y (mul_inv x s)) (search reads depth 16) refl) rfl
      (ratio-mul (power K x (negsuc 0)) (x ⊠ y) (ratio-power x (negsuc 0) s h) k)

  module _ (xs : List A) (some : Each (Some K) xs) (e : List ℤ) where
    abbrev P : List ℤ → A
    P es = powers K xs es

    P_some : (es : List ℤ) → Some K (P es)
    P_some es = powers_ne K xs es some

    minus_some : (x : A) → Some K x → Some K (⊟ x)
    minus_some x h z = h (trans (symm (Rattle.sg_algebra.proofs.Ring.neg_neg R)) (trans (neg_cong z) (Rattle.sg_algebra.proofs.Ring.neg_O R)))

    pub twice_holds : Ratio (⊟ (P e)) → Ratio (P (multiple_row (pos 2) e))
    twice_holds h = similar_same K τ (power K (⊟ (P e)) (pos 2)) I (P (multiple_row (pos 2) e)) I
        (trans (ring R (P e ∷ []) (search reads depth 16) refl) (symm (powers-multiple K xs (pos 2) e some))) rfl
        (ratio-power (⊟ (P e)) (pos 2) (minus_some (P e) (P_some e)) h)

    -- the sign is one thing or the other
    both_signs : ¬ Ratio (⊟ I) → Ratio (P e) → Ratio (⊟ (P e)) → ⊥
    both_signs bar h k = bar (ratio-quotient (P e) (⊟ I) (P_some e) h (similar_same K τ (⊟ (P e)) I (P e ⊠ ⊟ I) I (ring R (P e ∷ []) (search reads depth 16) refl) rfl k))

    pub twice_shortest : ¬ Ratio (⊟ I) → Ratio (⊟ (P e)) → (t : ℤ) → Ratio (P (multiple_row t e)) → (s : ℤ) × (multiple_row t e ≡ multiple_row s (multiple_row (pos 2) e))
    twice_shortest bar h t k = go (parity t)
      where
        go : Parity t → (s : ℤ) × (multiple_row t e ≡ multiple_row s (multiple_row (pos 2) e))
        go (even s q) = (s, ap (λ t. multiple_row t e) q ∙ sym (multiple-multiple s (pos 2) e))
        go (odd s q) = absurd (both_signs bar single h)
          where
            parts : P (multiple_row t e) ≈ power K (P (multiple_row (pos 2) e)) s ⊠ P e
            parts = trans (powers-multiple K xs t e some)
                (rw q (trans (power-add K (P e) (s *ℤ pos 2) (pos 1) (P_some e))
                (mul_cong (trans (power-mul K (P e) (pos 2) s (P_some e)) (power_cong K (power K (P e) (pos 2)) (P (multiple_row (pos 2) e)) s (symm (powers-multiple K xs (pos 2) e some)))) (I_mul R))))

            single : Ratio (P e)
            single = ratio-quotient (power K (P (multiple_row (pos 2) e)) s) (P e) (power_ne K (P (multiple_row (pos 2) e)) s (P_some (multiple_row (pos 2) e)))
                (ratio-power (P (multiple_row (pos 2) e)) s (P_some (multiple_row (pos 2) e)) (twice_holds h))
                (similar_same K τ (P (multiple_row t e)) I (power K (P (multiple_row (pos 2) e)) s ⊠ P e) I parts rfl k)

  pub powers-last : (xs : List A) (new : A) (es : List ℤ) (x : ℤ) → length es ≡ length xs → powers K (xs ++ new ∷ []) (es ++ x ∷ []) ≈ powers K xs es ⊠ power K new x
  powers-last [] new [] x l = trans mul_I (symm (I_mul R))
  powers-last [] new (e ∷ es) x l = absurd (omega arith)
  powers-last (y ∷ xs) new [] x l = absurd (omega arith)
  powers-last (y ∷ xs) new (e ∷ es) x l = trans (mul_cong rfl (powers-last xs new es x (omega arith))) (symm R.mul_assoc)

  -- new is the product of the powers by the negated exponents, times τ(r)/r
  pub expressed : (xs : List A) (new : A) (es : List ℤ) → Each (Some K) xs → length es ≡ length xs → (s : Ratio (powers K (xs ++ new ∷ []) (es ++ pos 1 ∷ []))) → new ⊠ s.r ≈ powers K xs (multiple_row (negsuc 0) es) ⊠ τ.on s.r
  expressed xs new es some l s = by R (new ∷ Q ∷ N ∷ powers K (xs ++ new ∷ []) (es ++ pos 1 ∷ []) ∷ s.r ∷ τ.on s.r ∷ [])
      (add_cong (scale R (⊟ N) s.is) (add_cong (scale R (⊟ (N ⊠ s.r)) (powers-last xs new es (pos 1) l)) (scale R (⊟ (new ⊠ s.r)) undo))) (search reads depth 20 fits 6000) refl
    where
      Q : A
      Q = powers K xs es

      N : A
      N = powers K xs (multiple_row (negsuc 0) es)

      undo : N ⊠ Q ≈ I
      undo = trans (mul_cong (trans (powers-multiple K xs (negsuc 0) es some) (I_mul R)) rfl) (trans mul_comm (mul_inv Q (powers_ne K xs es some)))
