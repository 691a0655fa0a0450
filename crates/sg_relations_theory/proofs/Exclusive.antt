-- No two of the three answers about a product hold at once.
--   joined_exponents       the negated exponents of an expression, and 1: they hold
--   free_not_expressed     a free product isn't expressed
--   free_not_related       nor has a power of it a relation
--   expressed_not_related  and where it is expressed, the least relation has 1 at it
use Rattle.std.proofs.Common.{◌≡◌, ℕ, zero, suc, refl, sym, subst, ap, ◌∙◌, List, [], ◌∷◌, ◌++◌, length, get_or, ℤ, pos, negsuc, ◌<ℤ◌, ◌*ℤ◌, unsigned_abs, arith}
use Rattle.std.proofs.lemmas.Int.{ints}
use Rattle.sg_algebra.specs.Ring.{Ring, Field}
use Rattle.sg_algebra.specs.Coefficients.{Each}
use Rattle.sg_algebra.proofs.Ring.{I_mul}
use Rattle.sg_algebra.proofs.Solver.{by, ring, scale, reads}
use Rattle.sg_algebra.proofs.Value.{Value, ◌*ᵛ◌}
use Rattle.sg_algebra.proofs.ValueField.{ValueR, ValueF}
use Rattle.sg_algebra.proofs.Whole.{ℤR, readsℤ}
use Rattle.sg_algebra.proofs.WholeDivisors.{unit_abs}
use Rattle.sg_algebra.proofs.ShiftValue.{shift_value, shift_valueH}
use Rattle.sg_tower_theory.specs.Powers.{powers}
use Rattle.sg_relations_theory.specs.Rows.{multiple_row}
use Rattle.sg_relations_theory.specs.Relations.{Holds, OnlyZeros, Expresses, Relates}
use Rattle.sg_relations_theory.proofs.PowerLaws.{Some, powers_ne, powers-multiple}
use Rattle.sg_relations_theory.proofs.Multiples.{powers-last}
use Rattle.sg_relations_theory.proofs.Factors.{zero_each}

length-multiple : (t : ℤ) (es : List ℤ) → length (multiple_row t es) ≡ length es
length-multiple t [] = refl
length-multiple t (e ∷ es) = ap suc (length-multiple t es)

length-join : {A : Type 0} (xs : List A) (x : A) → length (xs ++ x ∷ []) ≡ suc (length xs)
length-join [] x = refl
length-join (y ∷ xs) x = ap suc (length-join xs x)

last-at : (es : List ℤ) (x : ℤ) → get_or (es ++ x ∷ []) (length es) (pos 0) ≡ x
last-at [] x = refl
last-at (e ∷ es) x = last-at es x

-- no whole number above 1 divides 1
above_one_no_unit : (t z : ℤ) → pos 1 <ℤ z → pos 1 ≡ t *ℤ z → ⊥
above_one_no_unit t z l h = go z l (unit_abs z t (ring ℤR (t ∷ z ∷ []) (search readsℤ depth 12) refl ∙ sym h))
  where
    go : (z : ℤ) → pos 1 <ℤ z → unsigned_abs z ≡ 1 → ⊥
    go (pos n) l e = omega (arith, ints)
    go (negsuc n) l e = omega (arith, ints)

module _ (d : ℕ) (alphas : List (Value (suc d))) (new : Value (suc d)) (some : Each (Some (ValueF (suc d))) alphas) where
  abbrev K : Field
  K = ValueF (suc d)

  abbrev R : Ring
  R = ValueR (suc d)

  abbrev joined : List ℤ → List ℤ
  joined es = multiple_row (negsuc 0) es ++ pos 1 ∷ []

  length-joined : (es : List ℤ) → length es ≡ length alphas → length (joined es) ≡ suc (length alphas)
  length-joined es l = length-join (multiple_row (negsuc 0) es) (pos 1) ∙ ap suc (length-multiple (negsuc 0) es ∙ l)

  joined-last : (es : List ℤ) → length es ≡ length alphas → get_or (joined es) (length alphas) (pos 0) ≡ pos 1
  joined-last es l = subst (λ (n : ℕ). get_or (joined es) n (pos 0) ≡ pos 1) (length-multiple (negsuc 0) es ∙ l) (last-at (multiple_row (negsuc 0) es) (pos 1))

  -- from new r = Q r(k + 1), where N is 1/Q: r(k + 1) = N new r
  pub joined_exponents : (es : List ℤ) (r : Value (suc d)) → Expresses alphas new es r → Holds (alphas ++ new ∷ []) (joined es)
  joined_exponents es r h = (
    r,
    record {
      some = h.some;
      is = by R (new ∷ Q ∷ N ∷ powers K (alphas ++ new ∷ []) (joined es) ∷ r ∷ shift_value d r ∷ [])
          (R.add_cong (scale R (R.⊟ N) h.is) (R.add_cong (scale R (R.⊟ r) (powers-last K (shift_valueH d) alphas new (multiple_row (negsuc 0) es) (pos 1) (length-multiple (negsuc 0) es ∙ h.sized))) (scale R (R.⊟ (shift_value d r)) undo)))
          (search reads depth 20 fits 6000) refl;
    },
  )
    where
      Q : Value (suc d)
      Q = powers K alphas es

      N : Value (suc d)
      N = powers K alphas (multiple_row (negsuc 0) es)

      undo : N *ᵛ Q ≡ K.R.I
      undo = R.trans (R.mul_cong (R.trans (powers-multiple K alphas (negsuc 0) es some) (I_mul R)) R.rfl) (R.trans R.mul_comm (K.mul_inv Q (powers_ne K alphas es some)))

  pub free_not_expressed : OnlyZeros (alphas ++ new ∷ []) → (es : List ℤ) (r : Value (suc d)) → Expresses alphas new es r → ⊥
  free_not_expressed free es r h = zero_one (sym (joined-last es h.sized) ∙ zero_each (joined es) (free.only_zero (joined es) (length-joined es h.sized ∙ sym (length-join alphas new)) (joined_exponents es r h)) (length alphas))
    where
      zero_one : pos 1 ≡ pos 0 → ⊥
      zero_one e = omega (arith, ints)

  pub free_not_related : OnlyZeros (alphas ++ new ∷ []) → (es : List ℤ) (r : Value (suc d)) → Relates alphas new es r → ⊥
  free_not_related free es r h = below h.above_one (zero_each es (free.only_zero es (h.sized ∙ sym (length-join alphas new)) (r, h.is)) (length alphas))
    where
      below : pos 1 <ℤ get_or es (length alphas) (pos 0) → get_or es (length alphas) (pos 0) ≡ pos 0 → ⊥
      below l e = omega (arith, ints)

  multiple-last : (t : ℤ) (gs : List ℤ) (n : ℕ) → length gs ≡ suc n → get_or (multiple_row t gs) n (pos 0) ≡ t *ℤ get_or gs n (pos 0)
  multiple-last t [] n l = absurd (omega arith)
  multiple-last t (g ∷ gs) zero l = refl
  multiple-last t (g ∷ gs) (suc n) l = multiple-last t gs n (omega arith)

  pub expressed_not_related : (es gs : List ℤ) (r s : Value (suc d)) → Expresses alphas new es r → Relates alphas new gs s → ⊥
  expressed_not_related es gs r s h k =
      let m = k.shortest (joined es) (length-joined es h.sized) (joined_exponents es r h) in
      above_one_no_unit m.0 (get_or gs (length alphas) (pos 0)) k.above_one
      (sym (joined-last es h.sized) ∙ ap (λ row. get_or row (length alphas) (pos 0)) m.1 ∙ multiple-last m.0 gs (length alphas) k.sized)
