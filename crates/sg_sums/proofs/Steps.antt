-- What the functions of the recursion keep, over plain variables.
use Rattle.std.proofs.Common.{◌≡◌, ℕ, zero, suc, ◌+◌, ◌<◌, ◌≤◌, refl, sym, ◌∙◌, ap, ap₂, subst, List, [], ◌∷◌, map, length, take, get_or, arith}
use Rattle.sg_algebra.specs.Ring.{Ring}
use Rattle.sg_algebra.proofs.Ring.{neg_O, mul_O}
use Rattle.sg_algebra.proofs.PolynomialRing.{PolyR, coef-zip, coef-each, coef-scale}
use Rattle.sg_algebra.proofs.Place.{Pairwise}
use Rattle.sg_algebra.proofs.Value.{Value, ◌+ᵛ◌, ◌*ᵛ◌}
use Rattle.sg_algebra.proofs.ValueField.{ValueR}
use Rattle.sg_tower_theory.proofs.Difference.{trivial}
use Rattle.sg_tower_theory.proofs.Above.{above, monomial}
use Rattle.sg_algebra.proofs.Degree.{Below}
use Rattle.sg_tower_theory.proofs.Slices.{IsNext, state_next, differences}
use Rattle.sg_tower_theory.proofs.PowerSlices.{power_slice}
use Rattle.sg_tower_theory.proofs.Formal.{Element, elements, shifted}
use Rattle.sg_matrix.specs.declared.solution.Solution.{Solution}
use Rattle.sg_sums.specs.declared.partial.Partial.{Partial}
use Rattle.sg_tower.specs.Elements.{Reading, consts_of, value_of, AllSolve, IsComplete}
use Rattle.sg_sums.specs.Polynomials.{at_place, PolySum, PolyDifference, IsLowDifference, PolyMultiple, partial_consts, partial_value, partial_left, IsExtended, IsCombined, State, Sides}
use Rattle.sg_sums.proofs.Building.{Builds, builds_all, at_read, at_past, total_next, total_whole}

module _ {d : ℕ} {E : Type 0} (ρ : Reading d E) where
  abbrev R : Ring
  R = elements ρ.formal

  open R use {◌≈◌, ◌⊞◌, ◌⊠◌, ⊟, O, rfl, symm, trans, add_cong, mul_cong, neg_cong, add_O}
  open PolyR R use {◌≈◌ as ◌≋◌, ◌⊞◌ as ◌⊕◌, ◌⊠◌ as ◌⊗◌, ⊟ as ⊖}

  abbrev P : Ring
  P = PolyR R

  pub sum_built : (x y r : List E) (n : ℕ) → Builds R ρ.of (λ k. at_place ρ x k ⊞ at_place ρ y k) n r → length x ≤ n → length y ≤ n → PolySum ρ x y r
  sum_built x y r n b h j = record { image = record { at = λ k. trans (builds_all R ρ.of (λ k. at_place ρ x k ⊞ at_place ρ y k) n r b past k) (symm (coef-zip R (map ρ.of x) (map ρ.of y) k)) } }
    where
      past : (k : ℕ) → n ≤ k → at_place ρ x k ⊞ at_place ρ y k ≈ O
      past k l = rw (at_past R ρ.of x k (omega arith), at_past R ρ.of y k (omega arith)) add_O

  pub difference_built : (x y r : List E) (n : ℕ) → Builds R ρ.of (λ k. at_place ρ x k ⊞ ⊟ (at_place ρ y k)) n r → length x ≤ n → length y ≤ n → PolyDifference ρ x y r
  difference_built x y r n b h j = record {
    image = record {
      at = λ k. trans (builds_all R ρ.of (λ k. at_place ρ x k ⊞ ⊟ (at_place ρ y k)) n r b past k)
          (symm (trans (coef-zip R (map ρ.of x) (⊖ (map ρ.of y)) k) (add_cong rfl (coef-each R ⊟ (neg_O R) (map ρ.of y) k))));
    };
  }
    where
      past : (k : ℕ) → n ≤ k → at_place ρ x k ⊞ ⊟ (at_place ρ y k) ≈ O
      past k l = rw (at_past R ρ.of x k (omega arith), at_past R ρ.of y k (omega arith)) (R.add_neg)

  pub low_built : (x y r : List E) (i n : ℕ) → Builds R ρ.of (λ k. at_place ρ x k ⊞ ⊟ (at_place ρ y k)) i r → i ≡ n → IsLowDifference ρ n x y r
  low_built x y r i n b e = record { size = b.size ∙ e; low = λ k l. b.built k (omega (arith, e)) }

  pub multiple_built : (e : Element ρ.formal) (x r : List E) (n : ℕ) → Builds R ρ.of (λ k. e ⊠ at_place ρ x k) n r → n ≡ length x → PolyMultiple ρ e x r
  multiple_built e x r n b h = record { image = record { at = λ k. trans (builds_all R ρ.of (λ k. e ⊠ at_place ρ x k) n r b past k) (symm (coef-scale R e (map ρ.of x) k)) } }
    where
      past : (k : ℕ) → n ≤ k → e ⊠ at_place ρ x k ≈ O
      past k l = rw (at_past R ρ.of x k (omega arith)) (mul_O R)

  pub multiple_step : (c : Element ρ.formal) (x : List E) (i : ℕ) (a s : E) → i < length x → a ≡ get_or x i a → ρ.of s ≈ c ⊠ ρ.of a → ρ.of s ≈ c ⊠ at_place ρ x i
  multiple_step c x i a s l e h = rw (at_read R ρ.of x i a l e) h

  pub mono_any : (y z : Element ρ.formal) (n : ℕ) (a : Element ρ.formal) → monomial (shifted ρ.formal) y n a ≡ monomial (shifted ρ.formal) z n a
  mono_any y z zero a = refl
  mono_any y z (suc n) a = ap (◌∷◌ O) (mono_any y z n a)

  module _ {K : Type 0} (v : K → Value d) (β : E) where
    pub combined_start : (c : ℕ → Value d) (r : Partial K E) → r.coeffs ≡ [] → r.value ≡ [] → r.left ≡ [] → IsCombined ρ v β c [] r
    combined_start c r h j k = record { coeffs = λ i. rw h refl; value = rw j P.rfl; left = rw k P.rfl }

    pub combined_next : (c : ℕ → Value d) (rows : List (Partial K E)) (i : ℕ) (x : Value d) (row acc r : Partial K E) → IsCombined ρ v β c (take i rows) acc → i < length rows → row ≡ get_or rows i row → x ≡ c i → IsExtended ρ v acc x row r
        → IsCombined ρ v β c (take (i + 1) rows) r
    combined_next c rows i x row acc r b l e s h = record {
      coeffs = λ j. h.coeffs j ∙ ap₂ ◌+ᵛ◌ (b.coeffs j) (ap (λ z. z *ᵛ partial_consts ρ v row j) s) ∙ sym (total_next (trivial (ValueR d)) (λ w. partial_consts ρ v w j) c rows i row l e);
      value = P.trans h.value (P.trans (P.add_cong b.value (P.mul_cong ((above (shifted ρ.formal) (ρ.of β)).κ.on_cong x (c i) s) (P.rfl {x = partial_value ρ v row}))) (P.symm (total_next (above (shifted ρ.formal) (ρ.of β)) (partial_value ρ v) c rows i row l e)));
      left = P.trans h.left (P.trans (P.add_cong b.left (P.mul_cong ((above (shifted ρ.formal) (ρ.of β)).κ.on_cong x (c i) s) (P.rfl {x = partial_left ρ v row}))) (P.symm (total_next (above (shifted ρ.formal) (ρ.of β)) (partial_left ρ v) c rows i row l e)));
    }

    pub combined_whole : (c : ℕ → Value d) (rows : List (Partial K E)) (i : ℕ) (r : Partial K E) → IsCombined ρ v β c (take i rows) r → i ≡ length rows → IsCombined ρ v β c rows r
    combined_whole c rows i r b e = record {
      coeffs = λ j. b.coeffs j ∙ total_whole (trivial (ValueR d)) (λ w. partial_consts ρ v w j) c rows i e;
      value = P.trans b.value (total_whole (above (shifted ρ.formal) (ρ.of β)) (partial_value ρ v) c rows i e);
      left = P.trans b.left (total_whole (above (shifted ρ.formal) (ρ.of β)) (partial_left ρ v) c rows i e);
    }

    module _ (fs : List (List E)) (n : ℕ) (rows : List (Partial K E)) (ls : List E) where
      -- r goes on from the combination of the rows by the constants of w, with the value of w times t^n added to its value
      abbrev pub Next : Solution K E → Partial K E → Type 0
      Next w r =
          IsNext (shifted ρ.formal) (above (shifted ρ.formal) (ρ.of β)) (differences (shifted ρ.formal)) (differences (above (shifted ρ.formal) (ρ.of β))) (map ρ.of) fs (partial_consts ρ v) (partial_value ρ v) (partial_left ρ v)
          (Below R (suc n)) (Below R n) (power_slice (shifted ρ.formal) (ρ.of β) n) rows ρ.of ls (consts_of ρ v) (value_of ρ v) w r

      pub state_lowered : (inner : List (Solution K E)) (new : List (Partial K E)) → State ρ v β fs (n + 1) rows → Sides ρ v β fs n rows ls → AllSolve ρ v ls inner → IsComplete ρ v ls inner → Pairwise Next inner new → State ρ v β fs n new
      state_lowered inner new st p sound all next =
          state_next (shifted ρ.formal) (above (shifted ρ.formal) (ρ.of β)) (differences (shifted ρ.formal)) (differences (above (shifted ρ.formal) (ρ.of β))) (map ρ.of) fs (partial_consts ρ v) (partial_value ρ v) (partial_left ρ v)
          (Below R (suc n)) (Below R n) (power_slice (shifted ρ.formal) (ρ.of β) n) rows ρ.of ls (consts_of ρ v) (value_of ρ v) inner new
          (subst (λ (k : ℕ). State ρ v β fs k rows) (one_up n) st) p sound all next
        where
          one_up : (n : ℕ) → n + 1 ≡ suc n
          one_up n = omega arith
