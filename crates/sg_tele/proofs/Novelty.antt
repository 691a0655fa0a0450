-- A sum is new exactly where each solution for what it grows by has the constant 0.
use Rattle.std.proofs.Common.{◌≡◌, ℕ, zero, suc, ◌+◌, ◌<◌, refl, sym, ◌∙◌, ap, subst, List, [], ◌∷◌, map, length, take, get_or, Option, Some, None, IfSome, IfNone, arith}
use Rattle.sg_algebra.specs.Ring.{Ring}
use Rattle.sg_algebra.specs.Coefficients.{Each}
use Rattle.sg_algebra.proofs.Value.{Value, zero_value, one_value, inv_value, ◌*ᵛ◌, ◌/ᵛ◌}
use Rattle.sg_algebra.proofs.ValueField.{ValueR, value_one_ne, value_mul-inv, value_mul_comm, value_mul-one}
use Rattle.sg_algebra.proofs.Polynomial.{coefficient}
use Rattle.sg_tower_theory.proofs.Difference.{Difference, trivial, delta_cong, total, total_O, Spanned}
use Rattle.sg_tower_theory.proofs.Slices.{differences}
use Rattle.sg_tower_theory.proofs.Formal.{elements, shifted}
use Rattle.sg_matrix.specs.declared.solution.Solution.{Solution}
use Rattle.sg_tower.specs.Elements.{Reading, IsCopy, IsNewSum, consts_of, value_of, IsMultiple, IsSolution, AllSolve, IsComplete}
use Rattle.sg_tele.specs.Telescoping.{first_of, StartsWithZero, IsScaledToOne, IsScaledOf, IsAntidifference}

-- along the first items of a list
each_more : {X : Type 0} (P : X → Type 0) (xs : List X) (i : ℕ) (x : X) → Each P (take i xs) → i < length xs → x ≡ get_or xs i x → P x → Each P (take (suc i) xs)
each_more P [] i x e l h p = absurd (omega arith)
each_more P (y ∷ xs) zero x e l h p = (subst P h p, tt)
each_more P (y ∷ xs) (suc i) x e l h p = (e.0, each_more P xs i x e.1 (omega arith) h p)

pub each_next : {X : Type 0} (P : X → Type 0) (xs : List X) (i : ℕ) (x : X) → Each P (take i xs) → i < length xs → x ≡ get_or xs i x → P x → Each P (take (i + 1) xs)
each_next P xs i x e l h p = subst (λ (k : ℕ). Each P (take k xs)) (up i) (each_more P xs i x e l h p)
  where
    up : (i : ℕ) → suc i ≡ i + 1
    up i = omega arith

pub each_whole : {X : Type 0} (P : X → Type 0) (xs : List X) (i : ℕ) → Each P (take i xs) → i ≡ length xs → Each P xs
each_whole P [] i e h = tt
each_whole P (x ∷ xs) zero e h = absurd (omega (arith, h))
each_whole P (x ∷ xs) (suc i) e h = (e.0, each_whole P xs i e.1 (omega (arith, h)))

pub each_at : {X : Type 0} (P : X → Type 0) (xs : List X) (i : ℕ) (x : X) → Each P xs → i < length xs → x ≡ get_or xs i x → P x
each_at P [] i x e l h = absurd (omega arith)
each_at P (y ∷ xs) zero x e l h = subst P (sym h) e.0
each_at P (y ∷ xs) (suc i) x e l h = each_at P xs i x e.1 (omega arith) h

module _ {d : ℕ} {E : Type 0} (ρ : Reading d E) {K : Type 0} (v : K → Value d) (b copy : E) (same : IsCopy ρ b copy) where
  abbrev R : Ring
  R = elements ρ.formal

  abbrev B : Difference (ValueR d) R
  B = shifted ρ.formal

  open R use {◌≈◌, ◌⊞◌, ◌⊠◌, O, I, rfl, symm, trans, add_cong, mul_cong, add_O, mul_comm, mul_assoc, mul_I}

  one_side : (c : ℕ → Value d) → total B ρ.of c (copy ∷ []) ≈ B.κ.on (c 0) ⊠ ρ.of b
  one_side c = trans add_O (mul_cong rfl same)

  pub new_of_zeros : (rows : List (Solution K E)) → IsComplete ρ v (copy ∷ []) rows → Each (StartsWithZero v) rows → IsNewSum ρ b
  new_of_zeros rows all z g e = value_one_ne d (spanned (all (λ i. one_value) g (trans e (symm (trans (one_side (λ i. one_value)) (trans (mul_cong B.κ.on-one rfl) (trans mul_comm mul_I)))))))
    where
      spanned : Spanned B 1 (consts_of ρ v) (value_of ρ v) rows (λ i. one_value) g → ◌≡◌ {A = Value d} one_value zero_value
      spanned s = (ValueR d).trans (s.same_consts 0 (omega arith)) (total_O (trivial (ValueR d)) (λ w. consts_of ρ v w 0) s.weights rows z)

  -- and a solution with another one gives an antidifference
  pub antidifference_is : (w : Solution K E) (g : E) → IsSolution ρ v (copy ∷ []) w → IsScaledToOne ρ v w g → IsAntidifference ρ b g
  antidifference_is w g s h = trans (delta_cong B (ρ.of g) (B.κ.on (inv_value c) ⊠ ρ.of w.value) h.multiple)
      (trans ((differences B).linear.on-scale (inv_value c) (ρ.of w.value))
      (trans (mul_cong rfl (trans s (one_side (consts_of ρ v w))))
      (trans (symm mul_assoc) (trans (mul_cong unit rfl) (trans mul_comm mul_I)))))
    where
      c : Value d
      c = first_of v w

      inverse : inv_value c *ᵛ c ≡ one_value
      inverse = value_mul_comm d (inv_value c) c ∙ value_mul-inv d c h.some

      unit : B.κ.on (inv_value c) ⊠ B.κ.on c ≈ I
      unit = trans (symm (B.κ.on-mul (inv_value c) c)) (trans (B.κ.on_cong (inv_value c *ᵛ c) one_value inverse) B.κ.on-one)

  module _ (fs : List E) (is : fs ≡ copy ∷ []) (rows : List (Solution K E)) where
    pub found_is : AllSolve ρ v fs rows → (g : E) → IsScaledOf ρ v rows g → IsAntidifference ρ b g
    found_is all g h = antidifference_is h.solution g (subst (λ (l : List E). IsSolution ρ v l h.solution) is (each_at (IsSolution ρ v fs) rows h.place h.solution all h.inside h.at)) h.scaled

    pub none_is : IsComplete ρ v fs rows → Each (StartsWithZero v) rows → IsNewSum ρ b
    none_is all z = new_of_zeros rows (subst (λ (l : List E). IsComplete ρ v l rows) is all) z

pub if_some_to : {X : Type 0} (o : Option X) (P Q : X → Type 0) → ((x : X) → P x → Q x) → IfSome o P → IfSome o Q
if_some_to (Some x) P Q h e = h x e
if_some_to None P Q h e = tt

pub if_none_to : {X : Type 0} (o : Option X) (P Q : Type 0) → (P → Q) → IfNone o P → IfNone o Q
if_none_to (Some x) P Q h e = tt
if_none_to None P Q h e = h e

-- ---- The first constant
module _ {d : ℕ} {K : Type 0} (v : K → Value d) where
  pub first_none : (cs : List K) → length cs ≡ 0 → coefficient (map v cs) 0 ≡ zero_value
  first_none [] l = refl
  first_none (x ∷ cs) l = absurd (omega (arith, l))

  pub first_is : (cs : List K) (x : K) → 0 < length cs → x ≡ get_or cs 0 x → coefficient (map v cs) 0 ≡ v x
  first_is [] x l h = absurd (omega arith)
  first_is (y ∷ cs) x l h = ap v (sym h)

  module _ {E : Type 0} (ρ : Reading d E) where
    pub scaled_is : (w : Solution K E) (c one factor : K) (g : E) → 0 < length w.coeffs → c ≡ get_or w.coeffs 0 c → ¬ (v c ≡ zero_value) → v one ≡ one_value → v factor ≡ v one /ᵛ v c
        → IsMultiple ρ (v factor) w.value g → IsScaledToOne ρ v w g
    scaled_is w c one factor g l h some o q m = record {
      some = λ z. some (sym (first_is w.coeffs c l h) ∙ z);
      multiple = subst (λ (x : Value d). IsMultiple ρ x w.value g) (q ∙ ap (λ x. x /ᵛ v c) o ∙ value_mul_comm d one_value (inv_value (v c)) ∙ value_mul-one d (inv_value (v c)) ∙ ap inv_value (sym (first_is w.coeffs c l h))) m;
    }
