-- Without products: a basis of the solutions with the factor 1 gives all antidifferences.
--   functions_next       one more element is a rational function
--   raised_next          one more solution
--   bottom_sound, bottom_complete
use Rattle.std.proofs.Common.{◌≡◌, ℕ, suc, ◌+◌, ◌<◌, ◌≤◌, refl, sym, ◌∙◌, ap, ap₂, subst, List, [], ◌∷◌, ◌++◌, map, length, take, get_or}
use Rattle.std.proofs.lemmas.List.{take_all, take_more}
use Rattle.sg_algebra.proofs.Lists.{each_to}
use Rattle.sg_algebra.proofs.Value.{Value, one_value, neg_value, ◌+ᵛ◌, ◌*ᵛ◌}
use Rattle.sg_algebra.proofs.ValueField.{value_mul_comm, value_mul-one}
use Rattle.sg_algebra.proofs.Polynomial.{coefficient}
use Rattle.sg_algebra.proofs.ShiftValue.{shift_value}
use Rattle.sg_tower_theory.proofs.Difference.{total}
use Rattle.sg_tower_theory.proofs.ShiftValue.{rational_functions}
use Rattle.sg_first_order_theory.specs.Solutions.{pair, IsBasis}
use Rattle.sg_products.proofs.FirstOrder.{inner_sound, inner_complete}
use Rattle.sg_matrix.specs.declared.solution.Solution.{Solution}
use Rattle.sg_ratfun.specs.Fractions.{ratio}
use Rattle.sg_laurent.specs.declared.terms.Term.{Term}
use Rattle.sg_tower.specs.Elements.{AllSolve, IsSolution, IsComplete}
use Rattle.sg_products.specs.Readings.{laurents}
use Rattle.sg_bottom.specs.Functions.{function, pair_of, AreFunctions, AreRaised}

map_push : {X Y : Type 0} (f : X → Y) (xs : List X) (x : X) → map f (xs ++ x ∷ []) ≡ map f xs ++ f x ∷ []
map_push f [] x = refl
map_push f (y ∷ xs) x = ap (λ r. f y ∷ r) (map_push f xs x)

module _ {K : Type 0} {d : ℕ} (v : K → Value d) where
  pub functions_next : (fs : List (List (Term (List K × List K)))) (rs new : List (List K × List K)) (i : ℕ) (f : List (Term (List K × List K))) (r : List K × List K) → AreFunctions v (take i fs) rs → i < length fs → f ≡ get_or fs i f → ratio v r ≡ function v f → new ≡ rs ++ r ∷ []
      → AreFunctions v (take (i + 1) fs) new
  functions_next fs rs new i f r h l at e n = rw (take_more fs i f l, sym at, n) (map_push (ratio v) rs r ∙ ap₂ (λ xs x. xs ++ x ∷ []) h e ∙ sym (map_push (function v) (take i fs) f))

  pub functions_whole : (fs : List (List (Term (List K × List K)))) (rs : List (List K × List K)) (i : ℕ) → AreFunctions v (take i fs) rs → length fs ≤ i → AreFunctions v fs rs
  functions_whole fs rs i h l = rw (take_all i fs l) at h

  pub raised_next : (rows : List (Solution K (List K × List K))) (rs new : List (Solution K (List (Term (List K × List K))))) (w : Solution K (List K × List K)) (r : Solution K (List (Term (List K × List K))))
      → AreRaised v rows rs → r.coeffs ≡ w.coeffs → function v r.value ≡ ratio v w.value → new ≡ rs ++ r ∷ [] → AreRaised v (rows ++ w ∷ []) new
  raised_next rows rs new w r h c e n =
      rw n (map_push (pair_of v (function v)) rs r ∙ ap₂ (λ xs x. xs ++ x ∷ []) h (ap₂ (λ (cs : List K) x. pair (map v cs) x) c e) ∙ sym (map_push (pair_of v (ratio v)) rows w))

  module _ (a : Value (suc d)) (one : a ≡ one_value) (fs : List (List (Term (List K × List K)))) (gs : List (List K × List K)) (rows : List (Solution K (List K × List K))) (rs : List (Solution K (List (Term (List K × List K)))))
      (functions : AreFunctions v fs gs) (raised : AreRaised v rows rs) (basis : IsBasis a (map (ratio v) gs) (map (pair_of v (ratio v)) rows)) where
    basis_of : IsBasis a (map (function v) fs) (map (pair_of v (function v)) rs)
    basis_of = rw (functions, sym raised) at basis

    times_one : (x : Value (suc d)) → a *ᵛ x ≡ x
    times_one x = ap (λ y. y *ᵛ x) one ∙ value_mul_comm (suc d) one_value x ∙ value_mul-one (suc d) x

    pub bottom_sound : AllSolve (laurents v []) v fs rs
    bottom_sound = each_to (λ s. a *ᵛ shift_value d (function v s.value) +ᵛ neg_value (function v s.value) ≡ total (rational_functions d) (function v) (coefficient (map v s.coeffs)) fs) (IsSolution (laurents v []) v fs) rs
        (λ s h. sym (ap (λ y. y +ᵛ neg_value (function v s.value)) (times_one (shift_value d (function v s.value)))) ∙ h)
        (inner_sound (function v) fs (λ s. map v s.coeffs) (λ s. function v s.value) a rs basis_of)

    pub bottom_complete : IsComplete (laurents v []) v fs rs
    bottom_complete c g e = let k = inner_complete (function v) fs (λ s. map v s.coeffs) (λ s. function v s.value) a rs basis_of c g (ap (λ y. y +ᵛ neg_value g) (times_one (shift_value d g)) ∙ e) in
        record { weights = k.weights; same_consts = k.same_consts; same_value = k.same_value }
