-- From a basis of the solutions of a first-order equation to what the recursion over the exponents of products asks for.
--   inner_sound       its items solve the equation at the exponents
--   inner_complete    and every solution is a combination of them
use Rattle.std.proofs.Common.{◌≡◌, ℕ, suc, refl, sym, ◌∙◌, ap, List, [], ◌∷◌, map, length}
use Rattle.sg_algebra.specs.Coefficients.{Each}
use Rattle.sg_algebra.proofs.Value.{Value, neg_value, ◌+ᵛ◌, ◌*ᵛ◌, ◌-ᵛ◌}
use Rattle.sg_algebra.proofs.ValueField.{ValueR}
use Rattle.sg_algebra.proofs.Solver.{ring, reads}
use Rattle.sg_algebra.proofs.Lists.{length_map}
use Rattle.sg_algebra.proofs.Embedding.{constant_value}
use Rattle.sg_algebra.proofs.Polynomial.{coefficient}
use Rattle.sg_tower_theory.proofs.Difference.{Difference, total, mixed, Spanned}
use Rattle.sg_tower_theory.proofs.ShiftValue.{rational_functions}
use Rattle.sg_algebra.proofs.ShiftValue.{shift_value}
use Rattle.sg_first_order_theory.specs.Solutions.{Pair, weighted_value, Solves, sum_consts, sum_values, Combination, IsBasis}

module _ {d : ℕ} where
  abbrev B : Difference (ValueR d) (ValueR (suc d))
  B = rational_functions d

  module _ {G : Type 0} (l : G → Value (suc d)) (ls : List G) {Y : Type 0} (inner_consts : Y → List (Value d)) (inner_value : Y → Value (suc d)) where
    abbrev pair_of : Y → Pair d
    pair_of v = record { consts = inner_consts v; value = inner_value v }

    sides : {G : Type 0} (l : G → Value (suc d)) (c : ℕ → Value d) (ls : List G) → total B l c ls ≡ weighted_value c (map l ls)
    sides l c [] = refl
    sides l c (x ∷ ls) = ap (λ z. constant_value d (c 0) *ᵛ l x +ᵛ z) (sides l (λ i. c (suc i)) ls)

    minus : (x y : Value (suc d)) → x +ᵛ neg_value y ≡ x -ᵛ y
    minus x y = ring (ValueR (suc d)) (x ∷ y ∷ []) (search reads depth 12) refl

    consts_same : (m : ℕ → Value d) (ys : List Y) (i : ℕ) → sum_consts m (map pair_of ys) i ≡ mixed (ValueR d) (λ v. coefficient (inner_consts v)) m ys i
    consts_same m [] i = refl
    consts_same m (y ∷ ys) i = ap (λ z. m 0 *ᵛ coefficient (inner_consts y) i +ᵛ z) (consts_same (λ l. m (suc l)) ys i)

    values_same : (m : ℕ → Value d) (ys : List Y) → sum_values m (map pair_of ys) ≡ total B inner_value m ys
    values_same m [] = refl
    values_same m (y ∷ ys) = ap (λ z. constant_value d (m 0) *ᵛ inner_value y +ᵛ z) (values_same (λ l. m (suc l)) ys)

    module _ (a : Value (suc d)) (solved : List Y) (basis : IsBasis a (map l ls) (map pair_of solved)) where
      each_of : (ys : List Y) → Each (λ p. Solves a (map l ls) (coefficient p.consts) p.value) (map pair_of ys) → Each (λ v. a *ᵛ shift_value d (inner_value v) +ᵛ neg_value (inner_value v) ≡ total B l (coefficient (inner_consts v)) ls) ys
      each_of [] h = tt
      each_of (y ∷ ys) h = (minus (a *ᵛ shift_value d (inner_value y)) (inner_value y) ∙ h.0 ∙ sym (sides l (coefficient (inner_consts y)) ls), each_of ys h.1)

      -- what each basis gives
      pub inner_sound : Each (λ v. a *ᵛ shift_value d (inner_value v) +ᵛ neg_value (inner_value v) ≡ total B l (coefficient (inner_consts v)) ls) solved
      inner_sound = each_of solved basis.solves

      pub inner_complete : (c : ℕ → Value d) (h : Value (suc d)) → a *ᵛ shift_value d h +ᵛ neg_value h ≡ total B l c ls → Spanned B (length ls) (λ v. coefficient (inner_consts v)) inner_value solved c h
      inner_complete c h e = go (basis.spans c h (sym (minus (a *ᵛ shift_value d h) h) ∙ e ∙ sides l c ls))
        where
          go : Combination (map pair_of solved) (length (map l ls)) c h → Spanned B (length ls) (λ v. coefficient (inner_consts v)) inner_value solved c h
          go k = record {
            weights = k.factors;
            same_consts = λ i q. k.consts i (rw (length_map l ls) q) ∙ consts_same k.factors solved i;
            same_value = k.value ∙ values_same k.factors solved;
          }
