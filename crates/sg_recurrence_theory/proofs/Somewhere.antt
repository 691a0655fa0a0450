-- A rational function of the parameter that isn't 0 has somewhere a value other than 0.
--   some_number      such a parameter
use Rattle.std.proofs.Common.{◌≡◌, ℕ, suc, ◌+◌, refl, ap, ◌∙◌, subst, [], ◌∷◌, ℤ, pos, ◌+ℤ◌, arith}
use Rattle.sg_algebra.proofs.Solver.{ring, reads}
use Rattle.sg_algebra.proofs.Value.{Value, ◌*ᵛ◌, inv_value, zero_value, one_value}
use Rattle.sg_algebra.proofs.ValueField.{ValueR, value_mul-inv, value_one_ne}
use Rattle.sg_value_theory.proofs.Elements.{IsQuotientAt}
use Rattle.sg_value_theory.proofs.Quotients.{quotients}
use Rattle.sg_value_theory.proofs.RationalPlaces.{rational_places}

module _ (d : ℕ) (x : Value (suc d)) (ne : ¬ (x ≡ zero_value)) where
  place : ℕ
  place = (rational_places d (pos 0)).from x + (rational_places d (pos 0)).from (inv_value x)

  number : ℤ
  number = pos 0 +ℤ pos place

  pub some_number : (n : ℤ) × (v : Value d) × IsQuotientAt n x v × ¬ (v ≡ zero_value)
  unfolding place
  some_number =
      let v = (rational_places d (pos 0)).has_past x place (omega arith) in
      let w = (rational_places d (pos 0)).has_past (inv_value x) place (omega arith) in
      (pos 0 +ℤ pos place, v.0, v.1, λ z. value_one_ne d (one v.0 w.0 v.1 w.1 ∙ ap (λ u. u *ᵛ w.0) z ∙ ring (ValueR d) (w.0 ∷ []) (search reads depth 12) refl))
    where
      one : (v w : Value d) → IsQuotientAt (pos 0 +ℤ pos place) x v → IsQuotientAt (pos 0 +ℤ pos place) (inv_value x) w → one_value ≡ v *ᵛ w
      one v w h i =
          (quotients d (pos 0 +ℤ pos place)).unique one_value one_value (v *ᵛ w) (quotients d (pos 0 +ℤ pos place)).one_has
          (subst (λ z. IsQuotientAt (pos 0 +ℤ pos place) z (v *ᵛ w)) (value_mul-inv (suc d) x ne) ((quotients d (pos 0 +ℤ pos place)).mul_has x (inv_value x) v w h i))
