-- The definitions, tried on a few cases that were worked by hand.
use Rattle.std.specs.Prelude.{pos, negsuc, [], ◌∷◌, ℕ, suc}
use Rattle.std.proofs.Common.{◌≡◌, refl, sym, ◌∙◌, ap, inr}
use Rattle.sg_algebra.proofs.Solver.{ring, reads}
use Rattle.sg_algebra.proofs.Value.{Value, ◌*ᵛ◌, neg_value, one_value}
use Rattle.sg_algebra.proofs.ValueField.{ValueR, ValueF, value_one_ne}
use Rattle.sg_algebra.proofs.ShiftValue.{shift_value-one}
use Rattle.sg_tower_theory.specs.Powers.{powers}
use Rattle.sg_relations_theory.specs.Rows.{total}
use Rattle.sg_relations_theory.specs.Relations.{Expresses, Holds, IsSign}

-- the rows of 2, 4 and 1/2 over the basis 2 are 1, 2 and -1; 2^3 (1/2) 4^(-1) is 1, and the total is 0
total-powers_of_two : total (pos 3 ∷ negsuc 0 ∷ pos 1 ∷ []) ((pos 1 ∷ []) ∷ (pos 2 ∷ []) ∷ (negsuc 0 ∷ []) ∷ []) ≡ pos 0 ∷ []
total-powers_of_two = refl

-- those of 6 and 10 over the basis 2, 3, 5: 6 * 10^(-1) has the row 0, 1, -1
total-two_numbers : total (pos 1 ∷ negsuc 0 ∷ []) ((pos 1 ∷ pos 1 ∷ pos 0 ∷ []) ∷ (pos 1 ∷ pos 0 ∷ pos 1 ∷ []) ∷ []) ≡ pos 0 ∷ pos 1 ∷ negsuc 0 ∷ []
total-two_numbers = refl

-- x^2 x^(-1) .. : the empty product is 1, which is a ratio
empty_holds : {d : ℕ} → Holds {d = d} [] []
empty_holds {d} = (one_value, record { some = value_one_ne (suc d); is = shift_value-one d ∙ sym (ring (ValueR (suc d)) [] (search reads depth 12) refl) })

-- x x is expressed by x, with the exponent 2
square_expressed : {d : ℕ} (x : Value (suc d)) → Expresses (x ∷ []) (x *ᵛ x) (pos 2 ∷ []) one_value
square_expressed {d} x = record { sized = refl; some = value_one_ne (suc d); is = ring (ValueR (suc d)) (x ∷ []) (search reads depth 16) refl ∙ ap (λ z. powers (ValueF (suc d)) (x ∷ []) (pos 2 ∷ []) *ᵛ z) (sym (shift_value-one d)) }

-- -1 has the row without entries, since (-1)^1 is a sign; so it is Dependent with the exponent 2
minus_one_sign : {d : ℕ} → IsSign (powers (ValueF d) (neg_value one_value ∷ []) (pos 1 ∷ []))
minus_one_sign {d} = inr (ring (ValueR d) [] (search reads depth 16) refl)
