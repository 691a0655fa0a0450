-- The law of relations at values: a product of powers of the alphas is of the form r(k + 1)/r(k), up to its sign, exactly where the total row of their generators is 0 and the product of
-- the powers of their constants is 1 or -1.
--   no_minus_one       -1 isn't of the form r(k + 1)/r(k)
--   SignRatio x        x or -x is
--   sign_law           the law
use Rattle.std.proofs.Common.{◌≡◌, ℕ, suc, refl, sym, ◌∙◌, ap, List, [], ◌∷◌, ℤ, ◌⊎◌, inl, inr, ◌↔◌, arith}
use Rattle.sg_algebra.specs.Ring.{Field}
use Rattle.sg_algebra.proofs.Ring.{neg_neg}
use Rattle.sg_algebra.proofs.Solver.{by, ring, reads}
use Rattle.sg_algebra.proofs.Value.{Value, neg_value, one_value, ◌*ᵛ◌, ◌+ᵛ◌}
use Rattle.sg_algebra.proofs.ValueField.{ValueR, ValueF}
use Rattle.sg_algebra.proofs.Embedding.{numeral_ne}
use Rattle.sg_algebra.proofs.Polynomial.{Polynomial, PolynomialR, PolynomialD, neg_polynomial, one_polynomial, zero_polynomial, same_poly, poly-add, ◌+ᵖ◌}
use Rattle.sg_first_order_theory.proofs.Next.{nextH}
use Rattle.sg_algebra.proofs.ShiftValue.{shift_value, shift_valueH}
use Rattle.sg_first_order_theory.proofs.ValueFractions.{value_fractions}
use Rattle.sg_tower_theory.specs.Powers.{powers}
use Rattle.sg_relations_theory.specs.Rows.{total}
use Rattle.sg_relations_theory.specs.Relations.{IsRatio, Holds, IsSign}
use Rattle.sg_relations_theory.proofs.Similar.{Similar, similar_same}
use Rattle.sg_relations_theory.proofs.RatioTheorem.{Inside, inside}
use Rattle.sg_relations_theory.proofs.Generators.{AreGenerators, Zeros, independent}
use Rattle.sg_relations_theory.proofs.AtValues.{rel_values}
use Rattle.sg_relations_theory.proofs.WrittenRows.{UnitValue, AllWritten, row_law_to, row_law_from, unit_value_one}

module _ (d : ℕ) where
  abbrev K : Field
  K = ValueF (suc d)

  abbrev f : Inside (PolynomialD d) K
  f = inside (value_fractions d)

  abbrev pub Ratio : Value (suc d) → Type 0
  Ratio x = Similar K (shift_valueH d) x one_value

  pub holds_ratio : (alphas : List (Value (suc d))) (es : List ℤ) → Holds alphas es → Ratio (powers K alphas es)
  holds_ratio alphas es h = record { r = h.0; some = h.1.some; is = ring (ValueR (suc d)) (shift_value d h.0 ∷ []) (search reads depth 12) refl ∙ h.1.is }

  pub is_ratio : (x : Value (suc d)) (h : Ratio x) → IsRatio x h.r
  is_ratio x h = record { some = h.some; is = ring (ValueR (suc d)) (shift_value d h.r ∷ []) (search reads depth 12) refl ∙ h.is }

  pub ratio_holds : (alphas : List (Value (suc d))) (es : List ℤ) → Ratio (powers K alphas es) → Holds alphas es
  ratio_holds alphas es h = (h.r, is_ratio (powers K alphas es) h)

  -- -1 as a unit of the polynomials
  abbrev pub minus_one : UnitValue (PolynomialD d) (nextH d) K f (neg_value one_value)
  minus_one = record {
    u = neg_polynomial one_polynomial;
    unit = record { cofactor = neg_polynomial one_polynomial; is = ring (PolynomialR d) [] (search reads depth 16) refl };
    is = sym ((value_fractions d).ι-neg one_polynomial ∙ ap neg_value (value_fractions d).ι-one);
  }

  minus_is_not_one : ¬ (neg_polynomial (one_polynomial {d = d}) ≡ one_polynomial)
  minus_is_not_one e = numeral_ne d 2 (omega arith) (ring (ValueR d) [] (search reads depth 16) refl ∙ same_poly ((one_value +ᵛ one_value) ∷ []) [] (poly-add (one_value ∷ []) (one_value ∷ []) ∙ two) 0)
    where
      two : one_polynomial +ᵖ one_polynomial ≡ zero_polynomial {d = d}
      two = by (PolynomialR d) [] (sym e) (search reads depth 16) refl

  pub no_minus_one : ¬ Ratio (neg_value one_value)
  no_minus_one s = minus_is_not_one (independent (PolynomialD d) (nextH d) K f (rel_values d) [] (record { apart = tt; some = tt; proper = tt }) minus_one.u minus_one.unit []
      (similar_same K (shift_valueH d) (neg_value one_value) one_value (f.ι minus_one.u *ᵛ one_value) one_value (minus_one.is ∙ ring (ValueR (suc d)) (f.ι minus_one.u ∷ []) (search reads depth 12) refl) refl s)).1

  abbrev pub SignRatio : Value (suc d) → Type 0
  SignRatio x = Ratio x ⊎ Ratio (neg_value x)

  -- -x is similar to 1 exactly where x is to -1
  turn : (x y : Value (suc d)) → Similar K (shift_valueH d) x y → Similar K (shift_valueH d) (neg_value x) (neg_value y)
  turn x y s = record { r = s.r; some = s.some; is = by (ValueR (suc d)) (x ∷ y ∷ s.r ∷ shift_value d s.r ∷ []) (sym s.is) (search reads depth 16) refl }

  module _ (ps : List (Polynomial d)) (gens : AreGenerators (PolynomialD d) (nextH d) ps) (alphas cs : List (Value (suc d))) (es : List (List ℤ))
      (w : AllWritten (PolynomialD d) (nextH d) K f ps gens alphas cs es) (xs : List ℤ) where
    pub sign_law : SignRatio (powers K alphas xs) ↔ (Zeros ps (total xs es) × IsSign (powers K cs xs))
    sign_law = (to, from)
      where
        plus_to : Ratio (powers K alphas xs) → Zeros ps (total xs es) × IsSign (powers K cs xs)
        plus_to h = let r = row_law_to (PolynomialD d) (nextH d) K f ps gens (rel_values d) alphas cs es w xs one_value (unit_value_one (PolynomialD d) (nextH d) K f) h in (r.0, inl r.1)

        minus_to : Ratio (neg_value (powers K alphas xs)) → Zeros ps (total xs es) × IsSign (powers K cs xs)
        minus_to h = let r = row_law_to (PolynomialD d) (nextH d) K f ps gens (rel_values d) alphas cs es w xs (neg_value one_value) minus_one
            (similar_same K (shift_valueH d) (neg_value (neg_value (powers K alphas xs))) (neg_value one_value) (powers K alphas xs) (neg_value one_value) (neg_neg (ValueR (suc d))) refl (turn (neg_value (powers K alphas xs)) one_value h)) in
            (r.0, inr r.1)

        to : SignRatio (powers K alphas xs) → Zeros ps (total xs es) × IsSign (powers K cs xs)
        to (inl h) = plus_to h
        to (inr h) = minus_to h

        from : Zeros ps (total xs es) × IsSign (powers K cs xs) → SignRatio (powers K alphas xs)
        from (z, inl e) = inl (row_law_from (PolynomialD d) (nextH d) K f ps gens (rel_values d) alphas cs es w xs one_value (unit_value_one (PolynomialD d) (nextH d) K f) z e)
        from (z, inr e) = inr (similar_same K (shift_valueH d) (neg_value (powers K alphas xs)) (neg_value (neg_value one_value)) (neg_value (powers K alphas xs)) one_value refl (neg_neg (ValueR (suc d)))
            (turn (powers K alphas xs) (neg_value one_value) (row_law_from (PolynomialD d) (nextH d) K f ps gens (rel_values d) alphas cs es w xs (neg_value one_value) minus_one z e)))
