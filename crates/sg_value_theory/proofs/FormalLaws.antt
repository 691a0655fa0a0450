-- The laws of formal towers, and what they say of values along a run of points.
--   integral_formal    without products: a quotient of elements whose difference is an element is an element
--   first_law          an element that isn't 0 has, from every place on, somewhere a value that isn't 0
--   second_law         without products: an antidifference in values that is a quotient of elements gives a formal one
--   differences        the values of a formal antidifference differ by those of what it is one of
use Rattle.std.proofs.Common.{◌≡◌, ℕ, zero, suc, List, [], ◌∷◌}
use Rattle.sg_algebra.proofs.Value.{Value, ◌-ᵛ◌}
use Rattle.sg_algebra.proofs.ValueField.{ValueF, ValueD}
use Rattle.sg_tower_theory.proofs.Difference.{delta}
use Rattle.sg_tower_theory.proofs.ShiftValue.{shift_valueH}
use Rattle.sg_tower_theory.proofs.Nested.{NestedD, Shape, AreNew, tower}
use Rattle.sg_tower_theory.proofs.Formal.{Formal, Element, elements, domain_of, shifted, base, base_shift, IndependentFactors, IsIndependent, lawful_at, lawful_formal}
use Rattle.sg_value_theory.proofs.Elements.{Point, HasElement}
use Rattle.sg_value_theory.proofs.Integral.{Integral, integral_field, integral_above}
use Rattle.sg_value_theory.proofs.First.{NonzeroAt, nonzero_at}
use Rattle.sg_value_theory.proofs.Antidifferences.{IsQuotient, StepsBy, formal, value_of}
use Rattle.sg_value_theory.proofs.FormalPlaces.{IsRun, places_along}

module _ {d : ℕ} where
  integral_base : (αs : List (Value (suc d))) → αs ≡ [] → Integral (base αs) (base_shift αs).σ
  integral_base [] e = integral_field (ValueF (suc d)) (shift_valueH d)
  integral_base (α ∷ αs) e = absurd (clash e)
    where
      clash : α ∷ αs ≡ [] → ⊥
      clash e = cc

  integral_at : (αs : List (Value (suc d))) → αs ≡ [] → (n : ℕ) (s : Shape (base αs) n) → AreNew (base αs) (base_shift αs) (IndependentFactors αs) n s → Integral (NestedD (base αs) n) (tower (base αs) (base_shift αs) n s).σ
  integral_at αs e zero s h = integral_base αs e
  integral_at αs e (suc n) s h = integral_above (NestedD (base αs) n) (tower (base αs) (base_shift αs) n s.0).σ s.1 (lawful_at αs n s.0 h.0) (integral_at αs e n s.0 h.0) h.1

  pub integral_formal : (f : Formal d) → f.products ≡ [] → IsIndependent f → Integral (domain_of f) (shifted f).σ
  integral_formal f e h = integral_at f.products e f.sums f.shape h

  module _ (f : Formal d) (points : ℕ → Point d) (run : IsRun f points) where
    pub first_law : IsIndependent f → (x : Element f) → ¬ ((elements f).◌≈◌ x (elements f).O) → (b : ℕ) → NonzeroAt (domain_of f) (ValueD d) (shifted f).σ (places_along f points run) x b
    first_law h = nonzero_at (domain_of f) (ValueD d) (shifted f).σ (places_along f points run) (lawful_formal f h)

    pub second_law : f.products ≡ [] → IsIndependent f → (p q x : Element f) → ¬ ((elements f).◌≈◌ q (elements f).O) → (E : ℕ → Value d) (b : ℕ)
        → IsQuotient (domain_of f) (ValueD d) (shifted f).σ (places_along f points run) p q E b → StepsBy (domain_of f) (ValueD d) (shifted f).σ (places_along f points run) x E b → (g : Element f) × (elements f).◌≈◌ (delta (shifted f) g) x
    second_law e h = formal (domain_of f) (ValueD d) (shifted f).σ (places_along f points run) (lawful_formal f h) (integral_formal f e h)

    pub differences : (g x : Element f) → (elements f).◌≈◌ (delta (shifted f) g) x → (k : ℕ) (u u' v : Value d) → HasElement f (points k) g u → HasElement f (points (suc k)) g u' → HasElement f (points k) x v → u' -ᵛ u ≡ v
    differences = value_of (domain_of f) (ValueD d) (shifted f).σ (places_along f points run)
