-- That products with given factors are free over one another, said of the factors themselves and as the towers ask for it.
--   each_zero, zero_each    the entries of a list are 0, one by one and by their places
--   to_factors              from the exponents that are 0 to the factors of a tower
--   from_factors            and back
use Rattle.std.proofs.Common.{◌≡◌, ℕ, zero, suc, refl, subst, List, [], ◌∷◌, get_or, ℤ, pos}
use Rattle.sg_algebra.specs.Coefficients.{Each}
use Rattle.sg_algebra.proofs.Value.{Value}
use Rattle.sg_algebra.proofs.ValueField.{ValueF}
use Rattle.sg_tower_theory.proofs.ShiftValue.{rational_functions}
use Rattle.sg_tower_theory.proofs.Products.{Some, Independent}
use Rattle.sg_tower_theory.proofs.Formal.{factors_same, IndependentFactors, independent_factors}
use Rattle.sg_relations_theory.specs.Relations.{AllZero, OnlyZeros}

pub each_zero : (es : List ℤ) → ((i : ℕ) → get_or es i (pos 0) ≡ pos 0) → AllZero es
each_zero [] h = tt
each_zero (e ∷ es) h = (h 0, each_zero es (λ i. h (suc i)))

pub zero_each : (es : List ℤ) → AllZero es → (i : ℕ) → get_or es i (pos 0) ≡ pos 0
zero_each [] h i = refl
zero_each (e ∷ es) h zero = h.0
zero_each (e ∷ es) h (suc i) = zero_each es h.1 i

module _ {d : ℕ} (αs : List (Value (suc d))) (some : Each (Some (ValueF (suc d))) αs) where
  pub to_factors : OnlyZeros αs → IndependentFactors αs
  to_factors h = independent_factors αs some (record { only_zero = λ es l r s e i. zero_each es (h.only_zero es l (r, record { some = s; is = e })) i })

  pub from_factors : IndependentFactors αs → OnlyZeros αs
  from_factors h = record { only_zero = λ es l k. each_zero es (λ i. own.only_zero es l k.0 k.1.some k.1.is i) }
    where
      own : Independent (ValueF (suc d)) (rational_functions d).σ αs
      own = subst (λ (ys : List (Value (suc d))). Independent (ValueF (suc d)) (rational_functions d).σ ys) (factors_same αs some) h
