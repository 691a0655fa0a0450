-- The factors of products.
--   nonzero_each    none of the factors is 0, one by one
--   no_zero         there is none without factors
--   none_free       and nothing is asked of none
--   none_then       what follows where there is no value
--   empty_is        a list that was found to be empty
use Rattle.std.proofs.Common.{◌≡◌, ℕ, suc, ◌==◌, ◌∙◌, refl, sym, Bool, true, Option, Some, None, IfNone, inl, inr, List, [], ◌∷◌, map, length, arith}
use Rattle.sg_algebra.specs.Coefficients.{Each}
use Rattle.sg_algebra.proofs.Value.{Value, zero_value}
use Rattle.sg_tower_theory.proofs.Formal.{IndependentFactors, none_independent}
use Rattle.sg_ratfun.specs.Fractions.{ratio}
use Rattle.sg_bottom.specs.Factors.{HasZero, AreNonzero}

module _ {K : Type 0} {d : ℕ} (v : K → Value d) where
  pub nonzero_each : (αs : List (List K × List K)) → AreNonzero v αs → Each (λ a. ¬ (ratio v a ≡ zero_value)) αs
  nonzero_each [] h = tt
  nonzero_each (α ∷ αs) h = ((λ z. h (inl z)), nonzero_each αs (λ z. h (inr z)))

  pub no_zero : (αs : List (List K × List K)) → αs ≡ [] → AreNonzero v αs
  no_zero αs e = rw e (λ z. z)

  pub none_free : (αs : List (List K × List K)) → αs ≡ [] → IndependentFactors (map (ratio v) αs)
  none_free αs e = rw e none_independent

-- what follows where there is no value
pub none_then : {X : Type 0} {P Q : Type 0} (o : Option X) → IfNone o P → (P → Q) → IfNone o Q
none_then None p f = f p
none_then (Some x) p f = tt

-- a list that was found to be empty
pub empty_is : {X : Type 0} (xs : List X) (b : Bool) → b ≡ true → b ≡ (length xs == 0) → xs ≡ []
empty_is [] b t e = refl
empty_is (x ∷ xs) b t e = absurd (grind (arith, t, e))
