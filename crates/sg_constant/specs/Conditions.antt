-- The conditions on the constants of a combination, as rows of a linear system.
--   Sends v rows f        each row sends the vector f to 0
--   HasSize n rows        each row has n items
--   IsConditioned v s old new    the rows new are the rows old and those that say that the numerators of the share s vanish
--   AreConditions v list rows    the rows say that the numerators of all shares of the list vanish
use Rattle.std.specs.Prelude.{◌≡◌, ℕ, List, length, map, ◌↔◌}
use Rattle.sg_algebra.specs.Coefficients.{Each}
use Rattle.sg_algebra.proofs.Linear.{row_times}
use Rattle.sg_algebra.proofs.Value.{Value, zero_value}
use Rattle.sg_algebra.proofs.Polynomial.{zero_polynomial}
use Rattle.sg_first_order_theory.proofs.Weighted.{weighted}
use Rattle.sg_reduction_theory.proofs.Answer.{None}
use Rattle.sg_reduction_theory.proofs.Spanning.{Sized}
use Rattle.sg_constant.specs.Shares.{polys, shares}
use Rattle.sg_constant.specs.declared.shares.Share.{Share as Given}

abbrev pub Sends : {K : Type 0} {d : ℕ} → (K → Value d) → List (List K) → (ℕ → Value d) → Type 0
Sends v rows f = Each (λ r. row_times (map v r) f ≡ zero_value) rows

abbrev pub HasSize : {K : Type 0} → ℕ → List (List K) → Type 0
HasSize n rows = Each (λ r. length r ≡ n) rows

pub record IsConditioned {K : Type 0} {d : ℕ} (v : K → Value d) (s : Given K) (old new : List (List K)) : Type 0 where
  pub both : (f : ℕ → Value d) → Sends v new f ↔ (Sends v old f × (weighted f (polys v s.uppers) ≡ zero_polynomial))
  pub sized : (n : ℕ) → length s.uppers ≡ n → HasSize n old → HasSize n new

pub record AreConditions {K : Type 0} {d : ℕ} (v : K → Value d) (list : List (Given K)) (rows : List (List K)) : Type 0 where
  pub both : (f : ℕ → Value d) → Sends v rows f ↔ None f (shares v list)
  pub sized : (n : ℕ) → Sized n (shares v list) → HasSize n rows
