-- What a probe of a list of elements answers.
--   IsProbe d val list args values    where `val` says what an element stands for: args has a number for each of the d variables, and values has, for
--                                     each item of the list in order, the value that it has there; that of an item that isn't 0 isn't 0
use Rattle.std.specs.Prelude.{◌≡◌, ℕ, List, length, ℤ}
use Rattle.sg_algebra.proofs.Value.{Value, zero_value}
use Rattle.sg_algebra.proofs.Place.{Pairwise, HasValue}
use Rattle.sg_num.specs.Value.{number}
use Rattle.sg_num.specs.declared.rat.Rat.{Rat}

pub record IsProbe {E : Type 0} (d : ℕ) (val : E → Value d) (list : List E) (args : List ℤ) (values : List Rat) : Type 0 where
  pub count : length args ≡ d
  pub each : Pairwise (λ x r. HasValue d (val x) args (number r)) list values
  pub nonzero : Pairwise (λ x r. ¬ (val x ≡ zero_value) → ¬ (number r ≡ zero_value)) list values
