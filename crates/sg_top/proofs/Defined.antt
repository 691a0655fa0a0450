-- Where no part is 0, an expression has a value from the lower limit on, as a fraction.
--   has_number     what is read without a parameter
use Rattle.std.proofs.Common.{[], ◌∷◌, ℤ, pos, ◌≤ℤ◌, false}
use Rattle.sg_algebra.proofs.Rational.{whole_value}
use Rattle.sg_spec.specs.Tree.{Tree}
use Rattle.sg_spec.specs.Printing.{InForm}
use Rattle.sg_spec.specs.Value.{val}
use Rattle.sg_spec.specs.Faults.{parts_from, AreSpared}
use Rattle.sg_worth_theory.proofs.Worths.{worth_number}
use Rattle.sg_value_theory.proofs.NumberParts.{HasNumber}
use Rattle.sg_limits.proofs.Soundness.{plain_sound}

pub has_number : (a : ℤ) (t : Tree) → InForm false false t → AreSpared (parts_from 1 a (t ∷ [])) → (k : ℤ) → a ≤ℤ k → HasNumber (val t (pos 0) k)
has_number a t f spared k le =
    let sound = plain_sound (whole_value 0 (pos 0)) a (t ∷ []) (f, tt) spared in
    let found = sound.values.0 k le in
    (found.0, worth_number (pos 0) t k found.0 found.1)
