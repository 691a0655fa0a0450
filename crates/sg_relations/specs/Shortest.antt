-- The shortest whole vector along a vector of fractions.
--   lower_at b i        the denominator of the i-th fraction, and 1 past the end
--   IsShortest b e      e is as long as b, and is b times a positive common multiple of its denominators, and that divides every common multiple
use Rattle.std.specs.Prelude.{◌≡◌, ℕ, ◌<◌, List, length, map, get_or, ℤ, pos, ◌<ℤ◌, unsigned_abs}
use Rattle.sg_algebra.proofs.Value.{◌*ᵛ◌}
use Rattle.sg_algebra.proofs.Polynomial.{coefficient}
use Rattle.sg_algebra.proofs.Whole.{ℤR}
use Rattle.sg_algebra.proofs.Divides.{Divides}
use Rattle.sg_num.specs.Value.{number}
use Rattle.sg_num.specs.declared.rat.Rat.{Rat}
use Rattle.sg_relations_theory.proofs.NullVectors.{number_at, as_value}

abbrev pub lower_at : List Rat → ℕ → ℕ
lower_at b i = get_or (map (λ r. unsigned_abs r.den) b) i 1

pub record IsShortest (b : List Rat) (e : List ℤ) : Type 0 where
  pub sized : length e ≡ length b
  pub multiple : ℤ
  pub positive : pos 0 <ℤ multiple
  pub is : (i : ℕ) → as_value (number_at e i) ≡ as_value multiple *ᵛ coefficient (map number b) i
  pub least : (m : ℤ) → ((i : ℕ) → i < length b → Divides ℤR (pos (lower_at b i)) m) → Divides ℤR multiple m
