-- What the bounds of the reader stand for.
--   is_within       a number up to a bound, which may be below 0
--   limits_of       the tests of numbers and exponents
--   bounds_of       all bounds
use Rattle.std.specs.Prelude.{ℕ, ℤ, pos, negsuc, Bool, false, nat_le}
use Rattle.sg_spec.specs.Reading.{Limits, Bounds as Taken}
use Rattle.sg_text.specs.declared.bounds.Bounds.{Bounds}

abbrev pub is_within : ℤ → ℕ → Bool
is_within (pos most) n = nat_le n most
is_within (negsuc below) n = false

abbrev pub limits_of : Bounds → Limits
limits_of b = record { numeral = is_within b.numeral; exponent = λ n. nat_le n b.exponent }

abbrev pub bounds_of : Bounds → Taken
bounds_of b = record { bytes = b.bytes; parens = b.parens; limits = limits_of b }
