-- What a `Rat` stands for.
--   fraction    its fraction, in lowest terms
--   number      this fraction as a number of the field of fractions, in which equal fractions are one
use Rattle.std.specs.Prelude.{unsigned_abs}
use Rattle.sg_algebra.proofs.Value.{Value, fraction_value}
use Rattle.sg_spec.specs.Fraction.{Fraction}
use Rattle.sg_num.specs.declared.rat.Rat.{Rat}

abbrev pub fraction : Rat → Fraction
fraction r = record { num = r.num; den = unsigned_abs r.den }

abbrev pub number : Rat → Value 0
number r = fraction_value r.num (unsigned_abs r.den)
