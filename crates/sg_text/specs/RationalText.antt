-- The text of a fraction.
--   rational_text    the numerator with its sign, and the denominator behind a slash unless it is 1
use Rattle.std.specs.Prelude.{ℕ, ◌==◌, cond, List, ◌++◌, codes, decimal}
use Rattle.std.specs.Fmt.{signed_decimal}
use Rattle.sg_spec.specs.Fraction.{Fraction}

abbrev pub rational_text : Fraction → List ℕ
rational_text x = cond (x.den == 1) (signed_decimal x.num) (signed_decimal x.num ++ codes "/" ++ decimal x.den)
