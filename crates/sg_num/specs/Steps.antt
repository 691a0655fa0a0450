-- The four steps of arithmetic.
--   outcome      the exact result of a step
--   fits_step    the step fits 128 bits, for operands in lowest terms
use Rattle.std.specs.Prelude.{Bool}
use Rattle.sg_spec.specs.Fraction.{Fraction, plus, minus, times, over}
use Rattle.sg_spec.specs.Width.{fits, fits_plus, fits_minus, product, quotient}
use Rattle.sg_num.specs.declared.step.Op.{Op}
use Rattle.sg_num.specs.declared.step.Op.TheVariants.{Add, Sub, Mul, Div}

abbrev pub outcome : Op → Fraction → Fraction → Fraction
outcome Add x y = plus x y
outcome Sub x y = minus x y
outcome Mul x y = times x y
outcome Div x y = over x y

abbrev pub fits_step : Op → Fraction → Fraction → Bool
fits_step Add x y = fits_plus x y
fits_step Sub x y = fits_minus x y
fits_step Mul x y = fits (product x y)
fits_step Div x y = fits (quotient x y)
