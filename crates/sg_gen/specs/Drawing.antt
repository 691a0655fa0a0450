-- A term's shape as the program keeps it.
--   shape_of    what it stands for
use Rattle.sg_gen.specs.Sample.{Shape}
use Rattle.sg_gen.specs.declared.draws.Shape.{Shape as KeptShape}

abbrev pub shape_of : KeptShape → Shape
shape_of s = record { coefficient = s.coefficient; exponent = s.exponent; sum = s.sum; divisor = s.divisor }
