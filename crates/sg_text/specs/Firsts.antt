-- The first of several faults, by a test.
--   key          the place and the kind as one number, by which faults are ordered
--   earlier      the first of two, where there are any
--   first_of     the first of a list
use Rattle.std.specs.Prelude.{ℕ, ◌+◌, ◌*◌, nat_le, cond, Option, Some, None, List, [], ◌∷◌}
use Rattle.sg_spec.specs.Reading.{Fault, rank}

abbrev pub key : Fault → ℕ
key f = f.place * 4 + rank f.kind

abbrev pub earlier : Option Fault → Option Fault → Option Fault
earlier None y = y
earlier (Some f) None = Some f
earlier (Some f) (Some g) = cond (nat_le (key f) (key g)) (Some f) (Some g)

abbrev pub first_of : List Fault → Option Fault
first_of [] = None
first_of (f ∷ fs) = earlier (Some f) (first_of fs)
