-- Sets of bytes as lists of ranges.
--   Range            the bytes from one to another
--   in_range, has    a byte in a range, in one of the ranges
use Rattle.std.specs.Prelude.{ℕ, ◌+◌, List, [], ◌∷◌, Bool, false, ◌&&◌, ◌||◌, leb}

-- `from low more`: from low to low + more
pub data Range : Type 0 where
  from : ℕ → ℕ → Range

abbrev pub in_range : Range → ℕ → Bool
in_range (from low more) b = leb low b && leb b (low + more)

abbrev pub has : List Range → ℕ → Bool
has [] b = false
has (r ∷ rs) b = in_range r b || has rs b
