-- Closed forms of sums.
--   IsOverOwn    h is built over the sums alone where there are no products, and over both, without sums in divisors, elsewhere
--   Closed       h is a closed form of the sum of f from a on, from the start s on; further expressions may lend their sums
use Rattle.std.specs.Prelude.{◌≡◌, false, ℤ, pos, ◌≤ℤ◌, List, [], ◌∷◌}
use Rattle.sg_spec.specs.Tree.{Tree}
use Rattle.sg_spec.specs.Value.{val, total, SameValue}
use Rattle.sg_spec.specs.Generators.{Over, BuiltOver, sums, prods, start}

abbrev pub IsOverOwn : List Tree → List Tree → Tree → Type 0
IsOverOwn [] ss h = Over ss h
IsOverOwn (p ∷ ps) ss h = BuiltOver (record { parameter = false; products = p ∷ ps; sums = ss }) h

-- from s on h is the plain sum of f from a on
pub record Closed (f : Tree) (others : List Tree) (a : ℤ) (h : Tree) (s : ℤ) : Type 0 where
  pub starts : s ≡ start (f ∷ others) a
  pub over : IsOverOwn (prods (f ∷ others)) (sums (f ∷ others)) h
  pub same : (m : ℤ) → s ≤ℤ m → SameValue (val h (pos 0) m) (total f a m)
