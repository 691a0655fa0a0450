-- The sum of the first expression of a command, over the sums of all.
--   IsFirstClosed a es h      h is a closed form of the sum of the first expression from a on, from the start of all on
--   IsFirstCanonical es h     h is in canonical form over some of the sums, each new over those before it
--   HasNoFirst es             no expression over the sums telescopes the first expression from any point on
use Rattle.std.specs.Prelude.{ℤ, List, [], ◌∷◌}
use Rattle.sg_spec.specs.Tree.{Tree}
use Rattle.sg_spec.specs.Generators.{sums, prods, start, Over}
use Rattle.sg_spec.specs.Canonical.{IsCanonicalOver}
use Rattle.sg_spec.specs.Closed.{Closed}
use Rattle.sg_spec.specs.Telescoping.{Tele}
use Rattle.sg_forms_theory.specs.Sums.{AreNew}

abbrev pub IsFirstClosed : ℤ → List Tree → Tree → Type 0
IsFirstClosed a [] h = ⊥
IsFirstClosed a (f ∷ others) h = Closed f others a h (start (f ∷ others) a)

abbrev pub IsFirstCanonical : List Tree → Tree → Type 0
IsFirstCanonical es h = (gs : List Tree) × AreNew (sums es) gs × IsCanonicalOver (prods es) gs h

abbrev pub HasNoFirst : List Tree → Type 0
HasNoFirst [] = ⊥
HasNoFirst (f ∷ others) = (e : Tree) → Over (sums (f ∷ others)) e → ¬ Tele e f
