-- Placed trees whose numbers fit the numbers of an `Expr`.
--   FitsTree      numerals below 2^127, exponents below 2^128, lower limits of a size up to 1,000
use Rattle.std.specs.Prelude.{◌<◌, ◌≤◌, ◌^◌}
use Rattle.sg_spec.specs.Syntax.{Placed, number, named, negated, added, subtracted, multiplied, divided, raised, sum_call, product_call, harmonic, harmonic_of_order, factorial, binomial, constant_power}

abbrev pub FitsTree : Placed → Type 0
FitsTree (number s) = s.value < 2 ^ 127
FitsTree (named s) = Unit {0}
FitsTree (negated x) = FitsTree x
FitsTree (added x y) = FitsTree x × FitsTree y
FitsTree (subtracted x y) = FitsTree x × FitsTree y
FitsTree (multiplied x y) = FitsTree x × FitsTree y
FitsTree (divided x s y) = FitsTree x × FitsTree y
FitsTree (raised x e) = FitsTree x × e.value < 2 ^ 128
FitsTree (sum_call c bound sign lower upper body) = lower.value ≤ 1000 × FitsTree body
FitsTree (product_call c bound sign lower upper body) = lower.value ≤ 1000 × FitsTree body
FitsTree (harmonic c v) = Unit {0}
FitsTree (harmonic_of_order c v r) = r.value < 2 ^ 128
FitsTree (factorial c v) = Unit {0}
FitsTree (binomial c s x v) = FitsTree x
FitsTree (constant_power c x v) = FitsTree x
