-- How large a placed tree is: what a reader that goes down it is measured by.
--   parts    how many parts it has, itself among them
use Rattle.std.specs.Prelude.{ℕ, ◌+◌}
use Rattle.sg_spec.specs.Syntax.{Placed, number, named, negated, added, subtracted, multiplied, divided, raised, sum_call, product_call, harmonic, harmonic_of_order, factorial, binomial, constant_power}

abbrev pub parts : Placed → ℕ
parts (number s) = 1
parts (named s) = 1
parts (negated x) = 1 + parts x
parts (added x y) = 1 + parts x + parts y
parts (subtracted x y) = 1 + parts x + parts y
parts (multiplied x y) = 1 + parts x + parts y
parts (divided x s y) = 1 + parts x + parts y
parts (raised x e) = 1 + parts x
parts (sum_call c bound sign lower upper body) = 1 + parts body
parts (product_call c bound sign lower upper body) = 1 + parts body
parts (harmonic c v) = 1
parts (harmonic_of_order c v r) = 1
parts (factorial c v) = 1
parts (binomial c s x v) = 1 + parts x
parts (constant_power c x v) = 1 + parts x
