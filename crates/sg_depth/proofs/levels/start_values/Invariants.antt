use Rattle.std.proofs.Common.{map, take}
use Rattle.sg_algebra.proofs.Place.{Pairwise}
use Rattle.sg_spec.specs.Worth.{HasWorth}
use Rattle.sg_value_theory.proofs.TowerOf.{at_places}
use Rattle.sg_build.specs.Letters.{letter}
use Rattle.sg_depth.specs.Commands.{sums_of}
use Rattle.sg_depth.proofs.levels.start_values.Given as goal

abbrev pub invariant-loop-i : goal.invariant-loop-i
invariant-loop-i g l = Pairwise (λ t v. HasWorth (letter g.F.Field.vars) t l.facts.start v) (at_places (sums_of l.facts) (take l.i l.places)) (map g.F.Field.val l.values)
