use Rattle.sg_algebra.proofs.Place.{Pairwise}
use Rattle.sg_sums.specs.Polynomials.{IsBare}
use Rattle.sg_sums.proofs.ending.without_lefts.Given as goal

abbrev pub invariant-loop-row : goal.invariant-loop-row
invariant-loop-row g l = Pairwise IsBare l.yielded l.bare
