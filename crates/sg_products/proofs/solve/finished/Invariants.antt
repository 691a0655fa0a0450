use Rattle.sg_algebra.proofs.Place.{Pairwise}
use Rattle.sg_products.specs.Solving.{IsFinished}
use Rattle.sg_products.proofs.solve.finished.Given as goal

abbrev pub invariant-loop-row : goal.invariant-loop-row
invariant-loop-row g l = Pairwise IsFinished l.yielded l.answer
