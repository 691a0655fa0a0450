use Rattle.std.proofs.Common.{take}
use Rattle.sg_algebra.proofs.Place.{Pairwise}
use Rattle.sg_products.specs.Readings.{IsFlatTerm}
use Rattle.sg_products.proofs.flat.descending_terms.Given as goal

abbrev pub invariant-loop-i : goal.invariant-loop-i
invariant-loop-i g l = Pairwise (IsFlatTerm g.F.Field.val) (take l.i l.terms) l.row
