use Rattle.sg_poly.proofs.Planar.{cut_same, cut_trimmed}
use Rattle.sg_poly.proofs.plane.Poly2.from_rows.Goals as goal

pub invariant_of-result : goal.invariant_of-result
invariant_of-result c = rw (c.truncate.ensures, ← c.as_slice-2.ensures) (cut_trimmed c.as_slice.result.now c.as_slice-2.result.now c.height_of-n.result (rw c.as_slice-2.ensures c.in_ok-rows.ensures.value) c.height_of-n.ensures.within c.height_of-n.ensures.none c.height_of-n.ensures.last)

pub returns-clause-value : goal.returns-clause-value
returns-clause-value c = rw (c.truncate.ensures, ← c.as_slice-2.ensures, ← c.as_slice.ensures) (cut_same c.as_slice.result.now c.as_slice-2.result.now c.height_of-n.result (rw c.as_slice-2.ensures c.in_ok-rows.ensures.value) c.height_of-n.ensures.within c.height_of-n.ensures.none c.height_of-n.ensures.last)

pub returns-clause-trimmed : goal.returns-clause-trimmed
returns-clause-trimmed c = rw (c.truncate.ensures, ← c.as_slice-2.ensures) (cut_trimmed c.as_slice.result.now c.as_slice-2.result.now c.height_of-n.result (rw c.as_slice-2.ensures c.in_ok-rows.ensures.value) c.height_of-n.ensures.within c.height_of-n.ensures.none c.height_of-n.ensures.last)
