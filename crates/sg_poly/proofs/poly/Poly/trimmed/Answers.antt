use Rattle.sg_algebra.proofs.Rows.{cut_same, cut_ends}
use Rattle.sg_poly.proofs.poly.Poly.trimmed.Goals as goal

pub invariant_of-result : goal.invariant_of-result
invariant_of-result g c = rw (c.truncate.ensures, ← c.as_slice.ensures) (cut_ends g.F.Field.val c.as_slice.result.now c.size_of-n.result c.size_of-n.ensures.within c.size_of-n.ensures.last)

pub returns-clause-value : goal.returns-clause-value
returns-clause-value g c = rw (c.truncate.ensures, ← c.as_slice.ensures) (cut_same g.F.Field.val c.as_slice.result.now c.size_of-n.result (record { nothing = c.size_of-n.ensures.zeros }))

pub returns-clause-ends : goal.returns-clause-ends
returns-clause-ends g c = rw (c.truncate.ensures, ← c.as_slice.ensures) (cut_ends g.F.Field.val c.as_slice.result.now c.size_of-n.result c.size_of-n.ensures.within c.size_of-n.ensures.last)
