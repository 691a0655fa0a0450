use Rattle.sg_bottom.proofs.bottom.BottomTower.flat.Goals as goal

pub returns-clause-value : goal.returns-clause-value
returns-clause-value g c = rw c.as_slice.ensures at c.in_ok-terms.ensures.value
