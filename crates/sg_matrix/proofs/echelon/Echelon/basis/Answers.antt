use Rattle.sg_matrix.proofs.echelon.Echelon.basis.Goals as goal

pub returns-clause-complete : goal.returns-clause-complete
returns-clause-complete g c = rw (← c.self.view_is) c.in_ok-basis.ensures.complete
