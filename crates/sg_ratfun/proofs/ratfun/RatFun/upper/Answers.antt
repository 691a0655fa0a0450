use Rattle.sg_ratfun.proofs.ratfun.RatFun.upper.Goals as goal

pub returns-clause-reduced : goal.returns-clause-reduced
returns-clause-reduced g c = rw (← c.self.view_is) c.self.invariant
