use Rattle.sg_spread.proofs.step.item_above.Goals as goal

pub returns-then-p-d-clause-none : goal.returns-then-p-d-clause-none
returns-then-p-d-clause-none c = λ h. c.whole.ensures.as_number
