use Rattle.sg_spread.proofs.step.item_left.Goals as goal

pub returns-then-column-eq0-clause-none : goal.returns-then-column-eq0-clause-none
returns-then-column-eq0-clause-none c = λ h. c.whole.ensures.as_number
