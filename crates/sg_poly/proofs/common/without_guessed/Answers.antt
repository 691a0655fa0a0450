use Rattle.sg_poly.proofs.common.without_guessed.Goals as goal

pub returns-clause-value : goal.returns-clause-value
returns-clause-value g c = c.in_ok-r.ensures.value _ _ (c.in_ok-rests.ensures.value _ _ c.in_ok-start.ensures.value)
