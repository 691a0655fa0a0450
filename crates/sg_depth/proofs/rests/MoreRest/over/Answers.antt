use Rattle.sg_depth.proofs.rests.MoreRest.over.Goals as goal

pub over-requires-clause-state : goal.over-requires-clause-state
over-requires-clause-state g c = c.in_ok-more-in-Known.ensures.state g.R.Rest.left c.requires.state

pub over-requires-in-New-clause-state : goal.over-requires-in-New-clause-state
over-requires-in-New-clause-state g c = c.in_ok-more-in-New.ensures.state g.R.Rest.left c.requires.state
