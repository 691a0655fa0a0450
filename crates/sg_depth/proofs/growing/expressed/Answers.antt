use Rattle.sg_depth.proofs.Grown.{known-built}
use Rattle.sg_depth.proofs.growing.expressed.Goals as goal

pub returns-clause-state : goal.returns-clause-state
returns-clause-state g c r state =
    known-built c.args.built.facts.now (g.T.Tower.reading g.F.Field.vars g.F.Field.val c.args.built.tower) c.args.built.free_gens c.args.built.known c.args.element c.push.new.self r
    c.in_ok-push.ensures.ok c.requires.fate state
