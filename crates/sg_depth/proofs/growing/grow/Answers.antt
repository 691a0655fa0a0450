use Rattle.sg_depth.proofs.Grown.{few, room, grown-built}
use Rattle.sg_depth.proofs.growing.grow.Goals as goal

pub grown_by-requires-clause-few : goal.grown_by-requires-clause-few
grown_by-requires-clause-few g c =
    few c.args.built.facts.now (g.T.Tower.reading g.F.Field.vars g.F.Field.val c.args.built.tower) c.args.built.free_gens c.args.built.known c.requires.before.0 c.requires.before.1

pub grown_by-requires-clause-room : goal.grown_by-requires-clause-room
grown_by-requires-clause-room g c =
    room c.args.built.facts.now (g.T.Tower.reading g.F.Field.vars g.F.Field.val c.args.built.tower) c.args.built.free_gens c.args.built.known c.requires.before.0 c.requires.before.1

pub returns-clause-state : goal.returns-clause-state
returns-clause-state g c r state =
    grown-built c.args.built.facts.now (g.T.Tower.reading g.F.Field.vars g.F.Field.val c.args.built.tower) c.args.built.free_gens c.args.built.known c.args.beta _ _ _ r
    c.in_ok-grown.ensures.grown c.requires.fate state
