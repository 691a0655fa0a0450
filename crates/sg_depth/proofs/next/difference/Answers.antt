use Rattle.std.proofs.Common.{rules}
use Rattle.sg_expr.specs.Tree.{tree_of}
use Rattle.sg_depth.proofs.Calls.{before_is, built-is, somewhere-is, units-are, difference-is}
use Rattle.sg_depth.proofs.next.difference.Goals as goal

pub place-requires-clause-built : goal.place-requires-clause-built
place-requires-clause-built g c =
    built-is c.args.built.now.facts.now (g.T.Tower.reading g.F.Field.vars g.F.Field.val c.args.built.now.tower) c.args.built.now.free_gens c.args.built.now.known c.requires.state.0 c.requires.state.1 c.args.from.now (tree_of c.args.body.now) c.requires.next
    c.as_slice-2.result.now c.split_at.result.0.now c.as_slice-3.result.now c.as_slice-2.ensures (before_is c.split_at.result.0.now c.as_slice.result.now c.args.built.now.facts.now.sums c.len.result c.args.built.now.known c.split_at.ensures.front c.len.ensures c.as_slice.ensures) c.as_slice-3.ensures

pub place-requires-clause-units : goal.place-requires-clause-units
place-requires-clause-units g c =
    units-are c.args.built.now.facts.now (g.T.Tower.reading g.F.Field.vars g.F.Field.val c.args.built.now.tower) c.args.built.now.free_gens c.args.built.now.known c.requires.state.0 c.requires.state.1 c.args.from.now (tree_of c.args.body.now) c.requires.next
    c.as_slice-2.result.now c.split_at.result.0.now c.as_slice-3.result.now c.as_slice-2.ensures (before_is c.split_at.result.0.now c.as_slice.result.now c.args.built.now.facts.now.sums c.len.result c.args.built.now.known c.split_at.ensures.front c.len.ensures c.as_slice.ensures) c.as_slice-3.ensures

pub place-requires-clause-somewhere : goal.place-requires-clause-somewhere
place-requires-clause-somewhere g c =
    somewhere-is c.args.built.now.facts.now (g.T.Tower.reading g.F.Field.vars g.F.Field.val c.args.built.now.tower) c.args.built.now.free_gens c.args.built.now.known c.requires.state.0 c.requires.state.1 c.args.from.now (tree_of c.args.body.now) c.requires.next
    c.as_slice-2.result.now c.split_at.result.0.now c.as_slice-3.result.now c.as_slice-2.ensures (before_is c.split_at.result.0.now c.as_slice.result.now c.args.built.now.facts.now.sums c.len.result c.args.built.now.known c.split_at.ensures.front c.len.ensures c.as_slice.ensures) c.as_slice-3.ensures

pub returns-clause-step : goal.returns-clause-step
returns-clause-step g c =
    difference-is c.args.built.now.facts.now (g.T.Tower.reading g.F.Field.vars g.F.Field.val c.args.built.now.tower) c.args.built.now.free_gens c.args.built.now.known c.requires.state.0 c.requires.state.1 c.args.from.now (tree_of c.args.body.now) c.requires.next
    c.as_slice-2.result.now c.split_at.result.0.now c.as_slice-3.result.now c.as_slice-2.ensures (before_is c.split_at.result.0.now c.as_slice.result.now c.args.built.now.facts.now.sums c.len.result c.args.built.now.known c.split_at.ensures.front c.len.ensures c.as_slice.ensures) c.as_slice-3.ensures
    c.in_ok-placed.placed c.in_ok-beta.beta c.in_ok-placed.ensures.value c.in_ok-beta.ensures.value
