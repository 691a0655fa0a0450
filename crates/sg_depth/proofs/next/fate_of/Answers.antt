use Rattle.std.proofs.Common.{sym, ◌∙◌}
use Rattle.sg_expr.specs.Tree.{tree_of}
use Rattle.sg_depth.proofs.Calls.{has-start, new-fate, known-fate}
use Rattle.sg_depth.proofs.next.fate_of.Goals as goal

pub levelled-requires-clause-next : goal.levelled-requires-clause-next
levelled-requires-clause-next g c = c.requires.next ∙ sym c.requires.same

pub levelled-requires-clause-regular : goal.levelled-requires-clause-regular
levelled-requires-clause-regular g c =
    has-start c.args.built.now.facts.now (g.T.Tower.reading g.F.Field.vars g.F.Field.val c.args.built.now.tower) c.args.built.now.free_gens c.args.built.now.known c.requires.state.0 c.requires.state.1 c.args.from.now (tree_of c.args.body.now) c.requires.next c.in_ok-beta.beta c.in_ok-beta.ensures.step c.in-Some.y
    (rw c.in-Some.is at c.in_ok-telescope.ensures.some)

pub returns-in-None-clause-fate : goal.returns-in-None-clause-fate
returns-in-None-clause-fate g c = new-fate c.args.built.now.facts.now (g.T.Tower.reading g.F.Field.vars g.F.Field.val c.args.built.now.tower) c.args.built.now.free_gens c.args.built.now.known c.args.from.now (tree_of c.args.body.now) c.requires.next c.in_ok-beta.beta c.in_ok-beta.ensures.step (rw c.in-None.is at c.in_ok-telescope.ensures.none)

pub returns-in_ok-h-in-Some-clause-fate : goal.returns-in_ok-h-in-Some-clause-fate
returns-in_ok-h-in-Some-clause-fate g c =
    known-fate c.args.built.now.facts.now (g.T.Tower.reading g.F.Field.vars g.F.Field.val c.args.built.now.tower) c.args.built.now.free_gens c.args.built.now.known c.args.from.now (tree_of c.args.body.now) c.requires.next c.in_ok-beta.beta c.in_ok-beta.ensures.step c.in-Some.y c.in_ok-h-in-Some.h
    (rw c.in-Some.is at c.in_ok-telescope.ensures.some) (tree_of c.args.sum.now) c.requires.same c.in_ok-h-in-Some.ensures.level
