use Rattle.sg_num.specs.Value.{number}
use Rattle.sg_expr.specs.Tree.{tree_of}
use Rattle.sg_forms.proofs.Towers.{check-is}
use Rattle.sg_forms.proofs.checks.telescopes_in.Goals as goal

pub returns-clause-check : goal.returns-clause-check
returns-clause-check g c =
    check-is c.args.built.now.facts.now (g.T.Tower.reading 0 number c.args.built.now.tower) c.args.built.now.free_gens c.args.built.now.known c.requires.stands.sound c.requires.stands.stands
    (tree_of c.args.f.now) (tree_of c.args.g.now) c.requires.summand c.requires.antidifference c.in_ok-x.x c.in_ok-y.y c.in_ok-x.ensures.value c.in_ok-y.ensures.value (g.met.T.Tower.independent c.args.built.now.tower)
    c.in_ok-next.next c.in_ok-difference.difference c.in_ok-same.same c.in_ok-next.ensures.value c.in_ok-difference.ensures.value c.in_ok-same.ensures.value
