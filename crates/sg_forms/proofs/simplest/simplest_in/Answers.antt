use Rattle.sg_num.specs.Value.{number}
use Rattle.sg_expr.specs.Tree.{tree_of}
use Rattle.sg_forms.proofs.Towers.{simplest-is, printed-is}
use Rattle.sg_forms.proofs.simplest.simplest_in.Goals as goal

pub returns-clause-simplest : goal.returns-clause-simplest
returns-clause-simplest g c =
    simplest-is c.args.built.now.facts.now (g.T.Tower.reading 0 number c.args.built.now.tower) c.args.built.now.free_gens c.args.built.now.known c.requires.stands.sound c.requires.stands.stands
    (tree_of c.args.f.now) c.requires.listed c.in_ok-x.x c.in_ok-x.ensures.value (tree_of c.in_ok-h.h) c.in_ok-h.ensures.said (g.met.T.Tower.independent c.args.built.now.tower) c.in_ok-_told._told c.in_ok-_told.ensures.told

pub returns-clause-printed : goal.returns-clause-printed
returns-clause-printed g c = printed-is c.args.built.now.facts.now (g.T.Tower.reading 0 number c.args.built.now.tower) c.args.built.now.free_gens c.args.built.now.known c.requires.stands.sound c.requires.stands.stands c.in_ok-x.x (tree_of c.in_ok-h.h) c.in_ok-h.ensures.said
