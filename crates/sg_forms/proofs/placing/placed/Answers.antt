use Rattle.sg_num.specs.Value.{number}
use Rattle.sg_expr.specs.Tree.{tree_of}
use Rattle.sg_forms.proofs.Towers.{somewhere-is}
use Rattle.sg_forms.proofs.placing.placed.Goals as goal

pub place-requires-clause-somewhere : goal.place-requires-clause-somewhere
place-requires-clause-somewhere g c =
    rw (c.as_slice.ensures, c.as_slice-2.ensures, c.as_slice-3.ensures)
    (somewhere-is c.args.built.now.facts.now (g.T.Tower.reading 0 number c.args.built.now.tower) c.args.built.now.free_gens c.args.built.now.known c.requires.stands.sound c.requires.stands.stands (tree_of c.args.f.now) c.requires.listed)
