use Rattle.std.proofs.Common.{arith}
use Rattle.std.proofs.lemmas.List.{length-map}
use Rattle.sg_num.specs.Value.{number}
use Rattle.sg_expr.specs.Tree.{tree_of}
use Rattle.sg_forms.proofs.Towers.{told-all}
use Rattle.sg_forms.proofs.frees.standings_in.Goals as goal

pub returns-clause-told : goal.returns-clause-told
returns-clause-told g c =
    let end = c.loop-i.auto.i-end in
    let past = c.loop-i-test.false in
    let len = c.len-i-end.ensures in
    let mapped = length-map c.args.built.now.facts.now.sums tree_of in
    told-all c.args.built.now.facts.now (g.T.Tower.reading 0 number c.args.built.now.tower) c.args.built.now.free_gens c.args.built.now.known c.requires.stands.sound c.requires.stands.stands c.loop-i.i c.loop-i.told.next c.loop-i.told.standings
    (omega (arith, end, past, len, mapped)) c.loop-i.invariant.telling
