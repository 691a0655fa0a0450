use Rattle.std.proofs.Common.{FitsSigned, w64, map}
use Rattle.std.proofs.lemmas.Int.{to_z-of_z}
use Rattle.sg_num.specs.Value.{number}
use Rattle.sg_expr.specs.Tree.{tree_of}
use Rattle.sg_nested.proofs.Closings.{somewhere-is, none-is, regular-is, closed-is, canonical-is, form-is}
use Rattle.sg_nested.proofs.nested.closed_in.Goals as goal

pub place-requires-clause-somewhere : goal.place-requires-clause-somewhere
place-requires-clause-somewhere g c = rw (c.as_slice.ensures, c.as_slice-2.ensures, c.as_slice-3.ensures) (somewhere-is c.args.built.now.facts.now (g.T.Tower.reading 0 number c.args.built.now.tower) c.args.built.now.free_gens c.args.built.now.known c.requires.stands.sound c.requires.stands.stands (tree_of c.args.f.now) c.args.lower c.requires.summand)

pub returns-in-None-clause-answer : goal.returns-in-None-clause-answer
returns-in-None-clause-answer g c =
    let placed = rw (c.as_slice.ensures, c.as_slice-2.ensures, c.as_slice-3.ensures) at c.in_ok-x.ensures.value in
    none-is c.args.built.now.facts.now (g.T.Tower.reading 0 number c.args.built.now.tower) c.args.built.now.free_gens c.args.built.now.known c.requires.stands.sound c.requires.stands.stands (tree_of c.args.f.now) c.args.lower c.requires.summand c.in_ok-x.x placed (g.met.T.Tower.independent c.args.built.now.tower) (rw c.in-None.is at c.in_ok-telescope.ensures.none)

pub total-requires-clause-regular : goal.total-requires-clause-regular
total-requires-clause-regular g c =
    let placed = rw (c.as_slice.ensures, c.as_slice-2.ensures, c.as_slice-3.ensures) at c.in_ok-x.ensures.value in
    regular-is c.args.built.now.facts.now (g.T.Tower.reading 0 number c.args.built.now.tower) c.args.built.now.free_gens c.args.built.now.known c.requires.stands.sound c.requires.stands.stands (tree_of c.args.f.now) c.args.lower c.requires.summand c.in_ok-x.x placed c.in-Some.g (rw c.in-Some.is at c.in_ok-telescope.ensures.some)

pub returns-clause-answer : goal.returns-clause-answer
returns-clause-answer g c =
    let fits : FitsSigned w64 c.args.lower = c.ranges.lower in
    let placed = rw (c.as_slice.ensures, c.as_slice-2.ensures, c.as_slice-3.ensures) at c.in_ok-x.ensures.value in
    let telescopes = rw c.in-Some.is at c.in_ok-telescope.ensures.some in
    let total = simp to_z-of_z at c.in_ok-y-in-Some.ensures.total in
    let value = rw (c.as_slice-in-Some.ensures, c.new-none.ensures, c.as_slice-in-Some-2.ensures) at c.in_ok-h-in-Some.ensures.value in
    let over = rw (c.as_slice-in-Some.ensures, c.new-none.ensures, c.as_slice-in-Some-2.ensures) at c.in_ok-h-in-Some.ensures.over in
    let canonical = rw (c.as_slice-in-Some.ensures, c.new-none.ensures, c.as_slice-in-Some-2.ensures) at c.in_ok-h-in-Some.ensures.canonical in
    let form = rw (c.as_slice-in-Some.ensures, c.new-none.ensures, c.as_slice-in-Some-2.ensures) at c.in_ok-h-in-Some.ensures.form in (
      closed-is c.args.built.now.facts.now (g.T.Tower.reading 0 number c.args.built.now.tower) c.args.built.now.free_gens c.args.built.now.known c.requires.stands.sound c.requires.stands.stands (tree_of c.args.f.now) c.args.lower c.requires.summand c.in_ok-x.x placed c.in-Some.g telescopes c.in_ok-y-in-Some.y total (map tree_of c.in_ok-frees-in-Some.frees) (tree_of c.in_ok-h-in-Some.h) c.in_ok-frees-in-Some.ensures.sums value over,
      canonical-is c.args.built.now.facts.now (g.T.Tower.reading 0 number c.args.built.now.tower) c.args.built.now.free_gens c.args.built.now.known c.requires.stands.sound c.requires.stands.stands (g.met.T.Tower.independent c.args.built.now.tower) (map tree_of c.in_ok-frees-in-Some.frees) (tree_of c.in_ok-h-in-Some.h) c.in_ok-frees-in-Some.ensures.sums canonical,
      form-is c.args.built.now.facts.now (g.T.Tower.reading 0 number c.args.built.now.tower) c.args.built.now.free_gens c.args.built.now.known c.requires.stands.sound c.requires.stands.stands (map tree_of c.in_ok-frees-in-Some.frees) (tree_of c.in_ok-h-in-Some.h) c.in_ok-frees-in-Some.ensures.sums form,
    )
