use Rattle.std.proofs.Common.{arith, sym, subst, ℕ, suc}
use Rattle.sg_num.specs.Value.{number}
use Rattle.sg_forms.specs.Listed.{IsTelling}
use Rattle.sg_forms.proofs.Towers.{count-is, told-free, told-expressed, printed-expressed}
use Rattle.sg_forms.proofs.frees.one_more.Goals as goal

pub get-requires : goal.get-requires
get-requires g c =
    let n = count-is c.args.built.now.facts.now (g.T.Tower.reading 0 number c.args.built.now.tower) c.args.built.now.free_gens c.args.built.now.known c.requires.stands.sound c.requires.stands.stands in
    let l = c.requires.inside in
    omega (arith, n, l)

pub returns-in_ok-push-in-Some-clause-told : goal.returns-in_ok-push-in-Some-clause-told
returns-in_ok-push-in-Some-clause-told g c =
    subst (λ (m : ℕ). IsTelling c.args.built.now.facts.now c.args.built.now.free_gens (suc c.args.i) m c.push.new.self) (sym c.in-Some.ensures.some.0)
    (told-free c.args.built.now.facts.now (g.T.Tower.reading 0 number c.args.built.now.tower) c.args.built.now.free_gens c.args.built.now.known c.requires.stands.sound c.requires.stands.stands c.args.i c.args.told.next c.args.told.standings
    c.requires.so_far c.requires.inside (g.met.T.Tower.independent c.args.built.now.tower) c.push.new.self c.in_ok-push-in-Some.ensures.ok c.in-Some.ensures.some.1 c.in-Some.ensures.some.2)

pub returns-in_ok-push-in-None-clause-told : goal.returns-in_ok-push-in-None-clause-told
returns-in_ok-push-in-None-clause-told g c =
    told-expressed c.args.built.now.facts.now (g.T.Tower.reading 0 number c.args.built.now.tower) c.args.built.now.free_gens c.args.built.now.known c.requires.stands.sound c.requires.stands.stands c.args.i c.args.told.next c.args.told.standings
    c.requires.so_far c.requires.inside c.get.result.now c.in_ok-h-in-None.h c.push-in-None.new.self c.get.ensures c.in_ok-h-in-None.ensures.said c.in_ok-push-in-None.ensures.ok c.in-None.ensures.none

pub returns-in_ok-push-in-None-clause-printed : goal.returns-in_ok-push-in-None-clause-printed
returns-in_ok-push-in-None-clause-printed g c =
    printed-expressed c.args.built.now.facts.now (g.T.Tower.reading 0 number c.args.built.now.tower) c.args.built.now.free_gens c.args.built.now.known c.requires.stands.sound c.requires.stands.stands c.args.told.standings c.push-in-None.new.self c.get.result.now c.in_ok-h-in-None.h
    c.requires.printed c.in_ok-h-in-None.ensures.said c.in_ok-push-in-None.ensures.ok
