use Rattle.std.proofs.Common.{◌/◌, refl}
use Rattle.sg_build.proofs.PlacedParts.{power-none, power-even, power-odd}
use Rattle.sg_build.proofs.placing.+power.Goals as goal

pub returns-then-e-eq0-clause-value : goal.returns-then-e-eq0-clause-value
returns-then-e-eq0-clause-value g t c =
    let ρ = g.T.Tower.reading g.K.Field.vars g.K.Field.val c.args.tower.now in
    power-none ρ c.args.x.now c.in_ok-r.r c.args.e c.if-e-eq0.true c.in_ok-r.ensures.value

pub returns-then-e-eq0-2-clause-value : goal.returns-then-e-eq0-2-clause-value
returns-then-e-eq0-2-clause-value g t c =
    let ρ = g.T.Tower.reading g.K.Field.vars g.K.Field.val c.args.tower.now in
    power-even ρ c.args.x.now c.in_ok-half.half c.in_ok-square.square c.args.e (c.args.e / 2) refl c.if-e-eq0-2.true c.in_ok-half.ensures.value c.in_ok-square.ensures.value

pub returns-clause-value : goal.returns-clause-value
returns-clause-value g t c =
    let ρ = g.T.Tower.reading g.K.Field.vars g.K.Field.val c.args.tower.now in
    power-odd ρ c.args.x.now c.in_ok-half.half c.in_ok-square.square c.in_ok-r-2.r c.args.e (c.args.e / 2) refl c.if-e-eq0-2.false
    c.in_ok-half.ensures.value c.in_ok-square.ensures.value c.in_ok-r-2.ensures.value
