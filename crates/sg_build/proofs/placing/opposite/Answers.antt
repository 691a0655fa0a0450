use Rattle.sg_build.proofs.PlacedParts.{is-opposite}
use Rattle.sg_build.proofs.placing.opposite.Goals as goal

pub returns-clause-value : goal.returns-clause-value
returns-clause-value g c =
    let ρ = g.T.Tower.reading g.K.Field.vars g.K.Field.val c.args.tower.now in
    is-opposite ρ c.in_ok-none.none c.args.x.now c.in_ok-r.r c.in_ok-none.ensures.value c.in_ok-r.ensures.value
