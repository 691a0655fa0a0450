use Rattle.sg_expr.specs.Tree.{tree_of}
use Rattle.sg_ratfun.specs.Fractions.{ratio}
use Rattle.sg_build.specs.Letters.{letter}
use Rattle.sg_build.proofs.PlacedParts.{function-element}
use Rattle.sg_build.proofs.placing.polynomial.Goals as goal

pub returns-clause-value : goal.returns-clause-value
returns-clause-value g c =
    let ρ = g.T.Tower.reading g.K.Field.vars g.K.Field.val c.args.tower.now in
    function-element (letter g.K.Field.vars) ρ (tree_of c.args.e.now) (ratio g.K.Field.val c.in_ok-c.c) c.in_ok-r.r c.in_ok-c.ensures.value c.in_ok-r.ensures.value
