use Rattle.std.proofs.Common.{map}
use Rattle.sg_algebra.proofs.PolynomialRing.{PolyR}
use Rattle.sg_tower_theory.proofs.Formal.{elements}
use Rattle.sg_sums.proofs.polys.joined.Goals as goal

pub returns-then-len-clause-value : goal.returns-then-len-clause-value
returns-then-len-clause-value g c = (PolyR (elements (g.T.Tower.reading g.T.K.Field.vars g.T.K.Field.val c.args.below.now).formal)).trans c.in_ok-turned.ensures.value
    ((PolyR (elements (g.T.Tower.reading g.T.K.Field.vars g.T.K.Field.val c.args.below.now).formal)).add_comm {x = map (g.T.Tower.reading g.T.K.Field.vars g.T.K.Field.val c.args.below.now).of c.args.y} {y = map (g.T.Tower.reading g.T.K.Field.vars g.T.K.Field.val c.args.below.now).of c.args.x})
