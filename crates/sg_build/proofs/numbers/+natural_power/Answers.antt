use Rattle.std.proofs.Common.{◌/◌, refl}
use Rattle.sg_build.proofs.WorthParts.{power-even, power-odd}
use Rattle.sg_build.proofs.numbers.+natural_power.Goals as goal

pub returns-then-e-eq0-2-clause-value : goal.returns-then-e-eq0-2-clause-value
returns-then-e-eq0-2-clause-value g t c =
    power-even (g.K.Field.val c.args.x.now) (g.K.Field.val c.in_ok-half.half) (g.K.Field.val c.in_ok-square.square) c.args.e (c.args.e / 2) refl c.if-e-eq0-2.true
    c.in_ok-half.ensures.value c.in_ok-square.ensures.value

pub returns-clause-value : goal.returns-clause-value
returns-clause-value g t c =
    power-odd (g.K.Field.val c.args.x.now) (g.K.Field.val c.in_ok-half.half) (g.K.Field.val c.in_ok-square.square) (g.K.Field.val c.in_ok-r-2.r) c.args.e (c.args.e / 2) refl c.if-e-eq0-2.false
    c.in_ok-half.ensures.value c.in_ok-square.ensures.value c.in_ok-r-2.ensures.value
