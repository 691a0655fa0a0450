use Rattle.std.proofs.Common.{arith}
use Rattle.std.specs.Bool.{IsTrue}
use Rattle.sg_products.proofs.Raising.{power_zero, power_even, power_odd}
use Rattle.sg_products.proofs.powers.+natural_power.Goals as goal

pub returns-then-n-eq0-clause-value : goal.returns-then-n-eq0-clause-value
returns-then-n-eq0-clause-value g t c = power_zero (g.K.Field.val c.args.x.now) (g.K.Field.val c.in_ok-one.one) c.args.n c.if-n-eq0.true c.in_ok-one.ensures.value

pub returns-then-is_even-clause-value : goal.returns-then-is_even-clause-value
returns-then-is_even-clause-value g t c =
    let b : IsTrue c.is_even.result = grind (arith, c.if-is_even.true) in
    power_even (g.K.Field.val c.args.x.now) (g.K.Field.val c.in_ok-half.half) (g.K.Field.val c.in_ok-square.square) c.args.n (c.is_even.ensures.0 b) c.in_ok-half.ensures.value c.in_ok-square.ensures.value

pub returns-clause-value : goal.returns-clause-value
returns-clause-value g t c = power_odd (g.K.Field.val c.args.x.now) (g.K.Field.val c.in_ok-half.half) (g.K.Field.val c.in_ok-square.square) (g.K.Field.val c.in_ok-r.r) c.args.n
    (λ z. let b : IsTrue c.is_even.result = c.is_even.ensures.1 z in grind (arith, b, c.if-is_even.false)) c.in_ok-half.ensures.value c.in_ok-square.ensures.value c.in_ok-r.ensures.value
