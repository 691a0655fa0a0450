use Rattle.sg_num.specs.Value.{number}
use Rattle.sg_num.proofs.Units.{power_first, power_more}
use Rattle.sg_num.proofs.unit.times_power.Goals as goal

pub loop-init : goal.loop-init
loop-init c = power_first (number c.args.x)

pub loop-preserved : goal.loop-preserved
loop-preserved c = power_more (number c.args.x) (number c.loop.product) (number c.args.c) (number c.in_ok-product.product) c.loop.counter c.loop.invariant c.in_ok-product.ensures.as_number
