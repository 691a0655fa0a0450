use Rattle.std.proofs.Common.{◌+◌, arith}
use Rattle.sg_parts.proofs.Planar.{power_on, power_next}
use Rattle.sg_parts.proofs.planes.plane_power.Goals as goal

pub plane_product-requires : goal.plane_product-requires
plane_product-requires c = record { light = rw c.as_slice.ensures (power_on c.args.base.now c.loop-i.power c.loop-i._i c.args.exponent c.loop-i.invariant c.loop-i-test.true c.requires.light) }

pub loop-i-preserved : goal.loop-i-preserved
loop-i-preserved c = power_next c.args.base.now c.loop-i.power c.as_slice.result.now c.in_ok-power-2.power c.loop-i._i (c.loop-i._i + 1) c.as_slice.ensures c.loop-i.invariant c.in_ok-power-2.ensures (omega arith)
