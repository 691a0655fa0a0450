use Rattle.std.proofs.Common.{length, map, ap}
use Rattle.sg_algebra.proofs.Polynomial.{coefficient}
use Rattle.sg_constant.proofs.Solved.{zero_more, length_more}
use Rattle.sg_constant.proofs.solving.zeros.Goals as goal

pub zeros-init : goal.zeros-init
zeros-init g c = record { size = ap length c.new-row.ensures; zeros = λ j. ap (λ l. coefficient (map g.F.Field.val l) j) c.new-row.ensures }

pub zeros-preserved : goal.zeros-preserved
zeros-preserved g c = record {
  size = length_more g.F.Field.val c.zeros.row c.push.new.self c.in_ok-zero.field-0 c.zeros.i c.zeros.invariant.size c.in_ok-push.ensures.ok;
  zeros = zero_more g.F.Field.val c.zeros.row c.push.new.self c.in_ok-zero.field-0 c.zeros.invariant.zeros c.in_ok-zero.ensures.value c.in_ok-push.ensures.ok;
}
