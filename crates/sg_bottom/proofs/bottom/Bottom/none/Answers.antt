use Rattle.std.proofs.Common.{length, ap, arith}
use Rattle.sg_bottom.proofs.Factors.{no_zero, none_free}
use Rattle.sg_bottom.proofs.bottom.Bottom.none.Goals as goal

pub invariant_of-result : goal.invariant_of-result
invariant_of-result g c = record {
  few = omega (arith, ap length c.new.ensures);
  nonzero = no_zero g.F.Field.val c.new.result c.new.ensures;
  free = none_free g.F.Field.val c.new.result c.new.ensures;
}
