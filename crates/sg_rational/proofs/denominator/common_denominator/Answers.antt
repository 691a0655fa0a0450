use Rattle.std.proofs.Common.{map, arith}
use Rattle.sg_poly.specs.Polynomials.{polynomial}
use Rattle.sg_poly.proofs.Dividers.{monic_some}
use Rattle.sg_rational.proofs.Taking.{same_divides, divides_on, others_more}
use Rattle.sg_rational.proofs.denominator.common_denominator.Goals as goal

pub loop-i-init : goal.loop-i-init
loop-i-init g c =
    let v = g.F.Field.val in
    record {
      some = monic_some (map v c.in_ok-v.v) c.in_ok-v.ensures.monic;
      first = same_divides (polynomial v c.args.a.now.1) (polynomial v c.in_ok-v.v) c.in_ok-v.ensures.value;
      others = λ j l. absurd (omega arith);
    }

pub common_multiple-requires-clause-right : goal.common_multiple-requires-clause-right
common_multiple-requires-clause-right g c = monic_some (map g.F.Field.val c.in_ok-q.q) c.in_ok-q.ensures.monic

pub loop-i-preserved : goal.loop-i-preserved
loop-i-preserved g c =
    let v = g.F.Field.val in
    record {
      some = c.in_ok-v-2.ensures.some;
      first = divides_on (polynomial v c.args.a.now.1) (polynomial v c.loop-i.v) (polynomial v c.in_ok-v-2.v) c.loop-i.invariant.first c.in_ok-v-2.ensures.left;
      others = others_more v c.args.fs.now c.loop-i.i c.index-fs-i.result (polynomial v c.in_ok-q.q) (polynomial v c.loop-i.v) (polynomial v c.in_ok-v-2.v) c.index-fs-i.is (omega arith) c.in_ok-q.ensures.value
          c.in_ok-v-2.ensures.left c.in_ok-v-2.ensures.right c.loop-i.invariant.others;
    }
