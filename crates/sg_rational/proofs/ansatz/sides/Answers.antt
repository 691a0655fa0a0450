use Rattle.std.proofs.Common.{List, length, ap, arith}
use Rattle.std.proofs.lemmas.List.{take_all}
use Rattle.sg_algebra.proofs.Polynomial.{Polynomial, ◌*ᵖ◌}
use Rattle.sg_poly.specs.Polynomials.{polynomial}
use Rattle.sg_ratfun.specs.Fractions.{ratio}
use Rattle.sg_rational.proofs.Columns.{cleared_more, push_length}
use Rattle.sg_rational.proofs.Answering.{read_divides}
use Rattle.sg_rational.proofs.ansatz.sides.Goals as goal

pub loop-i-init : goal.loop-i-init
loop-i-init g c = record { value = rw (c.new-list.ensures) tt; size = ap length c.new-list.ensures }

pub side-requires : goal.side-requires
side-requires g c = read_divides g.F.Field.val c.args.fs.now c.loop-i.i c.index-fs-i.result (polynomial g.F.Field.val c.args.v.now) c.loop-i-test.true c.index-fs-i.is c.requires

pub loop-i-preserved : goal.loop-i-preserved
loop-i-preserved g c =
    let v = g.F.Field.val in
    let p : List g.row.F.Denot → Polynomial g.F.Field.vars = λ p. polynomial v p in
    record {
      value = cleared_more (ratio v) p (polynomial v c.args.factor.now *ᵖ polynomial v c.args.v.now) c.args.fs.now c.loop-i.i c.index-fs-i.result c.loop-i.list c.push.new.self c.in_ok-side.field-0
          c.loop-i-test.true c.index-fs-i.is c.in_ok-side.ensures.value c.in_ok-push.ensures.ok c.loop-i.invariant.value;
      size = push_length c.loop-i.list c.push.new.self c.in_ok-side.field-0 c.loop-i.i c.in_ok-push.ensures.ok c.loop-i.invariant.size;
    }

pub returns-clause-value : goal.returns-clause-value
returns-clause-value g c = rw (take_all c.loop-i.i c.args.fs.now (omega arith)) at c.loop-i.invariant.value
