use Rattle.sg_laurent.proofs.Adding.{add_start, add_step, add_end}
use Rattle.sg_laurent.proofs.terms.added.Goals as goal

pub loop-i-init : goal.loop-i-init
loop-i-init g c = record { value = add_start g.K.Field.val c.args.n c.args.terms; normal = c.requires.normal }

pub loop-i-preserved : goal.loop-i-preserved
loop-i-preserved g c = record {
  value = add_step g.K.Field.val c.args.n c.args.ys.now c.loop-i.i c.index-ys-i.result c.in_ok-t.t c.args.terms c.loop-i.row c.in_ok-row.row c.loop-i-test.true c.index-ys-i.is c.in_ok-t.ensures.exponents c.in_ok-t.ensures.value c.loop-i.invariant.value c.in_ok-row.ensures.value;
  normal = c.in_ok-row.ensures.normal;
}

pub returns-clause-value : goal.returns-clause-value
returns-clause-value g c = add_end g.K.Field.val c.args.n c.args.ys.now c.loop-i.i c.args.terms c.loop-i.row c.loop-i-test.false c.loop-i.invariant.value
