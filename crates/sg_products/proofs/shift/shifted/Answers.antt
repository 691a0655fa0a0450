use Rattle.std.proofs.Common.{refl, length}
use Rattle.sg_laurent.proofs.Gathering.{each_at}
use Rattle.sg_products.proofs.Moving.{shift_start, shift_step, shift_end}
use Rattle.sg_products.proofs.shift.shifted.Goals as goal

pub loop-i-init : goal.loop-i-init
loop-i-init g c = rw c.zero-r.ensures (shift_start g.F.Field.val c.args.alphas.now)

pub shifted_term-requires-clause-fit : goal.shifted_term-requires-clause-fit
shifted_term-requires-clause-fit g c = each_at _ c.terms-terms.result.now c.loop-i.i c.index-terms-i.result c.loop-i-test.true c.index-terms-i.is c.terms-terms.ensures.normal.fit

pub loop-i-preserved : goal.loop-i-preserved
loop-i-preserved g c = shift_step g.F.Field.val c.args.alphas.now c.terms-terms.result.now c.loop-i.i c.index-terms-i.result c.in_ok-t.t (length c.args.alphas.now) c.loop-i.r c.in_ok-r.r
    refl c.loop-i-test.true c.index-terms-i.is c.in_ok-t.ensures.value c.loop-i.invariant c.in_ok-r.ensures.value

pub returns-clause-value : goal.returns-clause-value
returns-clause-value g c = shift_end g.F.Field.val c.args.alphas.now c.terms-terms.result.now c.loop-i.i (length c.args.alphas.now) c.args.e.now c.loop-i.r
    refl c.loop-i-test.false c.terms-terms.ensures.value c.loop-i.invariant
