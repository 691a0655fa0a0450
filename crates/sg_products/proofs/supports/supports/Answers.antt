use Rattle.std.proofs.Common.{arith}
use Rattle.sg_products.proofs.Supporting.{supports_start, supports_more, supports_all}
use Rattle.sg_products.proofs.supports.supports.Goals as goal

pub loop-i-init : goal.loop-i-init
loop-i-init g c = supports_start g.F.Field.val c.args.alphas.now c.in_ok-zeros.zeros c.new-es.result c.push.new.self c.in_ok-zeros.ensures c.new-es.ensures c.in_ok-push.ensures.ok

pub with_terms-requires-clause-own : goal.with_terms-requires-clause-own
with_terms-requires-clause-own g c = c.loop-i.invariant.fit

pub with_terms-requires-clause-fit : goal.with_terms-requires-clause-fit
with_terms-requires-clause-fit g c = c.terms-terms.ensures.normal.fit

pub loop-i-preserved : goal.loop-i-preserved
loop-i-preserved g c = supports_more g.F.Field.val c.args.alphas.now c.args.fs.now c.loop-i.i c.get-f.result.now c.terms-terms.result.now c.loop-i.es c.in_ok-es.es c.loop-i.invariant (omega arith) c.get-f.ensures
    c.terms-terms.ensures.normal c.terms-terms.ensures.value c.in_ok-es.ensures.grows c.in_ok-es.ensures.all c.in_ok-es.ensures.fit

pub returns-clause-value : goal.returns-clause-value
returns-clause-value g c = supports_all g.F.Field.val c.args.alphas.now c.args.fs.now c.loop-i.i c.loop-i.es c.loop-i.invariant (omega arith)
