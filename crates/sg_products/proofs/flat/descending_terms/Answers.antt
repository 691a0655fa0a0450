use Rattle.std.proofs.Common.{refl, length}
use Rattle.sg_products.specs.Readings.{IsFlatTerm}
use Rattle.sg_products.proofs.Flattening.{pairwise_next, flat_is}
use Rattle.sg_products.proofs.flat.descending_terms.Goals as goal

pub loop-i-init : goal.loop-i-init
loop-i-init g c = rw c.new-row.ensures tt

pub loop-i-preserved : goal.loop-i-preserved
loop-i-preserved g c = pairwise_next (IsFlatTerm g.F.Field.val) c.terms-terms.result.now c.loop-i.row c.push.new.self c.loop-i.i c.index-terms-i.result c.in_ok-t.t
    c.loop-i.invariant c.loop-i-test.true c.index-terms-i.is c.in_ok-t.ensures.value c.in_ok-push.ensures.ok

pub returns-clause-value : goal.returns-clause-value
returns-clause-value g c = flat_is g.F.Field.val c.args.alphas.now c.terms-terms.result.now c.loop-i.i (length c.args.alphas.now) c.args.e.now c.loop-i.row
    refl c.loop-i-test.false c.terms-terms.ensures.value c.terms-terms.ensures.normal c.loop-i.invariant
