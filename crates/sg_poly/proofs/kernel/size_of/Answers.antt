use Rattle.std.proofs.Common.{◌≡◌, ◌∙◌, sym, refl, arith, ◌-◌, length, IsTrue}
use Rattle.sg_algebra.proofs.Rows.{zeros_past, zeros_more, at_read}
use Rattle.sg_poly.proofs.kernel.size_of.Goals as goal

pub loop-n-init : goal.loop-n-init
loop-n-init g c = (omega arith, zeros_past g.F.Field.val c.args.list.now (length c.args.list.now) refl)

pub returns-else-is_zero-clause-last : goal.returns-else-is_zero-clause-last
returns-else-is_zero-clause-last g c k e z =
    let same : k ≡ c.loop-n.n - 1 = omega arith in
    let t : IsTrue c.is_zero.result = c.is_zero.ensures.1 (sym (at_read g.F.Field.val c.args.list.now (c.loop-n.n - 1) c.index-list-n.result (omega arith) c.index-list-n.is) ∙ (rw same at z)) in
    grind (arith, t, c.if-is_zero.false)

pub loop-n-preserved : goal.loop-n-preserved
loop-n-preserved g c = (omega arith, zeros_more g.F.Field.val c.args.list.now c.loop-n.n c.index-list-n.result c.loop-n.invariant.1 (omega arith) (omega arith) c.index-list-n.is (c.is_zero.ensures.0 c.if-is_zero.true))
