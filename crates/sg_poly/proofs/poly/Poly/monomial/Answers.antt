use Rattle.std.proofs.Common.{◌≡◌, ◌∙◌, arith}
use Rattle.sg_poly.proofs.SimpleRows.{zero_more, monomial_row}
use Rattle.sg_poly.proofs.poly.Poly.monomial.Goals as goal

pub loop-preserved : goal.loop-preserved
loop-preserved g c = zero_more g.F.Field.val _ _ _ _ c.loop.invariant c.in_ok-push.ensures.ok c.in_ok-zero.ensures.value

pub returns-clause-value : goal.returns-clause-value
returns-clause-value g c =
    let e : c.loop.counter ≡ c.args.n = omega arith in
    c.trimmed.ensures.value ∙ monomial_row g.F.Field.val _ _ _ _ (rw e at c.loop.invariant) c.in_ok-push-2.ensures.ok
