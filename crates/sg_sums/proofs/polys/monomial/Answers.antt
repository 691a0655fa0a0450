use Rattle.std.proofs.Common.{ℕ, subst, arith}
use Rattle.sg_sums.specs.Polynomials.{PolyMonomial}
use Rattle.sg_sums.proofs.Shifting.{behind_is, monomial_start, monomial_next}
use Rattle.sg_sums.proofs.polys.monomial.Goals as goal

pub loop-init : goal.loop-init
loop-init g c = monomial_start (g.T.Tower.reading g.T.K.Field.vars g.T.K.Field.val c.args.below.now) c.args.a.now c.in_ok-lead.lead c.in_ok-r.r c.in_ok-lead.ensures.value c.in_ok-r.ensures.value

pub loop-preserved : goal.loop-preserved
loop-preserved g c = monomial_next (g.T.Tower.reading g.T.K.Field.vars g.T.K.Field.val c.args.below.now) c.args.a.now c.in_ok-zero.zero c.loop.r c.in_ok-r-2.r c.loop.counter c.loop.invariant c.in_ok-zero.ensures.value (behind_is (g.T.Tower.reading g.T.K.Field.vars g.T.K.Field.val c.args.below.now) c.in_ok-zero.zero c.loop.r c.in_ok-r-2.r c.in_ok-r-2.ensures.value)

pub returns-clause-value : goal.returns-clause-value
returns-clause-value g c = subst (λ (k : ℕ). PolyMonomial (g.T.Tower.reading g.T.K.Field.vars g.T.K.Field.val c.args.below.now) k c.args.a.now c.loop.r) (omega arith) c.loop.invariant
