use Rattle.std.proofs.Common.{◌≡◌, ℕ, length, subst, arith}
use Rattle.sg_relations.specs.Parts.{lead, IsGrown, IsReached}
use Rattle.sg_ratfun.specs.Fractions.{ratio}
use Rattle.sg_algebra.proofs.Embedding.{constant_value}
use Rattle.sg_relations.proofs.Grown.{reached_none, reached_next}
use Rattle.sg_relations.proofs.monic.factors_of.Goals as goal

pub loop-i-init : goal.loop-i-init
loop-i-init g c = reached_none g.F.Field.val (length c.args.list.now) c.args.list.now c.new-factors.result c.new-factors.ensures

pub loop-i-preserved : goal.loop-i-preserved
loop-i-preserved g c = reached_next g.F.Field.val (length c.args.list.now) c.loop-i.i c.args.list.now c.get-r.result.now c.loop-i.factors c.add_parts.new.factors (omega arith) c.get-r.ensures c.loop-i.invariant
    (subst (λ (n : ℕ). IsGrown g.F.Field.val n c.loop-i.i (constant_value g.F.Field.vars (lead g.F.Field.val c.get-r.result.now)) (ratio g.F.Field.val c.get-r.result.now) c.loop-i.factors c.add_parts.new.factors) c.len.ensures c.in_ok-add_parts.ensures.value)

pub returns-clause-value : goal.returns-clause-value
returns-clause-value g c = let e : c.loop-i.i ≡ length c.args.list.now = omega arith in subst (λ (i : ℕ). IsReached g.F.Field.val (length c.args.list.now) i c.args.list.now c.loop-i.factors) e c.loop-i.invariant
