use Rattle.std.proofs.Common.{◌≡◌, List, ℤ, subst, arith}
use Rattle.std.proofs.lemmas.List.{take_all}
use Rattle.sg_relations.specs.Parts.{joined_from}
use Rattle.sg_relations.proofs.Grown.{joined_more}
use Rattle.sg_relations.proofs.monic.joined_rows.Goals as goal

pub loop-i-preserved : goal.loop-i-preserved
loop-i-preserved g c = joined_more c.args.factors.now c.loop-i.i c.args.others.now c.get.result.now c.as_slice.result.now c.in_ok-row.row c.extend_from_slice.new.self c.loop-i.rows c.push.new.self (omega arith) c.get.ensures
    c.as_slice.ensures c.in_ok-row.ensures.value c.in_ok-extend_from_slice.ensures.ok c.loop-i.invariant c.in_ok-push.ensures.ok

pub returns-clause-value : goal.returns-clause-value
returns-clause-value g c = subst (λ (rs : List (List ℤ)). c.loop-i.rows ≡ joined_from c.args.factors.now 0 rs) (take_all c.loop-i.i c.args.others.now (omega arith)) c.loop-i.invariant
