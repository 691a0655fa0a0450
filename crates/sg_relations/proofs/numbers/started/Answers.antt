use Rattle.std.proofs.Common.{◌≡◌, ◌<◌, ℕ, length, pos, subst, sym}
use Rattle.sg_relations.specs.Columns.{IsAdded}
use Rattle.sg_num.specs.declared.rat.Rat.{Rat}
use Rattle.sg_relations.proofs.Starts.{start_next}
use Rattle.sg_relations.proofs.numbers.started.Goals as goal

pub loop-i-preserved : goal.loop-i-preserved
loop-i-preserved c = start_next (length c.args.list.now) c.loop-i.i c.args.list.now c.get-r.result.now c.loop-i.columns c.add_parts.new.columns (subst (λ (n : ℕ). c.loop-i.i < n) c.len-i-end.ensures c.loop-i-test.true)
    (subst (λ (r : Rat). ¬ (r.num ≡ pos 0)) (sym c.get-r.ensures) (c.requires c.loop-i.i c.get-r.result.now (subst (λ (n : ℕ). c.loop-i.i < n) c.len-i-end.ensures c.loop-i-test.true))) c.get-r.ensures c.loop-i.invariant
    (subst (λ (n : ℕ). IsAdded n c.loop-i.i c.get-r.result.now c.loop-i.columns c.add_parts.new.columns) c.len.ensures c.in_ok-add_parts.ensures.value)
