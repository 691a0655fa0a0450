use Rattle.std.proofs.Common.{sym, ◌∙◌, ap₂, ◌++◌, ◌∷◌, []}
use Rattle.sg_relations.proofs.Starts.{rows-next}
use Rattle.sg_relations.proofs.numbers.rows_of.Goals as goal

pub loop-i-preserved : goal.loop-i-preserved
loop-i-preserved c = c.in_ok-push.ensures.ok ∙ ap₂ (λ rs r. rs ++ r ∷ []) c.loop-i.invariant c.in_ok-row.ensures.value ∙ sym (rows-next c.args.columns.now c.loop-i.i)
