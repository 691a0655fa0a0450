use Rattle.std.proofs.Common.{rules, ◌∙◌, ap, List, ℤ, ◌++◌, ◌∷◌, [], FitsSigned, to_z, of_z, arith}
use Rattle.std.specs.Int.{w128}
use Rattle.std.proofs.lemmas.Int.{to_z-of_z}
use Rattle.sg_relations_theory.proofs.NullVectors.{dot, number_at}
use Rattle.sg_relations.proofs.Combined.{combined_more}
use Rattle.sg_relations.proofs.ratio.combined.Goals as goal

pub loop-i-preserved : goal.loop-i-preserved
loop-i-preserved g c =
    let fits : FitsSigned w128 c.in_ok-total.total = search rules in
    combined_more g.F.Field.val c.args.factors.now c.args.exps.now c.loop-i.i c.get-factor.result.now c.loop-i.row c.push-in-loop-i.new.self c.in_ok-base.base c.in_ok-total.total (omega arith) c.requires.monic c.get-factor.ensures c.in_ok-base.ensures.value
    (c.in_ok-total.ensures.value ∙ ap (λ (r : List ℤ). dot r (number_at c.args.exps.now)) c.as_slice.ensures) c.loop-i.invariant c.push.new.self
    (c.in_ok-push.ensures.ok ∙ ap (λ (r : List ℤ). r ++ (to_z w128 (of_z w128 c.in_ok-total.total)) ∷ []) c.new-own.ensures ∙ ap (λ (z : ℤ). z ∷ []) (to_z-of_z w128 c.in_ok-total.total fits)) c.in_ok-push-2.ensures.ok
