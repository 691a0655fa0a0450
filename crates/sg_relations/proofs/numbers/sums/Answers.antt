use Rattle.std.proofs.Common.{rules, sym, ◌∙◌, ap₂, ◌++◌, ◌∷◌, [], pos, get_or, ◌+ℤ◌, FitsSigned}
use Rattle.std.specs.Int.{w128}
use Rattle.std.proofs.lemmas.Int.{to_z-of_z}
use Rattle.sg_relations.proofs.Loops.{sum_row-more}
use Rattle.sg_relations.proofs.numbers.sums.Goals as goal

pub loop-i-preserved : goal.loop-i-preserved
loop-i-preserved c =
    let left : FitsSigned w128 (get_or c.args.a.now c.loop-i.i (pos 0)) = search rules in
    let right : FitsSigned w128 (get_or c.args.b.now c.loop-i.i (pos 0)) = search rules in
    let sum : FitsSigned w128 c.in_ok-sum.sum = search rules in
    c.in_ok-push.ensures.ok ∙ ap₂ (λ r z. r ++ z ∷ []) c.loop-i.invariant (to_z-of_z w128 c.in_ok-sum.sum sum ∙ c.in_ok-sum.ensures.value ∙ ap₂ ◌+ℤ◌ (to_z-of_z w128 (get_or c.args.a.now c.loop-i.i (pos 0)) left) (to_z-of_z w128 (get_or c.args.b.now c.loop-i.i (pos 0)) right))
    ∙ sym (sum_row-more c.args.a.now c.args.b.now c.loop-i.i (pos 0) (pos 0) c.loop-i-test.true c.requires)
