use Rattle.std.proofs.Common.{rules, ◌∙◌, ap₂, pos, get_or, ◌+ℤ◌, ◌*ℤ◌, FitsSigned, refl, to_z}
use Rattle.std.specs.Int.{w128}
use Rattle.std.proofs.lemmas.Int.{to_z-of_z}
use Rattle.sg_relations.proofs.Columns.{dot_more}
use Rattle.sg_relations.proofs.ratio.total_of.Goals as goal

pub loop-i-preserved : goal.loop-i-preserved
loop-i-preserved c =
    let left : FitsSigned w128 (get_or c.args.a.now c.loop-i.i (pos 0)) = search rules in
    let right : FitsSigned w128 (get_or c.args.b.now c.loop-i.i (pos 0)) = search rules in
    let more : FitsSigned w128 c.in_ok-more.more = search rules in
    let sum : FitsSigned w128 c.in_ok-sum.sum = search rules in
    to_z-of_z w128 c.in_ok-sum.sum sum ∙ dot_more c.args.a.now c.args.b.now c.loop-i.i (to_z w128 c.loop-i.total-bits) c.in_ok-more.more c.in_ok-sum.sum c.loop-i-test.true c.loop-i.invariant
    (c.in_ok-more.ensures.value ∙ ap₂ ◌*ℤ◌ (to_z-of_z w128 (get_or c.args.a.now c.loop-i.i (pos 0)) left) (to_z-of_z w128 (get_or c.args.b.now c.loop-i.i (pos 0)) right))
    (c.in_ok-sum.ensures.value ∙ ap₂ ◌+ℤ◌ refl (to_z-of_z w128 c.in_ok-more.more more))
