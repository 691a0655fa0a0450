use Rattle.std.proofs.Common.{sym, ◌∙◌, subst, get_or, ℤ, pos, neg_ℤ, ◌≤ℤ◌, rules, FitsSigned, to_z, of_z}
use Rattle.std.specs.Int.{w128}
use Rattle.std.proofs.lemmas.Int.{to_z-of_z}
use Rattle.sg_roots.specs.Signs.{IsMonotone, ArePieces, reach}
use Rattle.sg_roots.proofs.Cuts.{inside}
use Rattle.sg_roots.proofs.Ranges.{from_low, to_high}
use Rattle.sg_roots.proofs.pieces.refined.Goals as goal

pub cut-requires-clause-from : goal.cut-requires-clause-from
cut-requires-clause-from c =
    let fits : FitsSigned w128 (get_or c.args.coarse.now c.loop-i.i (pos 0)) = search rules in
    simp to_z-of_z (from_low (neg_ℤ (pos reach)) (pos reach) c.args.coarse.now c.requires.pieces.first c.requires.pieces.up c.loop-i.i c.loop-i-test.true)

pub cut-requires-clause-to : goal.cut-requires-clause-to
cut-requires-clause-to c =
    let fs : FitsSigned w128 c.start_at.result = search rules in
    subst (λ (x : ℤ). x ≤ℤ pos reach) (sym (to_z-of_z w128 c.start_at.result fs ∙ c.start_at.ensures))
    (to_high (neg_ℤ (pos reach)) (pos reach) c.args.coarse.now c.requires.pieces.first c.requires.pieces.up c.loop-i.i c.loop-i-test.true)

pub cut-requires-clause-monotone : goal.cut-requires-clause-monotone
cut-requires-clause-monotone c =
    let x : ℤ = get_or c.args.coarse.now c.loop-i.i (pos 0) in
    let fx : FitsSigned w128 (get_or c.args.coarse.now c.loop-i.i (pos 0)) = search rules in
    let fs : FitsSigned w128 c.start_at.result = search rules in
    subst (λ (z : ℤ). IsMonotone c.args.list.now z (to_z w128 (of_z w128 c.start_at.result))) (sym (to_z-of_z w128 x fx))
    (subst (λ (z : ℤ). IsMonotone c.args.list.now x z) (sym (to_z-of_z w128 c.start_at.result fs ∙ c.start_at.ensures)) (c.requires.pieces.monotone c.loop-i.i c.loop-i-test.true))

pub loop-i-preserved : goal.loop-i-preserved
loop-i-preserved c =
    let x : ℤ = get_or c.args.coarse.now c.loop-i.i (pos 0) in
    let fx : FitsSigned w128 (get_or c.args.coarse.now c.loop-i.i (pos 0)) = search rules in
    let fs : FitsSigned w128 c.start_at.result = search rules in
    let same = inside c.args.coarse.now (pos reach) (pos reach) (pos 0) c.loop-i.i c.loop-i-test.true in
    let before = subst (λ (z : ℤ). ArePieces c.args.list.now (neg_ℤ (pos reach)) z c.loop-i.row) (same ∙ sym (to_z-of_z w128 x fx)) c.loop-i.invariant in
    subst (λ (z : ℤ). ArePieces c.args.list.now (neg_ℤ (pos reach)) z c.cut.new.row) (to_z-of_z w128 c.start_at.result fs ∙ c.start_at.ensures) (c.in_ok-cut.ensures.value before)
