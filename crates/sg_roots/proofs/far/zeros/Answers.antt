use Rattle.std.proofs.Common.{sym, ◌∙◌, subst, ℤ, pos, neg_ℤ, get_or, rules, FitsSigned}
use Rattle.std.specs.Int.{w128}
use Rattle.std.proofs.lemmas.Int.{to_z-of_z}
use Rattle.sg_num.specs.Roots.{AreRoots}
use Rattle.sg_roots.specs.Signs.{reach}
use Rattle.sg_roots.proofs.Cuts.{inside}
use Rattle.sg_roots.proofs.Ranges.{from_low}
use Rattle.sg_roots.proofs.far.zeros.Goals as goal

pub add_zeros-requires-clause-from : goal.add_zeros-requires-clause-from
add_zeros-requires-clause-from c =
    let fits : FitsSigned w128 (get_or c.args.starts.now c.loop-i.i (pos 0)) = search rules in
    simp to_z-of_z (from_low (neg_ℤ (pos reach)) (pos reach) c.args.starts.now c.requires.pieces.first c.requires.pieces.up c.loop-i.i c.loop-i-test.true)

pub loop-i-preserved : goal.loop-i-preserved
loop-i-preserved c =
    let x : ℤ = get_or c.args.starts.now c.loop-i.i (pos 0) in
    let fx : FitsSigned w128 (get_or c.args.starts.now c.loop-i.i (pos 0)) = search rules in
    let fs : FitsSigned w128 c.start_at.result = search rules in
    let same = inside c.args.starts.now (pos reach) (pos reach) (pos 0) c.loop-i.i c.loop-i-test.true in
    let before = subst (λ (z : ℤ). AreRoots c.args.list.now (neg_ℤ (pos reach)) z c.loop-i.row) (same ∙ sym (to_z-of_z w128 x fx)) c.loop-i.invariant in
    subst (λ (z : ℤ). AreRoots c.args.list.now (neg_ℤ (pos reach)) z c.add_zeros.new.row) (to_z-of_z w128 c.start_at.result fs ∙ c.start_at.ensures) (c.in_ok-add_zeros.ensures.value before)
