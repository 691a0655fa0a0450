use Rattle.std.proofs.Common.{◌≡◌, sym, ◌∙◌, subst, pos, neg_ℤ, ◌+ℤ◌, ◌≤ℤ◌, arith, rules, to_z, of_z}
use Rattle.std.specs.Int.{w128}
use Rattle.std.proofs.lemmas.Int.{ints}
use Rattle.sg_num.specs.Roots.{AreRoots}
use Rattle.sg_num.proofs.Scanned.{found_more, found_same}
use Rattle.sg_num.proofs.scan.scanned.Goals as goal
use Rattle.sg_num.proofs.scan.scanned.Goals.{then-branch+in_ok-push, else-branch}

pub loop-m-preserved : goal.loop-m-preserved
loop-m-preserved c =
    let test = c.loop-m-test.true in
    let m = to_z w128 c.loop-m.m-bits in
    let next : to_z w128 (of_z w128 (to_z w128 c.loop-m.m-bits +ℤ pos 1)) ≡ to_z w128 c.loop-m.m-bits +ℤ pos 1 = omega (arith, ints) in
    let n = to_z w128 (of_z w128 (to_z w128 c.loop-m.m-bits +ℤ pos 1)) in
    let low : neg_ℤ (pos c.args.b) ≤ℤ m = c.loop-m.invariant.low in
    record {
      low = omega (arith, ints);
      high = omega (arith, ints);
      roots = elim c.if-branch.branch [
        | then-branch+in_ok-push w ↦
            subst (λ r. AreRoots c.args.list.now (neg_ℤ (pos c.args.b)) n r) (sym (w.row-is ∙ w.in_ok-push.ensures.ok))
            (found_more c.args.list.now (neg_ℤ (pos c.args.b)) m n c.loop-m.row low next c.loop-m.invariant.roots (c.in_ok-is_root.ensures.value.0 (search rules)))
        | else-branch w ↦
            subst (λ r. AreRoots c.args.list.now (neg_ℤ (pos c.args.b)) n r) (sym w.row-is)
            (found_same c.args.list.now (neg_ℤ (pos c.args.b)) m n c.loop-m.row low next c.loop-m.invariant.roots (λ z. let t = c.in_ok-is_root.ensures.value.1 z in search rules))
      ];
    }
