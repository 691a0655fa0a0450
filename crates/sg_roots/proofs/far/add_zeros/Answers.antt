use Rattle.std.proofs.Common.{◌≡◌, sym, subst, pos, neg_ℤ, ◌+ℤ◌, rules, arith, to_z, of_z, FitsSigned}
use Rattle.std.specs.Int.{w128}
use Rattle.std.proofs.lemmas.Int.{ints, to_z-of_z}
use Rattle.sg_num.specs.Roots.{AreRoots, whole_at}
use Rattle.sg_num.proofs.Scanned.{found_more}
use Rattle.sg_roots.specs.Signs.{reach}
use Rattle.sg_roots.proofs.Zeros.{zero_on, no_zeros, own, other}
use Rattle.sg_roots.proofs.far.add_zeros.Goals as goal

pub loop-m-preserved : goal.loop-m-preserved
loop-m-preserved c =
    let test = c.loop-m-test.true in
    let fl : FitsSigned w128 c.args.low = search rules in
    let m = to_z w128 c.loop-m.m-bits in
    let n = to_z w128 (of_z w128 (to_z w128 c.loop-m.m-bits +ℤ pos 1)) in
    let next : n ≡ m +ℤ pos 1 = omega (arith, ints) in
    let sign = simp to_z-of_z at c.in_ok-sign_at.ensures.value in
    let zero : whole_at c.args.list.now c.args.low ≡ pos 0 = own c.in_ok-sign_at.field-0 (whole_at c.args.list.now c.args.low) sign (search rules) in
    record {
      low = omega (arith, ints);
      high = omega (arith, ints);
      roots = λ f. subst (λ r. AreRoots c.args.list.now (neg_ℤ (pos reach)) n r) (sym c.in_ok-push.ensures.ok)
          (found_more c.args.list.now (neg_ℤ (pos reach)) m n c.loop-m.row (omega (arith, ints)) next (c.loop-m.invariant.roots f)
          (zero_on c.args.list.now c.args.low c.args.high c.requires.keeps m (omega (arith, ints)) (omega (arith, ints)) zero));
    }

pub returns-after-loop-m-clause-value : goal.returns-after-loop-m-clause-value
returns-after-loop-m-clause-value c f =
    let fl : FitsSigned w128 c.args.low = search rules in
    let last : to_z w128 c.loop-m.m-bits ≡ c.args.high = omega (arith, ints) in
    subst (λ x. AreRoots c.args.list.now (neg_ℤ (pos reach)) x c.loop-m.row) last (c.loop-m.invariant.roots (subst (λ x. AreRoots c.args.list.now (neg_ℤ (pos reach)) x c.args.row.now) (sym (to_z-of_z w128 c.args.low fl)) f))

pub returns-else-branch-eq0-clause-value : goal.returns-else-branch-eq0-clause-value
returns-else-branch-eq0-clause-value c f =
    let fl : FitsSigned w128 c.args.low = search rules in
    let sign = simp to_z-of_z at c.in_ok-sign_at.ensures.value in
    no_zeros c.args.list.now c.args.low c.args.high c.requires.keeps (neg_ℤ (pos reach)) c.args.row.now c.requires.up
    (other c.in_ok-sign_at.field-0 (whole_at c.args.list.now c.args.low) sign (λ z. search (rules, z))) f
