use Rattle.std.proofs.Common.{◌≡◌, sym, subst, ℤ, pos, ◌+ℤ◌, ◌<ℤ◌, rules, arith, FitsSigned, to_z, of_z}
use Rattle.std.specs.Int.{w128}
use Rattle.std.proofs.lemmas.Int.{ints, to_z-of_z}
use Rattle.sg_num.specs.Roots.{whole_at}
use Rattle.sg_roots.specs.Signs.{IsSameSign, KeepsSign}
use Rattle.sg_roots.proofs.Sizes.{same_sign-refl}
use Rattle.sg_roots.proofs.Monotone.{keeps_between}
use Rattle.sg_roots.proofs.pieces.change.Goals as goal

pub loop-step-init : goal.loop-step-init
loop-step-init c = record {
  within = omega (arith, c.unsigned_abs-step.ensures.value);
  from = omega (arith, ints);
  to = omega (arith, ints);
  same = same_sign-refl _;
}

pub loop-step-preserved : goal.loop-step-preserved
loop-step-preserved c =
    let fl : FitsSigned w128 c.args.low = search rules in
    let fa : FitsSigned w128 c.in_ok-at.at = search rules in
    let same = simp to_z-of_z at c.in_ok-at.ensures.same in
    record {
      within = omega (arith, c.loop-step.invariant.within);
      from = omega (arith, ints, c.loop-step.invariant.from, c.in_ok-at.ensures.on);
      to = omega (arith, ints, c.in_ok-at.ensures.up);
      same = simp to_z-of_z same;
    }

pub returns-clause-keeps : goal.returns-clause-keeps
returns-clause-keeps c =
    let fl : FitsSigned w128 c.args.low = search rules in
    let fh : FitsSigned w128 c.args.high = search rules in
    let m = to_z w128 c.loop-step.at-bits in
    let to : m <ℤ c.args.high = omega (arith, ints, c.loop-step.invariant.to) in
    let next : to_z w128 (of_z w128 (to_z w128 c.loop-step.at-bits +ℤ pos 1)) ≡ to_z w128 c.loop-step.at-bits +ℤ pos 1 = omega (arith, ints, to) in
    let same : IsSameSign (whole_at c.args.list.now c.args.low) (whole_at c.args.list.now m) = simp to_z-of_z at c.loop-step.invariant.same in
    subst (λ (x : ℤ). KeepsSign c.args.list.now c.args.low x) (sym next) (keeps_between c.args.list.now c.args.low c.args.high m c.requires.monotone to same)
