use Rattle.std.proofs.Common.{◌≢◌, sym, ◌∙◌, subst, ◌<◌, length, get_or, ℕ, ℤ, pos, ◌*ℤ◌, ◌≡◌, arith, rules, FitsSigned, to_z, below_more}
use Rattle.std.specs.Int.{w128}
use Rattle.std.proofs.lemmas.Int.{ints, to_z-of_z}
use Rattle.std.proofs.lemmas.List.{get_or_default}
use Rattle.sg_num.specs.Value.{fraction}
use Rattle.sg_num.specs.declared.rat.Rat.{Rat}
use Rattle.sg_num.specs.Roots.{IsMultiple}
use Rattle.sg_num.proofs.WholeSteps.{multiple_more}
use Rattle.sg_num.proofs.clear.common_denominator.Goals as goal

pub loop-i-init : goal.loop-i-init
loop-i-init c = record {
  some = λ e. omega (arith, ints, e);
  least = λ m h. (m, omega (arith, ints));
  each = λ k h d. absurd (omega arith);
}

pub loop-i-preserved : goal.loop-i-preserved
loop-i-preserved c =
    let fits : FitsSigned w128 c.in_ok-multiple.multiple = search rules in
    let same = sym (to_z-of_z w128 c.in_ok-multiple.multiple fits) in
    let list = c.args.list.now in
    let inside : c.loop-i.i < length c.args.list.now = omega arith in
    let item = λ (d : Rat). c.index-list-i.is ∙ get_or_default list c.loop-i.i c.index-list-i.result d inside in
    let each = below_more (λ k. (d : Rat) → IsMultiple c.in_ok-multiple.multiple (fraction (get_or list k d)).den) c.loop-i.i
    (λ k h d. multiple_more (to_z w128 c.loop-i.multiple-bits) c.in_ok-multiple.multiple (fraction (get_or list k d)).den c.in_ok-multiple.ensures.whole (c.loop-i.invariant.each k h d))
    (λ d. subst (λ (r : Rat). IsMultiple c.in_ok-multiple.multiple (fraction r).den) (item d) c.in_ok-multiple.ensures.multiple) in
    record {
      some = subst (λ n. n ≢ pos 0) same c.in_ok-multiple.ensures.some;
      least = λ m h. subst (λ n. (k : ℤ) × (m ≡ k *ℤ n)) same (c.in_ok-multiple.ensures.least m (c.loop-i.invariant.least m (λ k below d. h k (omega arith) d))
          (subst (λ (r : Rat). IsMultiple m (fraction r).den) (sym (item (c.index-list-i.result))) (h c.loop-i.i (omega arith) c.index-list-i.result)));
      each = λ k h d. subst (λ n. IsMultiple n (fraction (get_or list k d)).den) same (each k h d);
    }
