use Rattle.std.proofs.Common.{◌∙◌, ◌<◌, ℤ, pos, length, map, get_or, sym, subst, arith, rules, FitsSigned, to_z, of_z}
use Rattle.std.specs.Int.{w128}
use Rattle.std.proofs.lemmas.Int.{to_z-of_z}
use Rattle.std.proofs.lemmas.List.Elements.{Contains-get_or}
use Rattle.sg_num.specs.Roots.{IsRoot}
use Rattle.sg_num.specs.Value.{number}
use Rattle.sg_spread.specs.declared.split.Parts.{Parts}
use Rattle.sg_spread.specs.Splits.{AreAllRoots}
use Rattle.sg_spread.proofs.Splitting.{more_next}
use Rattle.sg_spread.proofs.split.split_each.Goals as goal

pub loop-i-preserved : goal.loop-i-preserved
loop-i-preserved c =
    let v : ℤ = get_or c.args.list.now c.loop-i.i (pos 0) in
    let fits : FitsSigned w128 (get_or c.args.list.now c.loop-i.i (pos 0)) = search rules in
    record {
      value = c.in_ok-left.ensures.value ∙ c.loop-i.invariant.value;
      first = λ e. absurd (omega arith);
      more = λ h roots. more_next (AreAllRoots c.args.split.rest c.args.list.now) c.loop-i.i (length c.args.split.roots) (length c.loop-i.left.roots) (length c.in_ok-left.left.roots) c.in_ok-left.ensures.kept
          (λ e all. subst (λ (p : Parts). length p.roots < length c.in_ok-left.left.roots) (c.loop-i.invariant.first e)
          (c.in_ok-left.ensures.more (subst (λ (p : Parts). IsRoot (map number p.rest) (to_z w128 (of_z w128 v))) (sym (c.loop-i.invariant.first e))
          (subst (λ z. IsRoot (map number c.args.split.rest) z) (sym (to_z-of_z w128 v fits)) (all v (Contains-get_or c.args.list.now c.loop-i.i (pos 0) c.loop-i-test.true)))))) c.loop-i.invariant.more roots;
    }

pub returns-clause-more : goal.returns-clause-more
returns-clause-more c h roots = c.loop-i.invariant.more (omega arith) roots
