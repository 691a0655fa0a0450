use Rattle.std.proofs.Common.{◌≢◌, sym, ◌∙◌, subst, get_or, List, All, ℤ, pos, neg_ℤ, rules, FitsSigned, to_z, of_z}
use Rattle.std.specs.Int.{w128}
use Rattle.std.proofs.lemmas.Int.{to_z-of_z}
use Rattle.sg_num.specs.Value.{fraction}
use Rattle.sg_num.specs.Roots.{IsMultiple, AreRoots}
use Rattle.sg_num.proofs.WholeValues.{whole_root}
use Rattle.sg_num.proofs.Scanned.{all_found}
use Rattle.sg_roots.specs.Signs.{IsSmall, reach}
use Rattle.sg_roots.proofs.Bound.{reached, some_coefficient}
use Rattle.sg_roots.proofs.far.far_roots.Goals as goal

pub cleared-requires : goal.cleared-requires
cleared-requires c k d inside =
    let fits : FitsSigned w128 c.in_ok-multiple.multiple = search rules in
    subst (λ (l : ℤ). IsMultiple l (fraction (get_or c.args.list.now k d)).den) (sym (to_z-of_z w128 c.in_ok-multiple.multiple fits)) (c.in_ok-multiple.ensures.each k d inside)

pub returns-clause-roots : goal.returns-clause-roots
returns-clause-roots c m =
    let fits : FitsSigned w128 c.in_ok-multiple.multiple = search rules in
    let list = c.in_ok-whole.whole in
    let l = to_z w128 (of_z w128 c.in_ok-multiple.multiple) in
    let some : l ≢ pos 0 = λ z. c.in_ok-multiple.ensures.some (sym (to_z-of_z w128 c.in_ok-multiple.multiple fits) ∙ z) in
    let small = subst (λ (p : List ℤ). All IsSmall p) c.as_slice.ensures c.in_ok-starts.ensures.small in
    let bound = reached list small (some_coefficient l some list c.args.list.now c.in_ok-whole.ensures.value c.requires) in
    let roots = subst (λ (p : List ℤ). AreRoots p (neg_ℤ (pos reach)) (pos reach) c.in_ok-r.r) c.as_slice-2.ensures c.in_ok-r.ensures.value in
    let found = all_found list reach c.in_ok-r.r bound roots m in
    let is = whole_root list c.args.list.now l m some c.in_ok-whole.ensures.value in
    (λ h. is.0 (found.0 h), λ z. found.1 (is.1 z))
