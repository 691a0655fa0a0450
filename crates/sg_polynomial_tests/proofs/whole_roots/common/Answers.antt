use Rattle.std.proofs.Common.{sym, subst, get_or, ℤ, rules, FitsSigned}
use Rattle.std.specs.Int.{w128}
use Rattle.std.proofs.lemmas.Int.{to_z-of_z}
use Rattle.sg_num.specs.Value.{fraction}
use Rattle.sg_num.specs.Roots.{IsMultiple}
use Rattle.sg_polynomial_tests.proofs.whole_roots.common.Goals as goal

pub cleared-requires : goal.cleared-requires
cleared-requires c k d inside =
    let fits : FitsSigned w128 c.in_ok-l.l = search rules in
    subst (λ (l : ℤ). IsMultiple l (fraction (get_or c.as_slice-list.result.now k d)).den) (sym (to_z-of_z w128 c.in_ok-l.l fits)) (c.in_ok-l.ensures.each k d inside)
