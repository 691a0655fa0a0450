use Rattle.std.proofs.Common.{rules, ◌≡◌, refl, sym, subst, ap, ap₂, ◌∙◌, map, List, [], ◌∷◌, ◌++◌, pos, ◌-ℤ◌, FitsSigned, length}
use Rattle.std.specs.Int.{w128}
use Rattle.std.proofs.lemmas.Int.{to_z-of_z}
use Rattle.sg_poly.proofs.Dividers.{monic_some}
use Rattle.sg_relations_theory.specs.Rows.{sum_row}
use Rattle.sg_relations.specs.declared.factors.Factor.{Factor}
use Rattle.sg_relations.specs.Factors.{IsSplit}
use Rattle.sg_relations.proofs.Splitting.{monic_moved, back_divides, split_is}
use Rattle.sg_relations.proofs.factors.split.Goals as goal

pub gcd-requires : goal.gcd-requires
gcd-requires g c = λ h. monic_some (map g.F.Field.val c.args.w.base) c.requires.own h.0

pub exact-requires-clause-some : goal.exact-requires-clause-some
exact-requires-clause-some g c = monic_some (map g.F.Field.val c.in_ok-common.common) c.in_ok-common.ensures.monic

pub exact-requires-clause-divides : goal.exact-requires-clause-divides
exact-requires-clause-divides g c = c.in_ok-common.ensures.divisor.left

pub exact-requires-2-clause-some : goal.exact-requires-2-clause-some
exact-requires-2-clause-some g c =
    let back : FitsSigned w128 c.in_ok-back.back = search rules in
    monic_some (map g.F.Field.val c.in_ok-here.here) (monic_moved c.in_ok-back.back (map g.F.Field.val c.in_ok-common.common) (map g.F.Field.val c.in_ok-here.here) c.in_ok-common.ensures.monic
    (simp to_z-of_z at c.in_ok-here.ensures.value)).0

pub exact-requires-2-clause-divides : goal.exact-requires-2-clause-divides
exact-requires-2-clause-divides g c =
    let fits : FitsSigned w128 c.args.m = search rules in
    let back : FitsSigned w128 c.in_ok-back.back = search rules in
    let there = simp to_z-of_z at c.in_ok-there.ensures.value in
    let here = simp to_z-of_z at c.in_ok-here.ensures.value in
    let turned : c.in_ok-back.back ≡ pos 0 -ℤ c.args.m = simp to_z-of_z at c.in_ok-back.ensures.value in
    back_divides (map g.F.Field.val c.args.b.base) (map g.F.Field.val c.in_ok-common.common) (map g.F.Field.val c.in_ok-here.here) c.args.m (rw there at c.in_ok-common.ensures.divisor.right) (rw turned at here)

pub returns-clause-value : goal.returns-clause-value
returns-clause-value g c =
    let fits : FitsSigned w128 c.args.m = search rules in
    let back : FitsSigned w128 c.in_ok-back.back = search rules in
    let there = simp to_z-of_z at c.in_ok-there.ensures.value in
    let here = simp to_z-of_z at c.in_ok-here.ensures.value in
    let turned : c.in_ok-back.back ≡ pos 0 -ℤ c.args.m = simp to_z-of_z at c.in_ok-back.ensures.value in
    λ s shift. subst (λ (W' : List (Factor g.row.F.Denot)). IsSplit g.F.Field.val s (length c.args.w.exps) c.args.w c.args.b c.args.waiting.now W')
    (sym (c.in_ok-push-3.ensures.ok ∙ ap (λ W. W ++ (record { base = c.in_ok-rest_of_w.rest_of_w; exps = c.args.w.exps }) ∷ []) (c.in_ok-push-2.ensures.ok ∙ ap (λ W. W ++ (record { base = c.in_ok-rest_of_b.rest_of_b; exps = c.args.b.exps }) ∷ []) c.in_ok-push.ensures.ok)))
    (split_is g.F.Field.val s c.args.m c.args.w c.args.b (record { base = c.in_ok-common.common; exps = c.in_ok-exps.exps }) (record { base = c.in_ok-rest_of_b.rest_of_b; exps = c.args.b.exps }) (record { base = c.in_ok-rest_of_w.rest_of_w; exps = c.args.w.exps })
    c.args.waiting.now c.in_ok-here.here shift c.requires.own c.requires.other c.requires.width c.requires.met
    (rw there at c.in_ok-common.ensures.divisor) c.in_ok-common.ensures.monic (rw turned at here)
    (c.in_ok-exps.ensures.value ∙ ap₂ sum_row c.as_slice.ensures c.as_slice-2.ensures) refl refl c.in_ok-rest_of_w.ensures.value c.in_ok-rest_of_b.ensures.value)
