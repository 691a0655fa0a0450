use Rattle.std.proofs.Common.{rules, ◌≡◌, ◌∙◌, sym, ap, subst, pos, ℤ, unsigned_abs, get_or, FitsSigned, to_z, of_z}
use Rattle.std.specs.Int.{w128}
use Rattle.std.proofs.lemmas.Int.{to_z-of_z}
use Rattle.sg_num.specs.Roots.{IsMultiple}
use Rattle.sg_relations.proofs.Shortest.{multiple_size, shortest_is}
use Rattle.sg_relations.proofs.primitive.shortest.Goals as goal

pub cleared-requires : goal.cleared-requires
cleared-requires c =
    let fits : FitsSigned w128 c.in_ok-multiple.multiple = search rules in
    let small : FitsSigned w128 c.in_ok-least.least = search rules in
    let same : to_z w128 (of_z w128 c.in_ok-least.least) ≡ pos (unsigned_abs c.in_ok-multiple.multiple) =
    to_z-of_z w128 c.in_ok-least.least small ∙ c.in_ok-least.ensures.value ∙ ap (λ (z : ℤ). pos (unsigned_abs z)) (to_z-of_z w128 c.in_ok-multiple.multiple fits) in
    λ k d l. subst (λ (z : ℤ). IsMultiple z (unsigned_abs (get_or c.args.list.now k d).den)) (sym same)
    (multiple_size c.in_ok-multiple.multiple (unsigned_abs (get_or c.args.list.now k d).den) (c.in_ok-multiple.ensures.each k d l))

pub returns-clause-value : goal.returns-clause-value
returns-clause-value c =
    let fits : FitsSigned w128 c.in_ok-multiple.multiple = search rules in
    let small : FitsSigned w128 c.in_ok-least.least = search rules in
    let same : to_z w128 (of_z w128 c.in_ok-least.least) ≡ pos (unsigned_abs c.in_ok-multiple.multiple) =
    to_z-of_z w128 c.in_ok-least.least small ∙ c.in_ok-least.ensures.value ∙ ap (λ (z : ℤ). pos (unsigned_abs z)) (to_z-of_z w128 c.in_ok-multiple.multiple fits) in
    shortest_is c.args.list.now c.in_ok-row.row c.in_ok-multiple.multiple (to_z w128 (of_z w128 c.in_ok-least.least)) c.in_ok-multiple.ensures.some same c.in_ok-row.ensures.value c.in_ok-multiple.ensures.least
