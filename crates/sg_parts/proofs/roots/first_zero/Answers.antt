use Rattle.std.proofs.Common.{rules, ◌≡◌, ◌≢◌, ◌∙◌, sym, ap, subst, ◌<◌, ◌≤ℤ◌, get_or, length, ℤ, pos, neg_ℤ, [], to_z, of_z, FitsSigned, unsigned_abs, IfSome, IfNone}
use Rattle.std.specs.Int.{w64, w128}
use Rattle.std.proofs.lemmas.Int.{to_z-of_z}
use Rattle.std.proofs.lemmas.List.{get_or_default}
use Rattle.sg_spec.specs.Parts.{leading}
use Rattle.sg_parts.specs.Planes.{lowest}
use Rattle.sg_parts.specs.Planes.{VanishesAt}
use Rattle.sg_parts.specs.Planes.{IsLeastZero}
use Rattle.sg_parts.proofs.AllRows.{limits_zeros, some_more, none_again, least_again, nowhere_again, least_nothing}
use Rattle.sg_parts.proofs.roots.first_zero.Goals as goal

pub least_zero-requires-clause-low : goal.least_zero-requires-clause-low
least_zero-requires-clause-low c =
    let p = c.args.plane.now in
    let inside : c.in-Some.i < length p = search rules in
    let row : c.as_slice.result.now ≡ get_or p c.in-Some.i [] = c.as_slice.ensures ∙ c.index-plane-i.is ∙ get_or_default p c.in-Some.i c.index-plane-i.result [] inside in
    let fits : FitsSigned w128 c.lowest.result = search rules in
    let size : c.unsigned_abs-low.result ≡ unsigned_abs c.lowest.result = search rules in
    limits_zeros p c.in-Some.i c.unsigned_abs-low.result inside (size ∙ ap unsigned_abs (c.lowest.ensures ∙ ap lowest row))

pub returns-in-None-clause-some : goal.returns-in-None-clause-some
returns-in-None-clause-some c =
    let fits : FitsSigned w64 c.args.limit = search rules in
    least_nothing c.args.plane.now c.args.limit (to_z w64 (of_z w64 c.args.limit)) (to_z-of_z w64 c.args.limit fits) c.in-None.ensures.none

pub returns-in-Some-clause-some : goal.returns-in-Some-clause-some
returns-in-Some-clause-some c =
    let p = c.args.plane.now in
    let (e, ne) = c.in-Some.ensures.some in
    let some : leading p ≢ [] = λ z. ne (sym e ∙ z) in
    let fits : FitsSigned w64 c.max.result = search rules in
    let later : c.args.limit ≤ℤ c.max.result = search rules in
    let only : (k : ℤ) → c.args.limit ≤ℤ k → neg_ℤ (pos 4095) ≤ℤ k → c.max.result ≤ℤ k = λ k a b. search rules in
    some_more c.least_zero.result (λ m. IsLeastZero p c.max.result m) (λ m. IsLeastZero p c.args.limit m) (λ m. least_again p c.args.limit c.max.result some c.requires.near later only m)
    (subst (λ x. IfSome c.least_zero.result (λ m. IsLeastZero p x m)) (to_z-of_z w64 c.max.result fits) c.least_zero.ensures.some)

pub returns-in-Some-clause-none : goal.returns-in-Some-clause-none
returns-in-Some-clause-none c =
    let p = c.args.plane.now in
    let (e, ne) = c.in-Some.ensures.some in
    let some : leading p ≢ [] = λ z. ne (sym e ∙ z) in
    let fits : FitsSigned w64 c.max.result = search rules in
    let later : c.args.limit ≤ℤ c.max.result = search rules in
    let only : (k : ℤ) → c.args.limit ≤ℤ k → neg_ℤ (pos 4095) ≤ℤ k → c.max.result ≤ℤ k = λ k a b. search rules in
    none_again c.least_zero.result ((m : ℤ) → c.max.result ≤ℤ m → m ≤ℤ pos 4095 → VanishesAt p m → ⊥) ((m : ℤ) → c.args.limit ≤ℤ m → VanishesAt p m → ⊥) (nowhere_again p c.args.limit c.max.result some c.requires.near later only)
    (subst (λ x. IfNone c.least_zero.result ((m : ℤ) → x ≤ℤ m → m ≤ℤ pos 4095 → VanishesAt p m → ⊥)) (to_z-of_z w64 c.max.result fits) c.least_zero.ensures.none)
