use Rattle.std.proofs.Common.{◌≡◌, ◌∙◌, ◌++◌, ◌∷◌, [], ap, map, length, ◌≤◌, IsTrue, rules, arith, FitsSigned}
use Rattle.std.specs.Int.{w128}
use Rattle.std.proofs.lemmas.Int.{to_z-of_z}
use Rattle.sg_algebra.proofs.Lists.{length_map}
use Rattle.sg_algebra.proofs.Polynomial.{poly, zero_polynomial}
use Rattle.sg_algebra.proofs.Rational.{whole_value}
use Rattle.sg_algebra.proofs.Value.{neg_value, one_value}
use Rattle.sg_num.specs.Value.{number}
use Rattle.sg_spread.specs.Splits.{linear}
use Rattle.sg_spread.proofs.Parts.{split_kept}
use Rattle.sg_spread.proofs.Splitting.{longer, root_rest}
use Rattle.sg_spread.proofs.split.split_off.Goals as goal

pub returns-then-not-is_zero-clause-more : goal.returns-then-not-is_zero-clause-more
returns-then-not-is_zero-clause-more c root =
    let fits : FitsSigned w128 c.args.m = search rules in
    let line : poly (map number c.in_ok-factor.factor) ≡ linear c.args.m = c.in_ok-factor.ensures.value ∙ ap (λ x. poly (neg_value x ∷ one_value ∷ [])) (c.whole.ensures.as_number ∙ ap (whole_value 0) (to_z-of_z w128 c.args.m fits)) in
    let short : length (map number c.in_ok-quotient.left) ≤ 1 = omega (arith, length_map number c.in_ok-quotient.left, c.in_ok-quotient.ensures.smaller, c.in_ok-factor.ensures.linear) in
    let none = root_rest (map number c.args.split.rest) (map number c.in_ok-quotient.quotient) (map number c.in_ok-factor.factor) (map number c.in_ok-quotient.left) c.args.m c.in_ok-quotient.ensures.value line short root in
    let t : IsTrue c.is_zero.result = c.is_zero.ensures.1 none in
    search (rules, t, c.if-not-is_zero.true)

pub returns-clause-value : goal.returns-clause-value
returns-clause-value c =
    let fits : FitsSigned w128 c.args.m = search rules in
    let line : poly (map number c.in_ok-factor.factor) ≡ linear c.args.m = c.in_ok-factor.ensures.value ∙ ap (λ x. poly (neg_value x ∷ one_value ∷ [])) (c.whole.ensures.as_number ∙ ap (whole_value 0) (to_z-of_z w128 c.args.m fits)) in
    let none : poly (map number c.in_ok-quotient.left) ≡ zero_polynomial = search rules in
    split_kept c.args.split.roots c.push.new.self c.args.m (poly (map number c.args.split.rest)) (poly (map number c.in_ok-quotient.quotient)) (poly (map number c.in_ok-quotient.left)) (poly (map number c.in_ok-factor.factor))
    (c.in_ok-push.ensures.ok ∙ ap (λ m. c.args.split.roots ++ m ∷ []) (to_z-of_z w128 c.args.m fits)) c.in_ok-quotient.ensures.value none line

pub returns-clause-kept : goal.returns-clause-kept
returns-clause-kept c = omega (arith, longer _ _ _ c.in_ok-push.ensures.ok)

pub returns-clause-more : goal.returns-clause-more
returns-clause-more c root = longer _ _ _ c.in_ok-push.ensures.ok
