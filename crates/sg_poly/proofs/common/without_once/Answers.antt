use Rattle.std.proofs.Common.{◌≡◌, refl, map, arith, rules}
use Rattle.sg_algebra.proofs.Polynomial.{poly, zero_polynomial}
use Rattle.sg_poly.proofs.Taken.{bezout_lists, coprime_rest, keeps_both, keeps_left, keeps_right, keeps_same}
use Rattle.sg_poly.proofs.common.without_once.Goals as goal

pub returns-then-is_zero-2-clause-value : goal.returns-then-is_zero-2-clause-value
returns-then-is_zero-2-clause-value g c p q k =
    let left : poly (map g.F.Field.val c.in-Some.left.rest) ≡ zero_polynomial = c.is_zero.ensures.0 (search rules) in
    let right : poly (map g.F.Field.val c.in-Some-2.right.rest) ≡ zero_polynomial = c.is_zero-then-is_zero.ensures.0 (search rules) in
    keeps_both _ _ _ _ _ _ _ _ _ _ _ (bezout_lists (map g.F.Field.val c.in-Some.left.quotient) (map g.F.Field.val c.in-Some-2.right.quotient)) (rw c.in-Some.is at c.in_ok-left.ensures.value) left (rw c.in-Some-2.is at c.in_ok-right.ensures.value) right c.in_ok-common.ensures.value k

pub returns-then-is_zero-clause-value : goal.returns-then-is_zero-clause-value
returns-then-is_zero-clause-value g c p q k =
    let left : poly (map g.F.Field.val c.in-Some.left.rest) ≡ zero_polynomial = c.is_zero.ensures.0 (search rules) in
    let right : ¬ (poly (map g.F.Field.val c.in-Some-2.right.rest) ≡ zero_polynomial) = search rules in
    keeps_same _ _ _ _ _ _ _ _ c.in_ok-common-2.ensures.value refl c.in_ok-kept.ensures.value
    (keeps_left _ _ _ _ _ _ _ _ (coprime_rest g.F.Field.val _ _ _ c.in-Some-2.right.rest (omega (arith, rw c.in-Some-2.is at c.in_ok-right.ensures.smaller, c.requires.linear)) right (rw c.in-Some-2.is at c.in_ok-right.ensures.value)) (rw c.in-Some.is at c.in_ok-left.ensures.value) left k)

pub returns-then-is_zero-3-clause-value : goal.returns-then-is_zero-3-clause-value
returns-then-is_zero-3-clause-value g c p q k =
    let right : poly (map g.F.Field.val c.in-Some-2.right.rest) ≡ zero_polynomial = c.is_zero-2.ensures.0 (search rules) in
    let left : ¬ (poly (map g.F.Field.val c.in-Some.left.rest) ≡ zero_polynomial) = search rules in
    keeps_same _ _ _ _ _ _ _ _ c.in_ok-common-3.ensures.value c.in_ok-kept-2.ensures.value refl
    (keeps_right _ _ _ _ _ _ _ _ (coprime_rest g.F.Field.val _ _ _ c.in-Some.left.rest (omega (arith, rw c.in-Some.is at c.in_ok-left.ensures.smaller, c.requires.linear)) left (rw c.in-Some.is at c.in_ok-left.ensures.value)) (rw c.in-Some-2.is at c.in_ok-right.ensures.value) right k)
