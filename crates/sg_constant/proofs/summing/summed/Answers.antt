use Rattle.std.proofs.Common.{◌<◌, length, map, subst, ap, ◌∙◌}
use Rattle.sg_algebra.proofs.Polynomial.{poly}
use Rattle.sg_algebra.proofs.Value.{◌-ᵛ◌}
use Rattle.sg_constant.proofs.Summed.{summed_none, summed_more, summed_end, rest_smaller, nothing_left}
use Rattle.sg_constant.proofs.summing.summed.Goals as goal

pub terms-init : goal.terms-init
terms-init g c =
    let v = g.F.Field.val in
    summed_none (v c.args.a.now) (poly (map v c.args.p.now)) (poly (map v c.in_ok-y.y)) (poly (map v c.in_ok-rest.rest)) c.in_ok-y.ensures.value c.in_ok-rest.ensures.value

pub first_term-requires : goal.first_term-requires
first_term-requires g c = subst (λ l. 0 < length l) c.coeffs.ensures.value c.terms-test.true

pub terms-smaller : goal.terms-smaller
terms-smaller g c =
    let v = g.F.Field.val in
    rest_smaller v (v c.args.a.now) (v c.in_ok-b.b) c.terms.rest c.in_ok-term.term c.in_ok-rest-2.rest (c.in_ok-b.ensures.value ∙ ap (λ x. v c.args.a.now -ᵛ x) c.in_ok-one.ensures.value)
    (subst (λ l. 0 < length l) c.coeffs.ensures.value c.terms-test.true) c.coeffs.ensures.ends c.in_ok-term.ensures.value c.in_ok-rest-2.ensures.value

pub terms-preserved : goal.terms-preserved
terms-preserved g c =
    let v = g.F.Field.val in
    summed_more (v c.args.a.now) (poly (map v c.args.p.now)) (poly (map v c.terms.y)) (poly (map v c.terms.rest)) (poly (map v c.in_ok-term.term)) (poly (map v c.in_ok-y-2.y)) (poly (map v c.in_ok-rest-2.rest)) c.terms.invariant c.in_ok-y-2.ensures.value c.in_ok-rest-2.ensures.value

pub returns-clause-value : goal.returns-clause-value
returns-clause-value g c =
    let v = g.F.Field.val in
    summed_end (v c.args.a.now) (poly (map v c.args.p.now)) (poly (map v c.terms.y)) (poly (map v c.terms.rest)) c.terms.invariant (nothing_left v c.terms.rest c.coeffs.result.now c.coeffs.ensures.value c.terms-test.false)
