use Rattle.std.proofs.Common.{map, arith, ap₂, sym, ◌∙◌}
use Rattle.sg_algebra.proofs.Lists.{length_map}
use Rattle.sg_algebra.proofs.Value.{◌/ᵛ◌}
use Rattle.sg_algebra.proofs.Polynomial.{poly}
use Rattle.sg_poly.proofs.Dividers.{monic_some}
use Rattle.sg_ratfun.specs.Fractions.{ratio}
use Rattle.sg_first_order_theory.proofs.ValueFractions.{whole}
use Rattle.sg_constant.proofs.Functions.{over_whole, divided_value, alone_fits}
use Rattle.sg_constant.proofs.Numerators.{rest_under}
use Rattle.sg_constant.proofs.Taken.{monic_degree}
use Rattle.sg_constant.proofs.reducing.divided.Goals as goal

pub div_rem-requires : goal.div_rem-requires
div_rem-requires g c = monic_some (map g.F.Field.val c.in_ok-lower.lower) c.in_ok-lower.ensures.monic

pub returns-clause-value : goal.returns-clause-value
returns-clause-value g c =
    let v = g.F.Field.val in
    let some = monic_some (map v c.in_ok-lower.lower) c.in_ok-lower.ensures.monic in
    divided_value (ratio v c.args.f.now) (poly (map v c.in_ok-num.num)) (poly (map v c.in_ok-lower.lower)) (poly (map v c.in_ok-whole.whole)) (poly (map v c.in_ok-whole.upper)) some
    (over_whole (map v c.args.f.now.0) (map v c.args.f.now.1) (λ z. some (c.in_ok-lower.ensures.value ∙ z)) ∙ ap₂ (λ x y. whole x /ᵛ whole y) (sym c.in_ok-num.ensures.value) (sym c.in_ok-lower.ensures.value)) c.in_ok-whole.ensures.value

pub returns-clause-fits : goal.returns-clause-fits
returns-clause-fits g c n i =
    let v = g.F.Field.val in
    let monic = c.in_ok-lower.ensures.monic in
    let degree = monic_degree (map v c.in_ok-lower.lower) monic in
    alone_fits n i (map v c.in_ok-lower.lower) (poly (map v c.in_ok-whole.upper)) monic.0 degree
    (rest_under (map v c.in_ok-lower.lower) (map v c.in_ok-whole.upper) c.coeffs-divisor.ensures.ends (omega (arith, length_map v c.in_ok-whole.upper, length_map v c.in_ok-lower.lower, c.in_ok-whole.ensures.smaller)) monic.0 degree)
