use Rattle.std.proofs.Common.{◌≡◌, map, rules, FitsSigned, sym, subst, ◌∙◌}
use Rattle.std.specs.Int.{w128}
use Rattle.std.proofs.lemmas.Int.{to_z-of_z}
use Rattle.sg_algebra.proofs.Polynomial.{Polynomial, poly}
use Rattle.sg_poly.specs.Divisors.{IsGcd}
use Rattle.sg_poly.proofs.Dividers.{monic_some}
use Rattle.sg_first_order_theory.proofs.Next.{moved_polynomial, moved_polynomial-poly}
use Rattle.sg_constant.proofs.planning.meeting.Goals as goal

pub gcd-requires : goal.gcd-requires
gcd-requires g c = λ z. c.requires z.0

pub parted-requires-clause-right : goal.parted-requires-clause-right
parted-requires-clause-right g c = monic_some (map g.F.Field.val c.in_ok-e.e) c.in_ok-e.ensures.monic

pub returns-clause-meeting : goal.returns-clause-meeting
returns-clause-meeting g c =
    let v = g.F.Field.val in
    let fits : FitsSigned w128 c.args.m = search rules in
    let shifted = simp to_z-of_z at c.in_ok-shifted.ensures.value in
    let same : poly (map v c.in_ok-shifted.shifted) ≡ moved_polynomial c.args.m (poly (map v c.args.v.now)) = shifted ∙ sym (moved_polynomial-poly c.args.m (map v c.args.v.now)) in
    record {
      e = poly (map v c.in_ok-e.e);
      common = subst (λ (y : Polynomial g.F.Field.vars). IsGcd (poly (map v c.in_ok-e.e)) (poly (map v c.args.w.now)) y) same c.in_ok-e.ensures.divisor;
      part = c.in_ok-r.ensures.parts;
    }
