use Rattle.std.proofs.Common.{◌≡◌, map, length, ap, sym, subst, ◌∙◌, pos}
use Rattle.sg_algebra.proofs.Lists.{length_map}
use Rattle.sg_algebra.proofs.Polynomial.{Polynomial, poly}
use Rattle.sg_algebra.proofs.Rational.{whole_value}
use Rattle.sg_algebra.proofs.Shift.{moved}
use Rattle.sg_algebra.proofs.ValueField.{ValueR}
use Rattle.sg_poly.specs.Divisors.{IsGcd}
use Rattle.sg_spread.proofs.Rows.{more_is, is_more}
use Rattle.sg_spread.proofs.Meeting.{meets_by, meets_not}
use Rattle.sg_relations.proofs.Splitting.{moved_zero}
use Rattle.sg_relations.proofs.factors.have_common.Goals as goal

pub returns-clause-value : goal.returns-clause-value
returns-clause-value g c =
    let v = g.F.Field.val in
    let divides : IsGcd (poly (map g.F.Field.val c.in_ok-common.common)) (poly (map g.F.Field.val c.args.a.now)) (poly (moved (ValueR g.F.Field.vars) (whole_value g.F.Field.vars (pos 0)) (map g.F.Field.val c.args.b.now)))
    = subst (λ (x : Polynomial g.F.Field.vars). IsGcd (poly (map g.F.Field.val c.in_ok-common.common)) (poly (map g.F.Field.val c.args.a.now)) x) (sym (moved_zero (map g.F.Field.val c.args.b.now))) c.in_ok-common.ensures.divisor in
    let size : length c.coeffs.result.now ≡ length (map g.F.Field.val c.in_ok-common.common) = ap length c.coeffs.ensures.value ∙ sym (length_map g.F.Field.val c.in_ok-common.common) in (
      λ l. meets_by (map g.F.Field.val c.args.a.now) (map g.F.Field.val c.args.b.now) (pos 0) (map g.F.Field.val c.in_ok-common.common) c.in_ok-common.ensures.monic
          (rw size at (more_is (length c.coeffs.result.now) l)) c.coeffs.ensures.ends divides.left divides.right,
      λ meets. is_more (length c.coeffs.result.now) (λ short. meets_not (map g.F.Field.val c.args.a.now) (map g.F.Field.val c.args.b.now) (pos 0) (map g.F.Field.val c.in_ok-common.common) meets c.in_ok-common.ensures.monic
          (rw size at short) divides),
    )
