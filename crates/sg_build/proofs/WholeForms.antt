-- The quotient that is made of a fraction in lowest terms.
--   form-made    it is the one as which the fraction is written
use Rattle.std.proofs.Common.{◌≡◌, ℤ, refl, sym, subst, List}
use Rattle.sg_algebra.specs.Ring.{Ring}
use Rattle.sg_algebra.proofs.Coprime.{Coprime}
use Rattle.sg_algebra.proofs.OverValue.{over_value_cong}
use Rattle.sg_algebra.proofs.Polynomial.{Polynomial, PolynomialR, poly, EndsNonzero, same_list}
use Rattle.sg_algebra.proofs.PolynomialRing.{PolyR}
use Rattle.sg_algebra.proofs.Value.{Value, over_value}
use Rattle.sg_algebra.proofs.ValueField.{ValueR}
use Rattle.sg_poly.specs.Divisors.{IsMonic}
use Rattle.sg_ratfun.specs.Reduced.{IsReduced}
use Rattle.sg_spec.specs.Canonical.{plane_of}
use Rattle.sg_canonical.specs.Whole.{IsPrimitiveQuotient}
use Rattle.sg_canonical.proofs.RationalTrees.{lower-some}
use Rattle.sg_build.specs.Forms.{IsWholeForm}

abbrev N : Ring
N = PolyR (ValueR 0)

pub form-made : (r s upper lower : List (Value 0)) (us ls : List ℤ) → poly upper ≡ poly r → poly lower ≡ poly s → IsReduced r s → EndsNonzero upper → EndsNonzero lower → IsMonic lower
    → IsPrimitiveQuotient upper lower us ls → IsWholeForm (over_value r s) (plane_of us) (plane_of ls)
form-made r s upper lower us ls e f reduced upper_ends lower_ends monic whole = record {
  upper = upper;
  lower = lower;
  quotient = over_value_cong 0 r s upper lower (lower-some r s reduced) (N.symm (same_list upper r e)) (N.symm (same_list lower s f));
  reduced = record {
    coprime = subst (λ (y : Polynomial 0). Coprime (PolynomialR 0) (poly upper) y) (sym f) (subst (λ (x : Polynomial 0). Coprime (PolynomialR 0) x (poly s)) (sym e) reduced.coprime);
    monic = monic;
  };
  upper_ends = upper_ends;
  lower_ends = lower_ends;
  us = us;
  ls = ls;
  whole = whole;
  upper_is = refl;
  lower_is = refl;
}
