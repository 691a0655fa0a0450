use Rattle.std.proofs.Common.{List, map, ap, sym, ◌∙◌, subst}
use Rattle.sg_algebra.proofs.Polynomial.{poly, EndsNonzero}
use Rattle.sg_num.specs.Value.{number}
use Rattle.sg_num.specs.declared.rat.Rat.{Rat}
use Rattle.sg_poly.specs.Divisors.{IsMonic}
use Rattle.sg_canonical.proofs.RationalTrees.{monic-rats}
use Rattle.sg_build.proofs.WholeForms.{form-made}
use Rattle.sg_build.proofs.letters.RatLetters.whole_form.Goals as goal

pub primitive_quotient-requires : goal.primitive_quotient-requires
primitive_quotient-requires c =
    record {
      monic = monic-rats c.coeffs-2.result.now (subst (λ (l : List Rat). IsMonic (map number l)) (sym c.coeffs-2.ensures.value) c.in_ok-lower.ensures.monic)
          (subst (λ (l : List Rat). EndsNonzero (map number l)) (sym c.coeffs-2.ensures.value) c.coeffs-2.ensures.ends);
    }

pub returns-clause-value : goal.returns-clause-value
returns-clause-value c =
    form-made (map number c.args.r.now.0) (map number c.args.r.now.1) (map number c.coeffs.result.now) (map number c.coeffs-2.result.now) c.in_ok-q.q.upper c.in_ok-q.q.lower
    (ap (λ (l : List Rat). poly (map number l)) c.coeffs.ensures.value ∙ c.in_ok-upper.ensures.value)
    (ap (λ (l : List Rat). poly (map number l)) c.coeffs-2.ensures.value ∙ c.in_ok-lower.ensures.value)
    c.in_ok-upper.ensures.reduced
    (subst (λ (l : List Rat). EndsNonzero (map number l)) (sym c.coeffs.ensures.value) c.coeffs.ensures.ends)
    (subst (λ (l : List Rat). EndsNonzero (map number l)) (sym c.coeffs-2.ensures.value) c.coeffs-2.ensures.ends)
    (subst (λ (l : List Rat). IsMonic (map number l)) (sym c.coeffs-2.ensures.value) c.in_ok-lower.ensures.monic)
    c.in_ok-q.ensures.value
