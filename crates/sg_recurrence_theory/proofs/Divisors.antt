-- What is told of the polynomials of a recurrence.
--   listed-are         the listed divisors are divisors
--   polynomial-at      a polynomial with whole coefficients has, as a function of the parameter, its values
use Rattle.std.proofs.Common.{◌≡◌, refl, sym, ap, ◌∙◌, subst, List, [], ◌∷◌, ◌++◌, map, ℤ, ◌*ℤ◌}
use Rattle.sg_algebra.specs.Coefficients.{Each, eval}
use Rattle.sg_algebra.proofs.Whole.{ℤR}
use Rattle.sg_algebra.proofs.Value.{◌+ᵛ◌, ◌*ᵛ◌, one_value, over_value}
use Rattle.sg_algebra.proofs.ValueField.{ValueR}
use Rattle.sg_algebra.proofs.Rational.{whole_value}
use Rattle.sg_spec.specs.Tree.{Tree}
use Rattle.sg_spec.specs.Canonical.{Written}
use Rattle.sg_value_theory.proofs.Elements.{IsQuotientAt}
use Rattle.sg_value_theory.proofs.Quotients.{quotient-polynomial}
use Rattle.sg_limits.specs.declared.divisors.Divisor.{Divisor}
use Rattle.sg_limits.proofs.Wholes.{whole_value-add, whole_value-mul}
use Rattle.sg_poly.specs.Plane.{IsTrimmed}
use Rattle.sg_recurrence_theory.specs.Recurrences.{IsDivisor}
use Rattle.sg_recurrence_theory.specs.Listing.{IsListing}
use Rattle.sg_recurrence_theory.proofs.Listed.{IsTold, listed-divisors}
use Rattle.sg_recurrence_theory.proofs.Recurring.{IsThere}

both : (ds : List Divisor) → Each (λ d. IsTrimmed d.poly) ds → Each IsThere ds → Each IsTold ds
both [] h k = tt
both (d ∷ ds) h k = ((h.0, k.0), both ds h.1 k.1)

pub listed-are : (a s : ℤ) (fs free : List Tree) (expressed right : List Written) (V : List Divisor) (L : IsListing a s fs free expressed right V)
    → Each IsThere (L.of_divisors ++ (L.of_zeros ++ (L.of_generators ++ L.of_right))) → Each IsDivisor V
listed-are a s fs free expressed right V L there =
    subst (Each IsDivisor) (sym L.is) (listed-divisors (L.of_divisors ++ (L.of_zeros ++ (L.of_generators ++ L.of_right))) (both (L.of_divisors ++ (L.of_zeros ++ (L.of_generators ++ L.of_right))) L.trimmed there))

whole-eval : (row : List ℤ) (n : ℤ) → eval (ValueR 0) (map (whole_value 0) row) (whole_value 0 n) ≡ whole_value 0 (eval ℤR row n)
whole-eval [] n = refl
whole-eval (c ∷ row) n =
    ap (λ v. whole_value 0 c +ᵛ whole_value 0 n *ᵛ v) (whole-eval row n) ∙ ap (λ v. whole_value 0 c +ᵛ v) (sym (whole_value-mul 0 n (eval ℤR row n))) ∙ sym (whole_value-add 0 c (n *ℤ eval ℤR row n))

pub polynomial-at : (row : List ℤ) (n : ℤ) → IsQuotientAt n (over_value (map (whole_value 0) row) (one_value ∷ [])) (whole_value 0 (eval ℤR row n))
polynomial-at row n = subst (IsQuotientAt n (over_value (map (whole_value 0) row) (one_value ∷ []))) (whole-eval row n) (quotient-polynomial n (map (whole_value 0) row))
