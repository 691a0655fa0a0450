-- A rational function over the fractions is written in one way, with its values.
--   forms_of_rats    the laws
use Rattle.std.specs.Prelude.{◌≡◌, ℕ, ℤ, List, [], ◌∷◌, length, refl}
use Rattle.std.proofs.Common.{sym, ap, ap₂, subst, ◌∙◌, arith}
use Rattle.std.proofs.Math.Path.{fun_ext}
use mathlib.Core.Quot.{Quot-set}
use Rattle.sg_algebra.specs.Ring.{Ring}
use Rattle.sg_algebra.specs.Coefficients.{coef}
use Rattle.sg_algebra.proofs.OverValue.{same_over_value, over_value-zero}
use Rattle.sg_algebra.proofs.Polynomial.{poly, EndsNonzero, same_list, poly-mul, poly_cong}
use Rattle.sg_algebra.proofs.PolynomialRing.{PolyR}
use Rattle.sg_algebra.proofs.Value.{Value, ◌*ᵛ◌, inv_value, zero_value, over_value}
use Rattle.sg_algebra.proofs.ValueField.{ValueR}
use Rattle.sg_ratfun.proofs.Coprimes.{lowest_parts}
use Rattle.sg_spec.specs.Canonical.{Plane, plane_of, leading, IsLowest}
use Rattle.sg_worth_theory.proofs.Building.{NoParameter}
use Rattle.sg_worth_theory.proofs.WrittenElements.{plane_value}
use Rattle.sg_value_theory.proofs.Elements.{IsQuotientAt}
use Rattle.sg_canonical.specs.Whole.{IsPrimitiveQuotient}
use Rattle.sg_canonical.proofs.Lowest.{IsApart, number-of, number-is, lead-some, whole-apart, whole-lowest}
use Rattle.sg_canonical.proofs.RationalTrees.{ends-same, lower-some, coprime-lists, reduced-value}
use Rattle.sg_canonical.proofs.Unique.{whole-unique}
use Rattle.sg_canonical.proofs.Writing.{whole-writes}
use Rattle.sg_build.specs.Forms.{IsWholeForm, form_of_rats}
use Rattle.sg_build.specs.Letters.{letter, LawsOfForms}

abbrev N : Ring
N = PolyR (ValueR 0)

same-coefficients : (p q : List (Value 0)) → EndsNonzero p → EndsNonzero q → poly p ≡ poly q → p ≡ q
same-coefficients p q h k e = ends-same p q h k (same_list p q e).image.at

form-unique : (x : Value 1) (u l v m : Plane) → IsWholeForm x u l → IsWholeForm x v m → (u ≡ v) × (l ≡ m)
form-unique x u l v m h k =
    let crossed = same_over_value 0 h.upper h.lower k.upper k.lower (lower-some h.upper h.lower h.reduced) (lower-some k.upper k.lower k.reduced) (sym h.quotient ∙ k.quotient) in
    let parts = lowest_parts h.upper h.lower k.upper k.lower h.reduced.coprime k.reduced.coprime h.reduced.monic k.reduced.monic
    (sym (poly-mul h.upper k.lower) ∙ poly_cong crossed ∙ poly-mul k.upper h.lower) in
    let upper : h.upper ≡ k.upper = same-coefficients h.upper k.upper h.upper_ends k.upper_ends parts.0 in
    let lower : h.lower ≡ k.lower = same-coefficients h.lower k.lower h.lower_ends k.lower_ends parts.1 in
    let moved : IsPrimitiveQuotient k.upper k.lower h.us h.ls =
    subst (λ (q : List (Value 0)). IsPrimitiveQuotient k.upper q h.us h.ls) lower (subst (λ (p : List (Value 0)). IsPrimitiveQuotient p h.lower h.us h.ls) upper h.whole) in
    let same = whole-unique k.upper k.lower h.us h.ls k.us k.ls moved k.whole in
    (h.upper_is ∙ ap plane_of same.0 ∙ sym k.upper_is, h.lower_is ∙ ap plane_of same.1 ∙ sym k.lower_is)

form-value : (x : Value 1) (u l : Plane) (k : ℤ) (c : Value 0) → IsWholeForm x u l → IsQuotientAt k x c
    → ¬ (plane_value (letter 0) k l ≡ zero_value) × (c ≡ plane_value (letter 0) k u *ᵛ inv_value (plane_value (letter 0) k l))
form-value x u l k c h i =
    let own = reduced-value k h.upper h.lower i.upper i.lower h.reduced (sym h.quotient ∙ i.quotient) i.defined in
    let e = whole-writes (letter 0) k h.upper h.lower h.us h.ls h.whole own.0 in (
      λ z. e.0 (ap (plane_value (letter 0) k) (sym h.lower_is) ∙ z),
      i.value ∙ sym own.1 ∙ e.1 ∙ ap₂ (λ (a b : Plane). plane_value (letter 0) k a *ᵛ inv_value (plane_value (letter 0) k b)) (sym h.upper_is) (sym h.lower_is),
    )

value_set : IsSet (Value 0)
value_set = hlevel Quot-set

form-apart : (x : Value 1) (u l : Plane) (h : IsWholeForm x u l) → IsApart h.us h.ls
form-apart x u l h c i j =
    number-is c
    (coprime-lists ((i j : ℕ) → coef (ValueR 0) (coef N c i) j ≡ coef (ValueR 0) (coef N ((coef (ValueR 0) (coef N c 0) 0 ∷ []) ∷ []) i) j) (λ a b. fun_ext (λ i. fun_ext (λ j. value_set _ _ (a i j) (b i j)))) h.upper h.lower
    (λ r. number-of c (whole-apart h.upper h.lower h.us h.ls (leading (plane_of h.ls)) (lead-some h.upper h.lower h.us h.ls h.whole) r h.whole.upper h.whole.lower c i j))
    h.reduced.coprime)

form-lowest : (x : Value 1) (u l : Plane) → IsWholeForm x u l → ¬ (x ≡ zero_value) → IsLowest u l
form-lowest x u l h n =
    subst (λ (a : Plane). IsLowest a l) (sym h.upper_is) (subst (λ (b : Plane). IsLowest (plane_of h.us) b) (sym h.lower_is) (cases h.upper refl))
  where
    cases : (p : List (Value 0)) → h.upper ≡ p → IsLowest (plane_of h.us) (plane_of h.ls)
    cases [] e = absurd (n (h.quotient ∙ ap (λ (p : List (Value 0)). over_value p h.lower) e ∙ over_value-zero 0 h.lower (lower-some h.upper h.lower h.reduced)))
    cases (c ∷ p) e =
        whole-lowest (length p) h.upper h.lower h.us h.ls (ap length e)
        (λ z. subst EndsNonzero e h.upper_ends (length p) refl (ap (λ (q : List (Value 0)). coef (ValueR 0) q (length p)) (sym e) ∙ z)) (form-apart x u l h) h.whole

rows-short : (cs : List ℤ) → NoParameter (plane_of cs)
rows-short [] = tt
rows-short (c ∷ cs) = (omega arith, rows-short cs)

abbrev Is-zero : Type 0
Is-zero = let d : ℕ = 0 in d ≡ 0

form-plain : (x : Value 1) (u l : Plane) → IsWholeForm x u l → Is-zero → NoParameter u × NoParameter l
form-plain x u l h e = (subst NoParameter (sym h.upper_is) (rows-short h.us), subst NoParameter (sym h.lower_is) (rows-short h.ls))

pub forms_of_rats : LawsOfForms 0 (form_of_rats 0)
forms_of_rats = record { unique = form-unique; value = form-value; lowest = form-lowest; plain = form-plain }
