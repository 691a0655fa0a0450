-- Rational functions as they are written.
--   writes       the laws of the one quotient of polynomials with whole coefficients as which a rational function over the fractions is written
--   terms-by, by-terms     terms as sg_build writes them
use Rattle.std.proofs.Common.{ℕ, refl, List, [], ◌∷◌}
use Rattle.sg_algebra.proofs.Place.{Pairwise}
use Rattle.sg_algebra.proofs.Value.{Value}
use Rattle.sg_spec.specs.Canonical.{Plane, Written}
use Rattle.sg_dispersion_theory.proofs.Listed.{poly_coprime}
use Rattle.sg_canonical.proofs.RationalTrees.{lower-some}
use Rattle.sg_tower_theory.proofs.Flat.{Term, IsLowestForm}
use Rattle.sg_build.specs.Forms.{IsWholeForm, form_of_rats}
use Rattle.sg_build.specs.FormLaws.{forms_of_rats}
use Rattle.sg_build.specs.Expressions.{IsWrittenTerm}
use Rattle.sg_forms_theory.proofs.Writing.{IsTermBy}
use Rattle.sg_forms_theory.proofs.Simplest.{Writes}
use Rattle.sg_forms.specs.Wholes.{IsWhole}

abbrev pub W : Value 1 → Plane → Plane → Type 0
W = form_of_rats 0

lowest-form : (x : Value 1) (u l : Plane) → IsWholeForm x u l → IsLowestForm x
lowest-form x u l h = record { upper = h.upper; lower = h.lower; quotient = h.quotient; nonzero = lower-some h.upper h.lower h.reduced; coprime = poly_coprime h.upper h.lower h.reduced.coprime }

pub writes : Writes W IsWhole
writes = record {
  made = λ c u l h n. (c, n, h);
  of = λ u l h. (h.0, h.2, h.1, lowest-form h.0 u l h.2);
  unique = forms_of_rats.unique;
  plain = λ u l h. forms_of_rats.plain h.0 u l h.2 refl;
  lowest = λ u l h. forms_of_rats.lowest h.0 u l h.2 h.1;
}

pub terms-by : (r : ℕ) (ts : List (Term 0)) (us : List Written) → Pairwise (IsWrittenTerm W r) ts us → Pairwise (IsTermBy W r) ts us
terms-by r [] [] h = tt
terms-by r [] (u ∷ us) h = absurd h
terms-by r (t ∷ ts) [] h = absurd h
terms-by r (t ∷ ts) (u ∷ us) h = (record { powers = h.0.powers; exponents = h.0.exponents; coefficient = h.0.coefficient }, terms-by r ts us h.1)

pub by-terms : (r : ℕ) (ts : List (Term 0)) (us : List Written) → Pairwise (IsTermBy W r) ts us → Pairwise (IsWrittenTerm W r) ts us
by-terms r [] [] h = tt
by-terms r [] (u ∷ us) h = absurd h
by-terms r (t ∷ ts) [] h = absurd h
by-terms r (t ∷ ts) (u ∷ us) h = (record { powers = h.0.powers; exponents = h.0.exponents; coefficient = h.0.coefficient }, by-terms r ts us h.1)
