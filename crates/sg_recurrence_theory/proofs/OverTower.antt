-- A recurrence in the tower of a command, over the rational functions of the parameter.
--   recurrence-over      what the calls of the command answer makes a recurrence
use Rattle.std.proofs.Common.{◌≡◌, ℕ, suc, true, false, List, [], ◌∷◌, ◌++◌, length, reverse, ℤ, pos, ◌+ℤ◌, ◌≤ℤ◌, arith}
use Rattle.std.proofs.lemmas.Int.{ints}
use Rattle.sg_algebra.specs.Coefficients.{Each}
use Rattle.sg_algebra.proofs.Value.{Value}
use Rattle.sg_algebra.proofs.Rational.{whole_value}
use Rattle.sg_algebra.proofs.Place.{Pairwise}
use Rattle.sg_spec.specs.Printing.{InForm}
use Rattle.sg_spec.specs.Tree.{Tree}
use Rattle.sg_spec.specs.Worth.{HasWorth}
use Rattle.sg_spec.specs.Generators.{BuiltOver, sums, prods, start}
use Rattle.sg_spec.specs.Canonical.{Written, element_tree}
use Rattle.sg_tower_theory.proofs.Difference.{Solves, total}
use Rattle.sg_tower_theory.proofs.Formal.{Formal, Element, elements, shifted}
use Rattle.sg_value_theory.proofs.Elements.{Point, IsQuotientAt, HasElement}
use Rattle.sg_value_theory.proofs.TreePoints.{IsPointOf, Agrees, Expresses}
use Rattle.sg_value_theory.proofs.TowerOf.{IsTowerOf, at_places}
use Rattle.sg_value_theory.proofs.Evaluations.{evaluation, constant-has}
use Rattle.sg_value_theory.proofs.Moving.{moves}
use Rattle.sg_value_theory.proofs.Regular.{regular_along}
use Rattle.sg_value_theory.proofs.PointsOf.{HasValues, HasUnits, points, points-late, points-are, run}
use Rattle.sg_worth_theory.proofs.Bodies.{HasValues as HasValuesFrom}
use Rattle.sg_limits.specs.declared.divisors.Divisor.{Divisor}
use Rattle.sg_answers_theory.specs.Recurrences.{shifts, AreSome, allowed_in}
use Rattle.sg_recurrence_theory.specs.Recurrences.{IsDivisor, Rec}
use Rattle.sg_recurrence_theory.specs.Listing.{IsListing}
use Rattle.sg_recurrence_theory.proofs.Combined.{weighted, total-has}
use Rattle.sg_recurrence_theory.proofs.Numbers.{at_parameter}
use Rattle.sg_recurrence_theory.proofs.Inside.{IsIn}
use Rattle.sg_recurrence_theory.proofs.Recurring.{IsThere}
use Rattle.sg_recurrence_theory.proofs.Recurrence.{recurrence}

module _ (letter : Value 1) (letter_at : (n : ℤ) → IsQuotientAt n letter (whole_value 0 n))
    (s : ℤ) (ps ss : List Tree) (F : Formal 1) (places : List ℕ) (known : List (Element F)) (is : IsTowerOf letter s ps ss F places known) (units : Each (HasUnits letter) ps) (frees : Each (HasValues letter) (at_places ss places)) where
  late : s ≤ℤ s
  late = omega (arith, ints)

  place : ℕ → Point 1
  place j = points letter s ps ss F places known is units frees s late j

  -- the summands' values, and those of their elements, at each place from the start on
  terms-at : (fs : List Tree) (xs : List (Element F)) → Each (HasValuesFrom letter s) fs
      → Pairwise (λ f x. (p : Point 1) → s ≤ℤ p.variable → IsPointOf letter ps (at_places ss places) p → Agrees letter F p x f) fs xs
      → (j : ℕ) → (us : List (Value 1)) × Pairwise (λ t u. HasWorth letter t (s +ℤ pos j) u) fs us × Pairwise (HasElement F (points letter s ps ss F places known is units frees s late j)) xs us
  terms-at [] [] v h j = ([], tt, tt)
  terms-at [] (x ∷ xs) v h j = absurd h
  terms-at (f ∷ fs) [] v h j = absurd h
  terms-at (f ∷ fs) (x ∷ xs) v h j =
      let u = v.0 (s +ℤ pos j) (omega (arith, ints)) in
      let r = terms-at fs xs v.1 h.1 j in
      (u.0 ∷ r.0, (u.1, r.1), (h.0 (points letter s ps ss F places known is units frees s late j) (points-late letter s ps ss F places known is units frees s late j) (points-are letter s ps ss F places known is units frees s late j) u.0 u.1, r.2))

  pub recurrence-over : (f : Tree) (J : ℕ) (a : ℤ) (cs : List (List ℤ)) (right : List Written) (expressed : List Written) (V : List Divisor)
      → s ≡ start (shifts J f) a → a ≤ℤ s → length cs ≡ suc J → AreSome cs → BuiltOver (allowed_in (shifts J f)) (element_tree ps (at_places ss places) right) → Each IsDivisor V
      → Each (InForm true false) (shifts J f) → (L : IsListing a s (shifts J f) ps expressed right V) → Each IsThere (L.of_divisors ++ (L.of_zeros ++ (L.of_generators ++ L.of_right)))
      → Each (IsIn (prods (shifts J f))) ps → Each (IsIn (sums (shifts J f))) (reverse (at_places ss places))
      → (c : ℕ → Value 1) → ((n : ℤ) (i : ℕ) → IsQuotientAt n (c i) (at_parameter cs n i))
      → Each (HasValuesFrom letter s) (shifts J f)
      → (xs : List (Element F)) → Pairwise (λ f x. (p : Point 1) → s ≤ℤ p.variable → IsPointOf letter ps (at_places ss places) p → Agrees letter F p x f) (shifts J f) xs
      → (g : Element F) → Solves (shifted F) (λ x. x) xs c g
      → ((p : Point 1) → IsPointOf letter ps (at_places ss places) p → Expresses letter F p g (element_tree ps (at_places ss places) right))
      → Rec f J a cs (element_tree ps (at_places ss places) right) V s
  recurrence-over f J a cs right expressed V starts le order some over divisors forms L there free-in sums-in c c-at values xs stands g solves expresses =
      recurrence letter letter_at (elements F) (shifted F) (λ j. evaluation F (points letter s ps ss F places known is units frees s late j))
      (λ j v. constant-has F (points letter s ps ss F places known is units frees s late j) v)
      (λ j e v i. moves F (points letter s ps ss F places known is units frees s late j) (points letter s ps ss F places known is units frees s late (suc j)) (run letter s ps ss F places known is units frees s late j) e v i)
      f J a s cs ps (at_places ss places) expressed right V starts le order some over divisors forms L there free-in sums-in c c-at xs g solves
      (terms-at (shifts J f) xs values stands)
      (regular_along F (λ j. points letter s ps ss F places known is units frees s late j) (run letter s ps ss F places known is units frees s late) g (total (shifted F) (λ x. x) c xs) solves
      (λ j. (
        weighted c (terms-at (shifts J f) xs values stands j).0,
        total-has (elements F) (shifted F) (λ j. evaluation F (points letter s ps ss F places known is units frees s late j)) (λ j v. constant-has F (points letter s ps ss F places known is units frees s late j) v) j c xs
            (terms-at (shifts J f) xs values stands j).0 (terms-at (shifts J f) xs values stands j).2,
      )))
      (λ j v h. expresses (points letter s ps ss F places known is units frees s late j) (points-are letter s ps ss F places known is units frees s late j) v h)
