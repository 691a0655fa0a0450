-- A recurrence, from what the calls of the command answer.
--   recurrence     where g telescopes c₀ f₀ + c₁ f₁ + .. as functions of the parameter, and the divisors are those that are listed, the
--                  equation holds wherever none of these is 0
use Rattle.std.proofs.Common.{◌≡◌, ℕ, zero, suc, true, false, refl, sym, ap, ◌∙◌, subst, List, [], ◌∷◌, ◌++◌, length, reverse, ℤ, pos, ◌+ℤ◌, ◌≤ℤ◌, arith}
use Rattle.std.proofs.lemmas.Int.{ints}
use Rattle.sg_algebra.specs.Ring.{Ring}
use Rattle.sg_algebra.specs.Coefficients.{Each}
use Rattle.sg_algebra.proofs.Value.{Value}
use Rattle.sg_algebra.proofs.ValueField.{ValueR}
use Rattle.sg_algebra.proofs.Rational.{whole_value}
use Rattle.sg_algebra.proofs.Place.{Pairwise}
use Rattle.sg_spec.specs.Printing.{InForm}
use Rattle.sg_spec.specs.Tree.{Tree, sum_from}
use Rattle.sg_spec.specs.Value.{SameValue}
use Rattle.sg_spec.specs.Worth.{HasWorth}
use Rattle.sg_spec.specs.Generators.{BuiltOver, sums, prods, start}
use Rattle.sg_spec.specs.Canonical.{Written, element_tree}
use Rattle.sg_spec.proofs.Totals.{from_on}
use Rattle.sg_tower_theory.proofs.Difference.{Difference, Solves}
use Rattle.sg_value_theory.proofs.Evaluation.{Evaluation}
use Rattle.sg_value_theory.proofs.Elements.{IsQuotientAt}
use Rattle.sg_value_theory.proofs.Telescoped.{Moves}
use Rattle.sg_limits.specs.declared.divisors.Divisor.{Divisor}
use Rattle.sg_answers_theory.specs.Recurrences.{shifts_from, shifts, AreSome, allowed_in}
use Rattle.sg_recurrence_theory.specs.Recurrences.{left_side, right_side, Spares, IsDivisor, Rec}
use Rattle.sg_recurrence_theory.specs.Listing.{IsListing}
use Rattle.sg_recurrence_theory.proofs.Combined.{combined-sums}
use Rattle.sg_recurrence_theory.proofs.Numbers.{at_parameter, same-sides}
use Rattle.sg_recurrence_theory.proofs.TermsExist.{Valued}
use Rattle.sg_recurrence_theory.proofs.Inside.{IsIn}
use Rattle.sg_recurrence_theory.proofs.Recurring.{IsThere, sum-values, right-value}

-- the values of a list of sums
values-of : (n N s : ℤ) (ts : List Tree) → Each (λ t. Valued (whole_value 0 n) N (sum_from s t)) ts
    → (ws : List (Value 0)) × Pairwise (λ t w. HasWorth (whole_value 0 n) (sum_from s t) N w) ts ws × (length ws ≡ length ts)
values-of n N s [] h = ([], tt, refl)
values-of n N s (t ∷ ts) h = let r = values-of n N s ts h.1 in (h.0.0 ∷ r.0, (h.0.1, r.1), ap suc r.2)

length-shifts : (m i : ℕ) (f : Tree) → length (shifts_from i m f) ≡ m
length-shifts zero i f = refl
length-shifts (suc m) i f = ap suc (length-shifts m (suc i) f)

module _ (letter : Value 1) (letter_at : (n : ℤ) → IsQuotientAt n letter (whole_value 0 n))
    (E : Ring) (B : Difference (ValueR 1) E) (at : ℕ → Evaluation E 1) (constants : (j : ℕ) (a : Value 1) → (at j).Has (B.κ.on a) a) (moves : Moves E B.σ.on at) where
  pub recurrence : (f : Tree) (J : ℕ) (a s : ℤ) (cs : List (List ℤ)) (free ss : List Tree) (expressed right : List Written) (V : List Divisor)
      → s ≡ start (shifts J f) a → a ≤ℤ s → length cs ≡ suc J → AreSome cs → BuiltOver (allowed_in (shifts J f)) (element_tree free ss right) → Each IsDivisor V
      → Each (InForm true false) (shifts J f) → (L : IsListing a s (shifts J f) free expressed right V) → Each IsThere (L.of_divisors ++ (L.of_zeros ++ (L.of_generators ++ L.of_right)))
      → Each (IsIn (prods (shifts J f))) free → Each (IsIn (sums (shifts J f))) (reverse ss)
      → (c : ℕ → Value 1) → ((n : ℤ) (i : ℕ) → IsQuotientAt n (c i) (at_parameter cs n i))
      → (xs : List E.A) (g : E.A) → Solves B (λ x. x) xs c g
      → ((j : ℕ) → (us : List (Value 1)) × Pairwise (λ t u. HasWorth letter t (s +ℤ pos j) u) (shifts J f) us × Pairwise (at j).Has xs us)
      → ((j : ℕ) → (v : Value 1) × (at j).Has g v)
      → ((j : ℕ) (v : Value 1) → (at j).Has g v → HasWorth letter (element_tree free ss right) (s +ℤ pos j) v)
      → Rec f J a cs (element_tree free ss right) V s
  recurrence f J a s cs free ss expressed right V starts le order some over divisors forms L there free-in sums-in c c-at xs g solves terms regular expresses = record {
    starts = starts;
    order = order;
    some = some;
    over = over;
    divisors = divisors;
    holds = λ n N hn hN spares. at-place n N spares (from_on s N hN);
  }
    where
      h : Tree
      h = element_tree free ss right

      at-place : (n N : ℤ) → Spares V n N → (j : ℕ) × (N ≡ s +ℤ pos j) → SameValue (left_side cs f s n N) (right_side (element_tree free ss right) s n N)
      at-place n N spares p =
          let sums-are = combined-sums E B at constants letter s moves (shifts J f) xs c g solves terms regular p.0 in
          let numbers = values-of n N s (shifts J f) (sum-values (shifts J f) a s le forms free expressed right V L there n N spares) in
          let next : s +ℤ pos (suc p.0) ≡ N +ℤ pos 1 = omega (arith, ints, p.1) in
          let here : s +ℤ pos 0 ≡ s = omega (arith, ints) in
          let up : s ≤ℤ (N +ℤ pos 1) = omega (arith, ints, p.1) in
          let v = right-value (shifts J f) a s le forms free expressed right V L there n N spares free-in ss sums-in s (omega (arith, ints)) up in
          let w = right-value (shifts J f) a s le forms free expressed right V L there n N spares free-in ss sums-in (N +ℤ pos 1) up (omega (arith, ints)) in
          same-sides letter f J s cs (element_tree free ss right) n N (letter_at n) c (c-at n) sums-are.0 (regular 0).0 (regular (suc p.0)).0
          (subst (λ (k : ℤ). Pairwise (λ t u. HasWorth letter (sum_from s t) k u) (shifts J f) sums-are.0) (sym p.1) sums-are.1)
          (subst (λ (k : ℤ). HasWorth letter (element_tree free ss right) k (regular 0).0) here (expresses 0 (regular 0).0 (regular 0).1))
          (subst (λ (k : ℤ). HasWorth letter (element_tree free ss right) k (regular (suc p.0)).0) next (expresses (suc p.0) (regular (suc p.0)).0 (regular (suc p.0)).1))
          sums-are.2 numbers.0 v.0 w.0 (numbers.2 ∙ length-shifts (suc J) 0 f ∙ sym order) numbers.1 v.1 w.1
