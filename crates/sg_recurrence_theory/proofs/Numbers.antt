-- From a relation of rational functions of the parameter to one of numbers.
--   Are u ws             the values u 0, u 1, .. are the numbers ws
--   combined-worth       c₀(n) u₀ + c₁(n) u₁ + .. in fractions
--   shifted-are          the sums of f(n), f(n + 1), .. are those of the shifted expressions at n
--   same-sides           where both sides of a recurrence have values as rational functions, and these are equal, they are equal at each n
--                        at which they have numbers
use Rattle.std.proofs.Common.{◌≡◌, ℕ, zero, suc, ◌+◌, sym, ap, ap₂, ◌∙◌, subst, List, [], ◌∷◌, length, get_or, Option, Some, None, ℤ, pos, ◌+ℤ◌, arith}
use Rattle.sg_algebra.specs.Coefficients.{eval}
use Rattle.sg_algebra.proofs.Whole.{ℤR}
use Rattle.sg_algebra.proofs.Value.{Value, ◌-ᵛ◌, ◌*ᵛ◌, neg_value}
use Rattle.sg_algebra.proofs.Rational.{whole_value, fraction_value-sub, fraction_value-zero}
use Rattle.sg_algebra.proofs.Place.{Pairwise}
use Rattle.sg_spec.specs.Fraction.{Fraction, whole}
use Rattle.sg_spec.specs.Tree.{Tree, sum_from}
use Rattle.sg_spec.specs.Value.{val, both, product_of, SameValue}
use Rattle.sg_spec.specs.Worth.{HasWorth}
use Rattle.sg_spec.specs.Parameter.{substituted}
use Rattle.sg_spec.specs.Telescoping.{difference_of}
use Rattle.sg_spec.proofs.Values.{IsProper, val-proper, sum_proper, product_positive}
use Rattle.sg_spec.proofs.Worth.{Worth, worth_same, worth_cong, worth-sum, worth-product, worth-whole}
use Rattle.sg_worth_theory.proofs.Worths.{worth_number}
use Rattle.sg_answers_theory.proofs.Combined.{val-substituted}
use Rattle.sg_value_theory.proofs.Elements.{IsQuotientAt}
use Rattle.sg_value_theory.proofs.Quotients.{quotients}
use Rattle.sg_answers_theory.specs.Recurrences.{shifts_from, shifts, combined}
use Rattle.sg_recurrence_theory.specs.Recurrences.{left_side, right_side}
use Rattle.sg_recurrence_theory.proofs.Special.{worth-special}
use Rattle.sg_recurrence_theory.proofs.Combined.{weighted}

-- the values of the polynomials cs at n
abbrev pub at_parameter : List (List ℤ) → ℤ → ℕ → Value 0
at_parameter cs n i = whole_value 0 (eval ℤR (get_or cs i []) n)

abbrev pub Are : (ℕ → Option Fraction) → List (Value 0) → Type 0
Are u [] = Unit {0}
Are u (w ∷ ws) = Worth (u 0) w × Are (λ i. u (suc i)) ws

are-cong : (u v : ℕ → Option Fraction) (ws : List (Value 0)) → ((i : ℕ) → u i ≡ v i) → Are u ws → Are v ws
are-cong u v [] e h = tt
are-cong u v (w ∷ ws) e h = (subst (λ z. Worth z w) (e 0) h.0, are-cong (λ i. u (suc i)) (λ i. v (suc i)) ws (λ i. e (suc i)) h.1)

times_proper : (x : Fraction) (v : Option Fraction) → IsProper (Some x) → IsProper v → IsProper (both product_of (Some x) v)
times_proper x (Some y) h k = product_positive x.den y.den h k
times_proper x None h k = tt

combined_proper : (cs : List (List ℤ)) (n : ℤ) (u : ℕ → Option Fraction) → ((i : ℕ) → IsProper (u i)) → IsProper (combined cs n u)
combined_proper [] n u h = omega arith
combined_proper (c ∷ cs) n u h =
    sum_proper (both product_of (Some (whole (eval ℤR c n))) (u 0)) (combined cs n (λ i. u (suc i))) (times_proper (whole (eval ℤR c n)) (u 0) (omega arith) (h 0)) (combined_proper cs n (λ i. u (suc i)) (λ i. h (suc i)))

pub combined-worth : (cs : List (List ℤ)) (n : ℤ) (u : ℕ → Option Fraction) (ws : List (Value 0)) → length ws ≡ length cs → ((i : ℕ) → IsProper (u i))
    → Are u ws → Worth (combined cs n u) (weighted (at_parameter cs n) ws)
combined-worth [] n u [] l p h = fraction_value-zero
combined-worth [] n u (w ∷ ws) l p h = absurd (omega (arith, l))
combined-worth (c ∷ cs) n u [] l p h = absurd (omega (arith, l))
combined-worth (c ∷ cs) n u (w ∷ ws) l p h =
    worth-sum (both product_of (Some (whole (eval ℤR c n))) (u 0)) (combined cs n (λ i. u (suc i))) (whole_value 0 (eval ℤR c n) *ᵛ w) (weighted (at_parameter cs n) ws)
    (times_proper (whole (eval ℤR c n)) (u 0) (omega arith) (p 0)) (combined_proper cs n (λ i. u (suc i)) (λ i. p (suc i)))
    (worth-product (Some (whole (eval ℤR c n))) (u 0) (whole_value 0 (eval ℤR c n)) w (omega arith) (p 0) (worth-whole (eval ℤR c n)) h.0)
    (combined-worth cs n (λ i. u (suc i)) ws (omega (arith, l)) (λ i. p (suc i)) h.1)

-- ---- The sums of the shifted expressions

module _ (f : Tree) (s n N : ℤ) where
  abbrev AreSums : List Tree → List (Value 0) → Type 0
  AreSums ts ws = Pairwise (λ t w. HasWorth (whole_value 0 n) (sum_from s t) N w) ts ws

  first-is : (i : ℕ) (w : Value 0) → HasWorth (whole_value 0 n) (sum_from s (substituted i f)) N w → Worth (val (sum_from s f) (n +ℤ pos i) N) w
  first-is i w h = subst (λ z. Worth z w) (val-substituted i (sum_from s f) n N) (worth_number n (sum_from s (substituted i f)) N w h)

  pub shifted-are : (m i : ℕ) (ws : List (Value 0)) → AreSums (shifts_from i m f) ws → Are (λ j. val (sum_from s f) (n +ℤ pos (i + j)) N) ws
  shifted-are m i [] h = tt
  shifted-are zero i (w ∷ ws) h = absurd h
  shifted-are (suc m) i (w ∷ ws) h = (
    subst (λ (j : ℕ). Worth (val (sum_from s f) (n +ℤ pos j) N) w) (add_zero i) (first-is i w h.0),
    are-cong (λ j. val (sum_from s f) (n +ℤ pos (suc i + j)) N) (λ j. val (sum_from s f) (n +ℤ pos (i + suc j)) N) ws
        (λ j. ap (λ (l : ℕ). val (sum_from s f) (n +ℤ pos l) N) (move i j)) (shifted-are m (suc i) ws h.1),
  )
    where
      add_zero : (i : ℕ) → i ≡ i + 0
      add_zero i = omega arith

      move : (i j : ℕ) → suc i + j ≡ i + suc j
      move i j = omega arith

  from_zero : (ws : List (Value 0)) → Are (λ j. val (sum_from s f) (n +ℤ pos (0 + j)) N) ws → Are (λ j. val (sum_from s f) (n +ℤ pos j) N) ws
  from_zero ws h = are-cong (λ j. val (sum_from s f) (n +ℤ pos (0 + j)) N) (λ j. val (sum_from s f) (n +ℤ pos j) N) ws (λ j. ap (λ (m : ℕ). val (sum_from s f) (n +ℤ pos m) N) (none j)) h
    where
      none : (j : ℕ) → 0 + j ≡ j
      none j = omega arith

-- ---- Both sides

minus-worth : (u w : Option Fraction) (v t : Value 0) → IsProper u → IsProper w → Worth u v → Worth w t → Worth (both difference_of u w) (v -ᵛ t)
minus-worth (Some x) (Some y) v t p q h k = fraction_value-sub x.num y.num x.den y.den p q ∙ ap₂ ◌-ᵛ◌ h k
minus-worth (Some x) None v t p q h k = absurd k
minus-worth None w v t p q h k = absurd h

minus_proper : (u w : Option Fraction) → IsProper u → IsProper w → IsProper (both difference_of u w)
minus_proper (Some x) (Some y) h k = product_positive x.den y.den h k
minus_proper (Some x) None h k = tt
minus_proper None w h k = tt

-- what has a value at n, weighted
weighted-special : {d : ℕ} (n : ℤ) (c : ℕ → Value (suc d)) (a : ℕ → Value d) → ((i : ℕ) → IsQuotientAt n (c i) (a i))
    → (us : List (Value (suc d))) (ws : List (Value d)) → Pairwise (IsQuotientAt n) us ws
    → IsQuotientAt n (weighted c us) (weighted a ws)
weighted-special {d} n c a at [] [] h = (quotients d n).zero_has
weighted-special n c a at [] (w ∷ ws) h = absurd h
weighted-special n c a at (u ∷ us) [] h = absurd h
weighted-special {d} n c a at (u ∷ us) (w ∷ ws) h =
    (quotients d n).add_has (c 0 *ᵛ u) (weighted (λ i. c (suc i)) us) (a 0 *ᵛ w) (weighted (λ i. a (suc i)) ws)
    ((quotients d n).mul_has (c 0) u (a 0) w (at 0) h.0) (weighted-special n (λ i. c (suc i)) (λ i. a (suc i)) (λ i. at (suc i)) us ws h.1)

pairs : {d : ℕ} (letter : Value (suc d)) (n : ℤ) (letter_at : IsQuotientAt n letter (whole_value d n)) (s N : ℤ) (ts : List Tree) (us : List (Value (suc d))) (ws : List (Value d))
    → Pairwise (λ t u. HasWorth letter (sum_from s t) N u) ts us → Pairwise (λ t w. HasWorth (whole_value d n) (sum_from s t) N w) ts ws → Pairwise (IsQuotientAt n) us ws
pairs letter n at s N [] [] [] h i = tt
pairs letter n at s N [] [] (w ∷ ws) h i = absurd i
pairs letter n at s N [] (u ∷ us) ws h i = absurd h
pairs letter n at s N (t ∷ ts) [] ws h i = absurd h
pairs letter n at s N (t ∷ ts) (u ∷ us) [] h i = absurd i
pairs letter n at s N (t ∷ ts) (u ∷ us) (w ∷ ws) h i = (worth-special letter n at (sum_from s t) N u w h.0 i.0, pairs letter n at s N ts us ws h.1 i.1)

pub same-sides : (letter : Value 1) (f : Tree) (J : ℕ) (s : ℤ) (cs : List (List ℤ)) (g : Tree) (n N : ℤ) → IsQuotientAt n letter (whole_value 0 n)
    → (c : ℕ → Value 1) → ((i : ℕ) → IsQuotientAt n (c i) (at_parameter cs n i))
    → (us : List (Value 1)) (first last : Value 1) → Pairwise (λ t u. HasWorth letter (sum_from s t) N u) (shifts J f) us → HasWorth letter g s first → HasWorth letter g (N +ℤ pos 1) last
    → weighted c us ≡ last -ᵛ first
    → (ws : List (Value 0)) (v w : Value 0) → length ws ≡ length cs → Pairwise (λ t w. HasWorth (whole_value 0 n) (sum_from s t) N w) (shifts J f) ws → HasWorth (whole_value 0 n) g s v → HasWorth (whole_value 0 n) g (N +ℤ pos 1) w
    → SameValue (left_side cs f s n N) (right_side g s n N)
same-sides letter f J s cs g n N at c c-at us first last sums at_s at_N equal ws v w sized numbers v-is w-is =
    worth_same (left_side cs f s n N) (right_side g s n N) (w -ᵛ v)
    (combined_proper cs n (λ i. val (sum_from s f) (n +ℤ pos i) N) (λ i. val-proper (sum_from s f) (n +ℤ pos i) N))
    (minus_proper (val g n (N +ℤ pos 1)) (val g n s) (val-proper g n (N +ℤ pos 1)) (val-proper g n s))
    (worth_cong (left_side cs f s n N) (weighted (at_parameter cs n) ws) (w -ᵛ v) both-are
    (combined-worth cs n (λ i. val (sum_from s f) (n +ℤ pos i) N) ws sized (λ i. val-proper (sum_from s f) (n +ℤ pos i) N) (from_zero f s n N ws (shifted-are f s n N (suc J) 0 ws numbers))))
    (minus-worth (val g n (N +ℤ pos 1)) (val g n s) w v (val-proper g n (N +ℤ pos 1)) (val-proper g n s) (worth_number n g (N +ℤ pos 1) w w-is) (worth_number n g s v v-is))
  where
    left-is : IsQuotientAt n (weighted c us) (weighted (at_parameter cs n) ws)
    left-is = weighted-special n c (at_parameter cs n) c-at us ws (pairs letter n at s N (shifts J f) us ws sums numbers)

    right-is : IsQuotientAt n (last -ᵛ first) (w -ᵛ v)
    right-is = (quotients 0 n).add_has last (neg_value first) w (neg_value v) (worth-special letter n at g (N +ℤ pos 1) last w at_N w-is) ((quotients 0 n).neg_has first v (worth-special letter n at g s first v at_s v-is))

    both-are : weighted (at_parameter cs n) ws ≡ w -ᵛ v
    both-are = (quotients 0 n).unique (weighted c us) (weighted (at_parameter cs n) ws) (w -ᵛ v) left-is (subst (λ z. IsQuotientAt n z (w -ᵛ v)) (sym equal) right-is)
