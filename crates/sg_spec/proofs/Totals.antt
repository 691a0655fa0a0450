-- Plain sums.
--   how_many-step       one more whole number
--   total-empty         a sum of no terms is 0
--   total-step          one more term
--   total-telescopes    what is 0 before the first term and grows by each term is the plain sum
use Rattle.std.proofs.Common.{◌≡◌, ℕ, zero, suc, ℤ, pos, negsuc, ◌+ℤ◌, ◌-ℤ◌, ◌≤ℤ◌, Option, Some, None, refl, sym, ap, subst, ◌∙◌, arith}
use Rattle.std.proofs.lemmas.Int.{ints}
use Rattle.sg_spec.specs.Fraction.{Fraction, whole, plus}
use Rattle.sg_spec.specs.Tree.{Tree}
use Rattle.sg_spec.specs.Value.{val, both, sum_of, folded, how_many, steps_to, SameValue, total}
use Rattle.sg_spec.proofs.Fractions.{plus-cong_left, Same-trans}
use Rattle.sg_spec.proofs.Values.{IsProper, val-proper, product_positive}

pub how_many-empty : (a : ℤ) → how_many a (a -ℤ pos 1) ≡ 0
how_many-empty a = let e : (a -ℤ pos 1) -ℤ a ≡ negsuc 0 = omega (arith, ints) in ap steps_to e

pub how_many-step : (a : ℤ) (d : ℕ) → how_many a (a +ℤ pos d) ≡ suc d
how_many-step a d = let e : (a +ℤ pos d) -ℤ a ≡ pos d = omega (arith, ints) in ap steps_to e

pub how_many-before : (a : ℤ) (d : ℕ) → how_many a ((a -ℤ pos 1) +ℤ pos d) ≡ d
how_many-before a zero = let e : ((a -ℤ pos 1) +ℤ pos zero) -ℤ a ≡ negsuc 0 = omega (arith, ints) in ap steps_to e
how_many-before a (suc d) = let e : ((a -ℤ pos 1) +ℤ pos (suc d)) -ℤ a ≡ pos d = omega (arith, ints) in ap steps_to e

-- a number that isn't below another is that one and a natural number
pub from_on : (a m : ℤ) → a ≤ℤ m → (d : ℕ) × (m ≡ a +ℤ pos d)
from_on a m h = difference (m -ℤ a) refl
  where
    difference : (z : ℤ) → z ≡ m -ℤ a → (d : ℕ) × (m ≡ a +ℤ pos d)
    difference (pos d) e = (d, omega (arith, ints))
    difference (negsuc d) e = absurd (omega (arith, ints))

abbrev terms : Tree → ℤ → ℕ → Option Fraction
terms f a n = folded sum_of (whole (pos 0)) (val f (pos 0)) a n

pub total-empty : (f : Tree) (a : ℤ) → total f a (a -ℤ pos 1) ≡ Some (whole (pos 0))
total-empty f a = ap (terms f a) (how_many-empty a)

pub total-step : (f : Tree) (a : ℤ) (d : ℕ) → total f a (a +ℤ pos d) ≡ both sum_of (total f a ((a -ℤ pos 1) +ℤ pos d)) (val f (pos 0) (a +ℤ pos d))
total-step f a d =
    ap (terms f a) (how_many-step a d)
    ∙ ap (λ (n : ℕ). both sum_of (terms f a n) (val f (pos 0) (a +ℤ pos d))) (sym (how_many-before a d))

-- an equal value in place of another
replaced : (t u v w : Option Fraction) → IsProper u → IsProper w → SameValue u v → SameValue t (both sum_of u w) → SameValue t (both sum_of v w)
replaced (Some t) (Some x) (Some y) (Some z) p q h k = Same-trans t (plus x z) (plus y z) (product_positive x.den z.den p q) k (plus-cong_left x y z h)
replaced (Some t) (Some x) (Some y) None p q h k = absurd k
replaced t (Some x) None w p q h k = absurd h
replaced t None v w p q h k = absurd h
replaced None (Some x) (Some y) w p q h k = absurd k

pub total-telescopes : (f h : Tree) (a : ℤ) → SameValue (val h (pos 0) (a -ℤ pos 1)) (Some (whole (pos 0)))
    → ((d : ℕ) → SameValue (val h (pos 0) (a +ℤ pos d)) (both sum_of (val h (pos 0) ((a -ℤ pos 1) +ℤ pos d)) (val f (pos 0) (a +ℤ pos d))))
    → (d : ℕ) → SameValue (val h (pos 0) ((a -ℤ pos 1) +ℤ pos d)) (total f a ((a -ℤ pos 1) +ℤ pos d))
total-telescopes f h a start step zero =
    let e : a -ℤ pos 1 ≡ (a -ℤ pos 1) +ℤ pos zero = omega (arith, ints) in
    subst (λ (m : ℤ). SameValue (val h (pos 0) m) (total f a m)) e
    (subst (λ (v : Option Fraction). SameValue (val h (pos 0) (a -ℤ pos 1)) v) (sym (total-empty f a)) start)
total-telescopes f h a start step (suc d) =
    let e : a +ℤ pos d ≡ (a -ℤ pos 1) +ℤ pos (suc d) = omega (arith, ints) in
    subst (λ (m : ℤ). SameValue (val h (pos 0) m) (total f a m)) e
    (subst (λ (v : Option Fraction). SameValue (val h (pos 0) (a +ℤ pos d)) v) (sym (total-step f a d))
    (replaced (val h (pos 0) (a +ℤ pos d)) (val h (pos 0) ((a -ℤ pos 1) +ℤ pos d)) (total f a ((a -ℤ pos 1) +ℤ pos d)) (val f (pos 0) (a +ℤ pos d))
    (val-proper h (pos 0) ((a -ℤ pos 1) +ℤ pos d)) (val-proper f (pos 0) (a +ℤ pos d))
    (total-telescopes f h a start step d) (step d)))

-- the same for each m from a on
pub total-telescopes_from : (f h : Tree) (a : ℤ) → SameValue (val h (pos 0) (a -ℤ pos 1)) (Some (whole (pos 0)))
    → ((x : ℤ) → SameValue (val h (pos 0) x) (both sum_of (val h (pos 0) (x -ℤ pos 1)) (val f (pos 0) x)))
    → (m : ℤ) → a ≤ℤ m → SameValue (val h (pos 0) m) (total f a m)
total-telescopes_from f h a start step m le =
    let (d, e) = from_on a m le in
    let reached : (a -ℤ pos 1) +ℤ pos (suc d) ≡ m = omega (arith, ints) in
    subst (λ (x : ℤ). SameValue (val h (pos 0) x) (total f a x)) reached (total-telescopes f h a start before (suc d))
  where
    before : (d : ℕ) → SameValue (val h (pos 0) (a +ℤ pos d)) (both sum_of (val h (pos 0) ((a -ℤ pos 1) +ℤ pos d)) (val f (pos 0) (a +ℤ pos d)))
    before d =
        let e : (a +ℤ pos d) -ℤ pos 1 ≡ (a -ℤ pos 1) +ℤ pos d = omega (arith, ints) in
        subst (λ (y : ℤ). SameValue (val h (pos 0) (a +ℤ pos d)) (both sum_of (val h (pos 0) y) (val f (pos 0) (a +ℤ pos d)))) e (step (a +ℤ pos d))
