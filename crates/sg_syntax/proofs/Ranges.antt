-- Sets of bytes as lists of ranges, with tests that compute.
--   inside, covers     a range within another, each of these ranges within one of those
--   misses, apart      no byte in common
use Rattle.std.specs.Prelude.{◌≡◌, ℕ, ◌+◌, List, [], ◌∷◌, ◌++◌, Bool, true, false, ◌&&◌, ◌||◌, leb, ltb, ◌⊎◌}
use Rattle.std.proofs.Common.{refl, arith, inl, inr}
use Rattle.std.proofs.lemmas.Bool.Decides.{nat_tests}
use Rattle.sg_syntax.specs.Ranges.{Range, from, in_range, has}

abbrev pub inside : Range → Range → Bool
inside (from l m) (from k n) = leb k l && leb (l + m) (k + n)

abbrev pub in_one : Range → List Range → Bool
in_one r [] = false
in_one r (q ∷ qs) = inside r q || in_one r qs

abbrev pub covers : List Range → List Range → Bool
covers [] qs = true
covers (r ∷ rs) qs = in_one r qs && covers rs qs

abbrev pub beside : Range → Range → Bool
beside (from l m) (from k n) = ltb (l + m) k || ltb (k + n) l

abbrev pub misses : Range → List Range → Bool
misses r [] = true
misses r (q ∷ qs) = beside r q && misses r qs

abbrev pub apart : List Range → List Range → Bool
apart [] qs = true
apart (r ∷ rs) qs = misses r qs && apart rs qs

pub both_left : (a b : Bool) → (a && b) ≡ true → a ≡ true
both_left true b h = refl
both_left false b h = h

pub both_right : (a b : Bool) → (a && b) ≡ true → b ≡ true
both_right true b h = h
both_right false b h = absurd (cc)

pub one_of_two : (a b : Bool) → (a || b) ≡ true → (a ≡ true) ⊎ (b ≡ true)
one_of_two true b h = inl refl
one_of_two false b h = inr h

pub or_right : (a b : Bool) → b ≡ true → (a || b) ≡ true
or_right true b h = refl
or_right false b h = h

pub or_left : (a b : Bool) → a ≡ true → (a || b) ≡ true
or_left true b h = refl
or_left false b h = absurd (cc)

in_range-inside : (r q : Range) (b : ℕ) → inside r q ≡ true → in_range r b ≡ true → in_range q b ≡ true
in_range-inside (from l m) (from k n) b h t = grind (arith, nat_tests)

in_range-beside : (r q : Range) (b : ℕ) → beside r q ≡ true → in_range r b ≡ true → in_range q b ≡ true → ⊥
in_range-beside (from l m) (from k n) b h t u = grind (arith, nat_tests)

has-in_one : (r : Range) (qs : List Range) (b : ℕ) → in_one r qs ≡ true → in_range r b ≡ true → has qs b ≡ true
has-in_one r [] b h t = h
has-in_one r (q ∷ qs) b h t = elim (one_of_two (inside r q) (in_one r qs) h) [
  | inl i ↦ or_left (in_range q b) (has qs b) (in_range-inside r q b i t)
  | inr i ↦ or_right (in_range q b) (has qs b) (has-in_one r qs b i t)
]

pub has-covers : (rs qs : List Range) (b : ℕ) → covers rs qs ≡ true → has rs b ≡ true → has qs b ≡ true
has-covers [] qs b h t = absurd (cc)
has-covers (r ∷ rs) qs b h t = elim (one_of_two (in_range r b) (has rs b) t) [
  | inl i ↦ has-in_one r qs b (both_left (in_one r qs) (covers rs qs) h) i
  | inr i ↦ has-covers rs qs b (both_right (in_one r qs) (covers rs qs) h) i
]

has-misses : (r : Range) (qs : List Range) (b : ℕ) → misses r qs ≡ true → in_range r b ≡ true → has qs b ≡ true → ⊥
has-misses r [] b h t u = cc
has-misses r (q ∷ qs) b h t u = elim (one_of_two (in_range q b) (has qs b) u) [
  | inl i ↦ in_range-beside r q b (both_left (beside r q) (misses r qs) h) t i
  | inr i ↦ has-misses r qs b (both_right (beside r q) (misses r qs) h) t i
]

pub has-apart : (rs qs : List Range) (b : ℕ) → apart rs qs ≡ true → has rs b ≡ true → has qs b ≡ true → ⊥
has-apart [] qs b h t u = cc
has-apart (r ∷ rs) qs b h t u = elim (one_of_two (in_range r b) (has rs b) t) [
  | inl i ↦ has-misses r qs b (both_left (misses r qs) (apart rs qs) h) i u
  | inr i ↦ has-apart rs qs b (both_right (misses r qs) (apart rs qs) h) i u
]

pub has-append : (rs qs : List Range) (b : ℕ) → has (rs ++ qs) b ≡ true → (has rs b ≡ true) ⊎ (has qs b ≡ true)
has-append [] qs b h = inr h
has-append (r ∷ rs) qs b h = elim (one_of_two (in_range r b) (has (rs ++ qs) b) h) [
  | inl i ↦ inl (or_left (in_range r b) (has rs b) i)
  | inr i ↦ elim (has-append rs qs b i) [ inl j ↦ inl (or_right (in_range r b) (has rs b) j) | inr j ↦ inr j ]
]

pub has-append_left : (rs qs : List Range) (b : ℕ) → has rs b ≡ true → has (rs ++ qs) b ≡ true
has-append_left [] qs b h = absurd (cc)
has-append_left (r ∷ rs) qs b h = elim (one_of_two (in_range r b) (has rs b) h) [
  | inl i ↦ or_left (in_range r b) (has (rs ++ qs) b) i
  | inr i ↦ or_right (in_range r b) (has (rs ++ qs) b) (has-append_left rs qs b i)
]

pub has-append_right : (rs qs : List Range) (b : ℕ) → has qs b ≡ true → has (rs ++ qs) b ≡ true
has-append_right [] qs b h = h
has-append_right (r ∷ rs) qs b h = or_right (in_range r b) (has (rs ++ qs) b) (has-append_right rs qs b h)
