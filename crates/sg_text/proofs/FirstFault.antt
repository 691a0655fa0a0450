-- The first fault of a list.
--   earlier_assoc      of three faults
--   first_of-append    of two lists after one another
--   first_is, none_is  what the test finds is the first, and where it finds nothing there is none
use Rattle.std.specs.Prelude.{◌≡◌, ℕ, ◌≤◌, ◌<◌, ◌⊎◌, nat_le, cond, Bool, true, false, Option, Some, None, List, [], ◌∷◌, ◌++◌}
use Rattle.std.proofs.Common.{refl, sym, ap, ◌∙◌, subst, arith, inl, inr}
use Rattle.std.proofs.lemmas.Bool.Decides.{nat_tests}
use Rattle.sg_spec.specs.Grammar.{IsOneOf, first, later}
use Rattle.sg_spec.specs.Reading.{Kind, numeral_fault, exponent_fault, unbound, form, Fault, rank, NotAfter, IsFirst}
use Rattle.sg_text.specs.Firsts.{key, earlier, first_of}

three : (f g h : Fault) (a b c : ℕ) → cond {A = Option Fault} (nat_le b c) (cond (nat_le a b) (Some f) (Some g)) (cond (nat_le a c) (Some f) (Some h))
    ≡ cond {A = Option Fault} (nat_le a b) (cond (nat_le a c) (Some f) (Some h)) (cond (nat_le b c) (Some g) (Some h))
three f g h a b c = grind (arith, nat_tests)

push_right : (t : Bool) (f g h : Fault) → earlier (Some f) (cond t (Some g) (Some h)) ≡ cond t (earlier (Some f) (Some g)) (earlier (Some f) (Some h))
push_right true f g h = refl
push_right false f g h = refl

push_left : (t : Bool) (f g h : Fault) → earlier (cond t (Some f) (Some g)) (Some h) ≡ cond t (earlier (Some f) (Some h)) (earlier (Some g) (Some h))
push_left true f g h = refl
push_left false f g h = refl

none_right : (x : Option Fault) → earlier x None ≡ x
none_right None = refl
none_right (Some f) = refl

pub earlier_assoc : (x y z : Option Fault) → earlier x (earlier y z) ≡ earlier (earlier x y) z
earlier_assoc None y z = refl
earlier_assoc (Some f) None z = refl
earlier_assoc (Some f) (Some g) None = sym (none_right (earlier (Some f) (Some g)))
earlier_assoc (Some f) (Some g) (Some h) =
    push_right (nat_le (key g) (key h)) f g h ∙ (three f g h (key f) (key g) (key h) ∙ sym (push_left (nat_le (key f) (key g)) f g h))

pub first_of-append : (xs ys : List Fault) → first_of (xs ++ ys) ≡ earlier (first_of xs) (first_of ys)
first_of-append [] ys = refl
first_of-append (f ∷ xs) ys = ap (earlier (Some f)) (first_of-append xs ys) ∙ earlier_assoc (Some f) (first_of xs) (first_of ys)

pub ruleset appended = (first_of-append, earlier_assoc)

rank_small : (k : Kind) → rank k ≤ 3
rank_small numeral_fault = omega arith
rank_small exponent_fault = omega arith
rank_small unbound = omega arith
rank_small form = omega arith

-- the order of keys is that of places and kinds
by_key : (f g : Fault) → key f ≤ key g → NotAfter f g
by_key f g h =
    let a = rank_small f.kind in
    let b = rank_small g.kind in
    elim (places f.place g.place) [
      | inl l ↦ inl l
      | inr r ↦ elim r [ inl e ↦ inr (e, omega arith) | inr m ↦ absurd (omega arith) ]
    ]
  where
    places : (m n : ℕ) → (m < n) ⊎ ((m ≡ n) ⊎ (n < m))
    places m n = grind arith

some_first : (x : Fault) (o : Option Fault) (f : Fault) → earlier (Some x) o ≡ Some f
    → ((x ≡ f) × ((g : Fault) → o ≡ Some g → key f ≤ key g)) ⊎ ((o ≡ Some f) × (key f ≤ key x))
some_first x None f h = inl (cc, λ g e. absurd (cc))
some_first x (Some y) f h = by_test (nat_le (key x) (key y)) refl h
  where
    by_test : (t : Bool) → nat_le (key x) (key y) ≡ t → cond t (Some x) (Some y) ≡ Some f
        → ((x ≡ f) × ((g : Fault) → Some y ≡ Some g → key f ≤ key g)) ⊎ ((Some y ≡ Some f) × (key f ≤ key x))
    by_test true e k =
        let q : x ≡ f = cc in
        inl (q, λ g m. let p : y ≡ g = cc in let a = ap key q in let b = ap key p in let c : key x ≤ key y = grind (arith, nat_tests) in omega arith)
    by_test false e k =
        let q : y ≡ f = cc in let a = ap key q in let c : key y ≤ key x = grind (arith, nat_tests) in inr (k, omega arith)

one_first : (x : Fault) (o : Option Fault) → (f : Fault) × (earlier (Some x) o ≡ Some f)
one_first x None = (x, refl)
one_first x (Some y) = by_test (nat_le (key x) (key y))
  where
    by_test : (t : Bool) → (f : Fault) × (cond t (Some x) (Some y) ≡ Some f)
    by_test true = (x, refl)
    by_test false = (y, refl)

some_of : (all : List Fault) (g : Fault) → IsOneOf g all → (f : Fault) × (first_of all ≡ Some f)
some_of [] g i = elim i [ ]
some_of (x ∷ xs) g i = one_first x (first_of xs)

through : (a b c : ℕ) → a ≤ b → b ≤ c → a ≤ c
through a b c h k = omega arith

same_below : (f g : Fault) → g ≡ f → key f ≤ key g
same_below f g e = let a = ap key e in omega arith

below_all : (all : List Fault) (g : Fault) → IsOneOf g all → (f : Fault) → first_of all ≡ Some f → key f ≤ key g
below_all [] g i f h = elim i [ ]
below_all (x ∷ xs) g first f h = elim (some_first g (first_of xs) f h) [ inl a ↦ same_below f g a.0 | inr a ↦ a.1 ]
below_all (x ∷ xs) g (later i) f h = elim (some_first x (first_of xs) f h) [
  | inl a ↦ let (k, e) = some_of xs g i in through (key f) (key k) (key g) (a.1 k e) (below_all xs g i k e)
  | inr a ↦ below_all xs g i f a.0
]

one_of : (all : List Fault) (f : Fault) → first_of all ≡ Some f → IsOneOf f all
one_of [] f h = absurd (cc)
one_of (x ∷ xs) f h = elim (some_first x (first_of xs) f h) [
  | inl a ↦ subst (λ q. IsOneOf q (x ∷ xs)) a.0 first
  | inr a ↦ later (one_of xs f a.0)
]

pub first_is : (all : List Fault) (f : Fault) → first_of all ≡ Some f → IsFirst f all
first_is all f h = record { found = one_of all f h; least = λ g i. by_key f g (below_all all g i f h) }

no_first : (x : Fault) (o : Option Fault) → earlier (Some x) o ≡ None → ⊥
no_first x o h = let (f, e) = one_first x o in cc

pub none_is : (all : List Fault) → first_of all ≡ None → all ≡ []
none_is [] h = refl
none_is (x ∷ xs) h = absurd (no_first x (first_of xs) h)
