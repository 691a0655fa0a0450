-- What it means for a tree to have no fault within the bounds.
--   is_steady         tests of 128-bit bounds don't tell capped numbers apart
--   FitsTree-faults   without fault all numbers fit
--   faults-unlimited  without fault within limits there is none without limits
use Rattle.std.specs.Prelude.{◌≡◌, ◌==◌, ℕ, ◌^◌, ◌≤◌, ◌<◌, nat_le, not, ◌&&◌, Bool, true, false, List, [], ◌∷◌, ◌++◌, ℤ, pos, negsuc}
use Rattle.std.proofs.Common.{refl, ap, ◌∙◌, arith}
use Rattle.std.proofs.lemmas.Bool.Decides.{nat_tests}
use Rattle.sg_spec.specs.Syntax.{Spot, Placed, number, named, negated, added, subtracted, multiplied, divided, raised, sum_call, product_call, harmonic, harmonic_of_order, factorial, binomial, constant_power}
use Rattle.sg_spec.specs.Reading.{Kind, numeral_fault, exponent_fault, form, Fault, Limits, unlimited, fault_unless, is_small, is_variable, is_parameter, is_divisor, is_constant, call_faults, bound_faults, inside, faults}
use Rattle.sg_syntax.specs.Drafts.{capped}
use Rattle.sg_text.specs.Limited.{is_within}
use Rattle.sg_text.specs.Fits.{FitsTree}

pub is_within-capped : (z : ℤ) (n : ℕ) → is_within z (2 ^ 128) ≡ false → is_within z (capped n) ≡ is_within z n
is_within-capped (pos m) n h = grind (arith, nat_tests)
is_within-capped (negsuc m) n h = refl

pub at_most-capped : (m n : ℕ) → m < 2 ^ 128 → nat_le (capped n) m ≡ nat_le n m
at_most-capped m n h = grind (arith, nat_tests)

empty_left : {A : Type 0} (xs ys : List A) → xs ++ ys ≡ [] → xs ≡ []
empty_left [] ys h = refl
empty_left (x ∷ xs) ys h = absurd (cc)

empty_right : {A : Type 0} (xs ys : List A) → xs ++ ys ≡ [] → ys ≡ []
empty_right [] ys h = h
empty_right (x ∷ xs) ys h = absurd (cc)

both_empty : {A : Type 0} (xs ys : List A) → xs ≡ [] → ys ≡ [] → xs ++ ys ≡ []
both_empty xs ys h k = ap (λ q. q ++ ys) h ∙ k

test_holds : (t : Bool) (kind : Kind) (place : ℕ) → fault_unless t kind place ≡ [] → t ≡ true
test_holds true kind place h = refl
test_holds false kind place h = absurd (cc)

and_right : (a b : Bool) → (a && b) ≡ true → b ≡ true
and_right true b h = h
and_right false b h = absurd (cc)

and_left : (a b : Bool) → (a && b) ≡ true → a ≡ true
and_left true b h = refl
and_left false b h = absurd (cc)

-- limits that keep to the numbers of 128 bits
pub record Fit128 (limits : Limits) : Type 0 where
  pub numeral : (n : ℕ) → limits.numeral n ≡ true → n < 2 ^ 127
  pub exponent : (n : ℕ) → limits.exponent n ≡ true → n < 2 ^ 128

small_is : (n : ℕ) → is_small n ≡ true → n ≤ 1000
small_is n h = grind (arith, nat_tests)

-- of a sum or product: the lower limit is small, and its number is taken
module _ (limits : Limits) (p : Bool) (names : List ℕ) (c bound sign lower upper : Spot) where
  abbrev call_part : List Fault
  call_part = fault_unless (not p) form c.place

  abbrev bound_part : List Fault
  bound_part = fault_unless (not (is_parameter names bound.value)) form bound.place

  abbrev sign_part : List Fault
  sign_part = fault_unless (is_small lower.value) form sign.place

  abbrev lower_part : List Fault
  lower_part = fault_unless (limits.numeral lower.value) numeral_fault lower.place

  abbrev upper_part : List Fault
  upper_part = fault_unless (is_variable names upper.value) form upper.place

  small_lower : bound_faults limits p names c bound sign lower upper ≡ [] → lower.value ≤ 1000
  small_lower h =
      let a = empty_left ((call_part ++ bound_part) ++ sign_part) lower_part (empty_left (((call_part ++ bound_part) ++ sign_part) ++ lower_part) upper_part h) in
      small_is lower.value (test_holds (is_small lower.value) form sign.place (empty_right (call_part ++ bound_part) sign_part a))

  unlimited_head : bound_faults limits p names c bound sign lower upper ≡ [] → bound_faults unlimited p names c bound sign lower upper ≡ []
  unlimited_head h =
      let a = empty_left ((call_part ++ bound_part) ++ sign_part) lower_part (empty_left (((call_part ++ bound_part) ++ sign_part) ++ lower_part) upper_part h) in
      let b = empty_right (((call_part ++ bound_part) ++ sign_part) ++ lower_part) upper_part h in
      both_empty (((call_part ++ bound_part) ++ sign_part) ++ []) upper_part (both_empty ((call_part ++ bound_part) ++ sign_part) [] a refl) b

pub FitsTree-faults : (limits : Limits) → Fit128 limits → (p : Bool) (names : List ℕ) (t : Placed) → faults limits p names t ≡ [] → FitsTree t
FitsTree-faults limits k p names (number s) h = k.numeral s.value (test_holds (limits.numeral s.value) numeral_fault s.place h)
FitsTree-faults limits k p names (named s) h = tt
FitsTree-faults limits k p names (negated x) h = FitsTree-faults limits k p names x h
FitsTree-faults limits k p names (added x y) h =
    (FitsTree-faults limits k p names x (empty_left (faults limits p names x) (faults limits p names y) h), FitsTree-faults limits k p names y (empty_right (faults limits p names x) (faults limits p names y) h))
FitsTree-faults limits k p names (subtracted x y) h =
    (FitsTree-faults limits k p names x (empty_left (faults limits p names x) (faults limits p names y) h), FitsTree-faults limits k p names y (empty_right (faults limits p names x) (faults limits p names y) h))
FitsTree-faults limits k p names (multiplied x y) h =
    (FitsTree-faults limits k p names x (empty_left (faults limits p names x) (faults limits p names y) h), FitsTree-faults limits k p names y (empty_right (faults limits p names x) (faults limits p names y) h))
FitsTree-faults limits k p names (divided x s y) h = (
  FitsTree-faults limits k p names x (empty_left (faults limits p names x) (fault_unless (is_divisor names y) form s.place) (empty_left (faults limits p names x ++ fault_unless (is_divisor names y) form s.place) (faults limits p names y) h)),
  FitsTree-faults limits k p names y (empty_right (faults limits p names x ++ fault_unless (is_divisor names y) form s.place) (faults limits p names y) h),
)
FitsTree-faults limits k p names (raised x e) h = (
  FitsTree-faults limits k p names x (empty_left (faults limits p names x) (fault_unless (limits.exponent e.value) exponent_fault e.place) h),
  k.exponent e.value (test_holds (limits.exponent e.value) exponent_fault e.place (empty_right (faults limits p names x) (fault_unless (limits.exponent e.value) exponent_fault e.place) h)),
)
FitsTree-faults limits k p names (sum_call c bound sign lower upper body) h = (
  small_lower limits p names c bound sign lower upper (empty_left (bound_faults limits p names c bound sign lower upper) (faults limits p (inside bound.value names) body) h),
  FitsTree-faults limits k p (inside bound.value names) body (empty_right (bound_faults limits p names c bound sign lower upper) (faults limits p (inside bound.value names) body) h),
)
FitsTree-faults limits k p names (product_call c bound sign lower upper body) h = (
  small_lower limits p names c bound sign lower upper (empty_left (bound_faults limits p names c bound sign lower upper) (faults limits true (inside bound.value names) body) h),
  FitsTree-faults limits k true (inside bound.value names) body (empty_right (bound_faults limits p names c bound sign lower upper) (faults limits true (inside bound.value names) body) h),
)
FitsTree-faults limits k p names (harmonic c v) h = tt
FitsTree-faults limits k p names (harmonic_of_order c v r) h =
    k.exponent r.value (and_right (not (r.value == 0)) (limits.exponent r.value) (test_holds (not (r.value == 0) && limits.exponent r.value) exponent_fault r.place
    (empty_right (call_faults p names c v) (fault_unless (not (r.value == 0) && limits.exponent r.value) exponent_fault r.place) h)))
FitsTree-faults limits k p names (factorial c v) h = tt
FitsTree-faults limits k p names (binomial c s x v) h =
    FitsTree-faults limits k p names x (empty_right (call_faults p names c v ++ fault_unless (is_constant names x) form s.place) (faults limits p names x) h)
FitsTree-faults limits k p names (constant_power c x v) h = FitsTree-faults limits k p names x (empty_right (call_faults p names c v) (faults limits p names x) h)

pub faults-unlimited : (limits : Limits) (p : Bool) (names : List ℕ) (t : Placed) → faults limits p names t ≡ [] → faults unlimited p names t ≡ []
faults-unlimited limits p names (number s) h = refl
faults-unlimited limits p names (named s) h = h
faults-unlimited limits p names (negated x) h = faults-unlimited limits p names x h
faults-unlimited limits p names (added x y) h =
    both_empty (faults unlimited p names x) (faults unlimited p names y) (faults-unlimited limits p names x (empty_left (faults limits p names x) (faults limits p names y) h))
    (faults-unlimited limits p names y (empty_right (faults limits p names x) (faults limits p names y) h))
faults-unlimited limits p names (subtracted x y) h =
    both_empty (faults unlimited p names x) (faults unlimited p names y) (faults-unlimited limits p names x (empty_left (faults limits p names x) (faults limits p names y) h))
    (faults-unlimited limits p names y (empty_right (faults limits p names x) (faults limits p names y) h))
faults-unlimited limits p names (multiplied x y) h =
    both_empty (faults unlimited p names x) (faults unlimited p names y) (faults-unlimited limits p names x (empty_left (faults limits p names x) (faults limits p names y) h))
    (faults-unlimited limits p names y (empty_right (faults limits p names x) (faults limits p names y) h))
faults-unlimited limits p names (divided x s y) h =
    let left = empty_left (faults limits p names x ++ fault_unless (is_divisor names y) form s.place) (faults limits p names y) h in
    both_empty (faults unlimited p names x ++ fault_unless (is_divisor names y) form s.place) (faults unlimited p names y)
    (both_empty (faults unlimited p names x) (fault_unless (is_divisor names y) form s.place)
    (faults-unlimited limits p names x (empty_left (faults limits p names x) (fault_unless (is_divisor names y) form s.place) left))
    (empty_right (faults limits p names x) (fault_unless (is_divisor names y) form s.place) left))
    (faults-unlimited limits p names y (empty_right (faults limits p names x ++ fault_unless (is_divisor names y) form s.place) (faults limits p names y) h))
faults-unlimited limits p names (raised x e) h =
    both_empty (faults unlimited p names x) [] (faults-unlimited limits p names x (empty_left (faults limits p names x) (fault_unless (limits.exponent e.value) exponent_fault e.place) h)) refl
faults-unlimited limits p names (sum_call c bound sign lower upper body) h =
    both_empty (bound_faults unlimited p names c bound sign lower upper) (faults unlimited p (inside bound.value names) body)
    (unlimited_head limits p names c bound sign lower upper (empty_left (bound_faults limits p names c bound sign lower upper) (faults limits p (inside bound.value names) body) h))
    (faults-unlimited limits p (inside bound.value names) body (empty_right (bound_faults limits p names c bound sign lower upper) (faults limits p (inside bound.value names) body) h))
faults-unlimited limits p names (product_call c bound sign lower upper body) h =
    both_empty (bound_faults unlimited p names c bound sign lower upper) (faults unlimited true (inside bound.value names) body)
    (unlimited_head limits p names c bound sign lower upper (empty_left (bound_faults limits p names c bound sign lower upper) (faults limits true (inside bound.value names) body) h))
    (faults-unlimited limits true (inside bound.value names) body (empty_right (bound_faults limits p names c bound sign lower upper) (faults limits true (inside bound.value names) body) h))
faults-unlimited limits p names (harmonic c v) h = h
faults-unlimited limits p names (harmonic_of_order c v r) h =
    let k = empty_right (call_faults p names c v) (fault_unless (not (r.value == 0) && limits.exponent r.value) exponent_fault r.place) h in
    let t = and_left (not (r.value == 0)) (limits.exponent r.value) (test_holds (not (r.value == 0) && limits.exponent r.value) exponent_fault r.place k) in
    both_empty (call_faults p names c v) (fault_unless (not (r.value == 0) && true) exponent_fault r.place)
    (empty_left (call_faults p names c v) (fault_unless (not (r.value == 0) && limits.exponent r.value) exponent_fault r.place) h)
    (ap (λ q. fault_unless (q && true) exponent_fault r.place) t)
faults-unlimited limits p names (factorial c v) h = h
faults-unlimited limits p names (binomial c s x v) h =
    both_empty (call_faults p names c v ++ fault_unless (is_constant names x) form s.place) (faults unlimited p names x)
    (empty_left (call_faults p names c v ++ fault_unless (is_constant names x) form s.place) (faults limits p names x) h)
    (faults-unlimited limits p names x (empty_right (call_faults p names c v ++ fault_unless (is_constant names x) form s.place) (faults limits p names x) h))
faults-unlimited limits p names (constant_power c x v) h =
    both_empty (call_faults p names c v) (faults unlimited p names x) (empty_left (call_faults p names c v) (faults limits p names x) h)
    (faults-unlimited limits p names x (empty_right (call_faults p names c v) (faults limits p names x) h))
