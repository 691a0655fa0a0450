-- Ranges and equations, tried on worked recurrences.
use Rattle.std.specs.Prelude.{pos, negsuc, [], ◌∷◌, ℤ, List, Some}
use Rattle.std.proofs.Common.{refl, ℕ, inl, inr, arith}
use Rattle.std.proofs.lemmas.Int.{ints}
use Rattle.sg_spec.specs.Fraction.{whole}
use Rattle.sg_spec.specs.Parts.{Plane}
use Rattle.sg_spec.specs.Tree.{Tree, numeral, here, param, neg, add, mul, div, power, sum_from, prod_from}
use Rattle.sg_spec.specs.Value.{SameValue}
use Rattle.sg_recurrence_theory.specs.Ranges.{KeepsAll, KeepsBelow, IsRange, below}
use Rattle.sg_recurrence_theory.specs.Recurrences.{left_side, right_side}

abbrev pub num : ℕ → Tree
num n = numeral (pos n)

abbrev less : Tree → Tree → Tree
less x y = add x (neg y)

-- binom(n,k)
abbrev pub binomial : Tree
binomial = prod_from (pos 1) (div (less (add param (num 1)) here) here)

-- ---- recur 1 0 binom(n,k): -2 f(n) + f(n+1), k*binom(n,k)/(k-n-1)

abbrev two_cs : List (List ℤ)
two_cs = (negsuc 1 ∷ []) ∷ ((pos 1 ∷ []) ∷ [])

abbrev two_g : Tree
two_g = div (mul here binomial) (less (less here param) (num 1))

-- k - n - 1
abbrev tops : Plane
tops = (negsuc 0 ∷ (negsuc 0 ∷ [])) ∷ ((pos 1 ∷ []) ∷ [])

two-left : SameValue (left_side two_cs binomial (pos 0) (pos 2) (pos 1)) (Some (whole (negsuc 1)))
two-left = refl

two-right : SameValue (right_side two_g (pos 0) (pos 2) (pos 1)) (Some (whole (negsuc 1)))
two-right = refl

-- u - n - 1 has coefficients of both signs; n = u + w leaves -w - 1
tops-all : KeepsAll (record { poly = (negsuc 0 ∷ (negsuc 0 ∷ [])) ∷ ((pos 1 ∷ []) ∷ []); limit = pos 0 }) → ⊥
tops-all (inl h) = omega (arith, ints, h.0.0.0)
tops-all (inr h) = omega (arith, ints, h.0.1.0)

abbrev Z : Type 0
Z = Unit {0}

tops-below : KeepsBelow (record { poly = (negsuc 0 ∷ (negsuc 0 ∷ [])) ∷ ((pos 1 ∷ []) ∷ []); limit = pos 0 })
tops-below = inr (((omega (arith, ints), (omega (arith, ints), tt)), ((omega (arith, ints), (omega (arith, ints), tt)), ((omega (arith, ints), tt), tt))), omega (arith, ints))

tops-range : IsRange below (record { poly = (negsuc 0 ∷ (negsuc 0 ∷ [])) ∷ ((pos 1 ∷ []) ∷ []); limit = pos 0 } ∷ [])
tops-range = (λ h. tops-all h.0, (tops-below, tt))

-- ---- recur 1 1 1/(k*(n+k)): -n f(n) + (n + 1) f(n+1), -1/(k+n)

abbrev quarter : Tree
quarter = div (num 1) (mul here (add param here))

abbrev quarter_cs : List (List ℤ)
quarter_cs = (pos 0 ∷ (negsuc 0 ∷ [])) ∷ ((pos 1 ∷ (pos 1 ∷ [])) ∷ [])

abbrev quarter_g : Tree
quarter_g = neg (div (num 1) (add here param))

quarter-left : SameValue (left_side ((pos 0 ∷ (negsuc 0 ∷ [])) ∷ ((pos 1 ∷ (pos 1 ∷ [])) ∷ [])) (div (numeral (pos 1)) (mul here (add param here))) (pos 1) (pos 1) (pos 1)) (Some (record { num = pos 1; den = 6 }))
quarter-left = refl

quarter-right : SameValue (right_side (neg (div (numeral (pos 1)) (add here param))) (pos 1) (pos 1) (pos 1)) (Some (record { num = pos 1; den = 6 }))
quarter-right = refl

-- 1 + u + n
quarter-first : KeepsAll (record { poly = (pos 0 ∷ (pos 1 ∷ [])) ∷ ((pos 1 ∷ []) ∷ []); limit = pos 1 })
quarter-first = inl (((omega (arith, ints), (omega (arith, ints), tt)), ((omega (arith, ints), tt), ((omega (arith, ints), tt), tt))), omega (arith, ints))

-- ---- recur 4 0 binom(n,k)^2, at n = 1 and N = 0

square-left : SameValue (left_side ((negsuc 1 ∷ (negsuc 3 ∷ [])) ∷ ((pos 1 ∷ (pos 1 ∷ [])) ∷ [])) (power binomial 2) (pos 0) (pos 1) (pos 0)) (Some (whole (negsuc 3)))
square-left = refl

-- (2*k^3-3*k^2*n-3*k^2)*binom(n,k)^2/(k^2-2*k*n-2*k+n^2+2*n+1)
abbrev square_g : Tree
square_g = div (mul (less (less (mul (num 2) (power here 3)) (mul (mul (num 3) (power here 2)) param)) (mul (num 3) (power here 2))) (power binomial 2))
    (add (add (add (less (less (power here 2) (mul (mul (num 2) here) param)) (mul (num 2) here)) (power param 2)) (mul (num 2) param)) (num 1))

square-right : SameValue (right_side square_g (pos 0) (pos 1) (pos 0)) (Some (whole (negsuc 3)))
square-right = refl

-- ---- recur 0 0 prod(j,1,k,(j-n-1)/j), at n = 2 and N = 0: both sides are 1; the divisor n from 0 on keeps neither

abbrev pub signed : Tree
signed = prod_from (pos 1) (div (less (less here param) (num 1)) here)

signed-left : SameValue (left_side ((pos 1 ∷ []) ∷ []) signed (pos 0) (pos 2) (pos 0)) (Some (whole (pos 1)))
signed-left = refl

signed-right : SameValue (right_side (div (neg (mul here signed)) param) (pos 0) (pos 2) (pos 0)) (Some (whole (pos 1)))
signed-right = refl

letter-all : KeepsAll (record { poly = (pos 0 ∷ (pos 1 ∷ [])) ∷ []; limit = pos 0 }) → ⊥
letter-all (inl h) = omega (arith, ints, h.1)
letter-all (inr h) = omega (arith, ints, h.1)

letter-below : KeepsBelow (record { poly = (pos 0 ∷ (pos 1 ∷ [])) ∷ []; limit = pos 0 }) → ⊥
letter-below (inl h) = omega (arith, ints, h.1)
letter-below (inr h) = omega (arith, ints, h.1)

-- ---- recur 1 1 0*sum(j,1,k,1/(j^2+n))+1/((k+1)^2+n+1), at n = 0 and N = 1: the last polynomial is 0

abbrev nested : Tree
nested = add (mul (num 0) (sum_from (pos 1) (div (num 1) (add (power here 2) param)))) (div (num 1) (add (add (power (add here (num 1)) 2) param) (num 1)))

nested-left : SameValue (left_side ((pos 1 ∷ []) ∷ ([] ∷ [])) nested (pos 1) (pos 0) (pos 1)) (Some (record { num = pos 1; den = 5 }))
nested-left = refl

nested-right : SameValue (right_side (sum_from (pos 1) (div (num 1) (add (power here 2) (add param (num 1))))) (pos 1) (pos 0) (pos 1)) (Some (record { num = pos 1; den = 5 }))
nested-right = refl
