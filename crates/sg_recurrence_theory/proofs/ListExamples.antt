-- The lists of divisors of worked recurrences.
use Rattle.std.specs.Prelude.{pos, negsuc, [], ◌∷◌, ℤ, List, map}
use Rattle.std.proofs.Common.{◌≡◌, refl}
use Rattle.sg_spec.specs.Parts.{Plane, Part, coefficients, numer}
use Rattle.sg_spec.specs.Tree.{numeral, here, param, neg, add, mul, div, power, prod_from}
use Rattle.sg_answers_theory.specs.Recurrences.{shifts}
use Rattle.sg_recurrence_theory.specs.Listing.{listed, divisor_parts, zero_parts, standing_below, turned}

abbrev limits : List Part → List ℤ
limits ps = map (λ (p : Part). p.limit) ps

abbrev planes : List Part → List Plane
planes ps = map (λ (p : Part). turned (coefficients (numer p.tree))) ps

-- 1/(k*(n+k)) at n and at n + 1: k, n + k, k, n + 1 + k, each from 1
quarter-planes : planes (divisor_parts (pos 1) (shifts 1 (div (numeral (pos 1)) (mul here (add param here)))))
    ≡ ((pos 0 ∷ []) ∷ ((pos 1 ∷ []) ∷ [])) ∷ (((pos 0 ∷ (pos 1 ∷ [])) ∷ ((pos 1 ∷ []) ∷ [])) ∷ (((pos 0 ∷ []) ∷ ((pos 1 ∷ []) ∷ [])) ∷ (((pos 1 ∷ (pos 1 ∷ [])) ∷ ((pos 1 ∷ []) ∷ [])) ∷ [])))
quarter-planes = refl

quarter-limits : limits (divisor_parts (pos 1) (shifts 1 (div (numeral (pos 1)) (mul here (add param here))))) ≡ pos 1 ∷ (pos 1 ∷ (pos 1 ∷ (pos 1 ∷ [])))
quarter-limits = refl

-- without the parameter it isn't listed; the denominators of the right side are listed once, with the least limit
quarter-list : listed (record { poly = [] ∷ ((pos 1 ∷ []) ∷ []); limit = pos 1 } ∷ (record { poly = (pos 0 ∷ (pos 1 ∷ [])) ∷ ((pos 1 ∷ []) ∷ []); limit = pos 1 }
    ∷ (record { poly = [] ∷ ((pos 1 ∷ []) ∷ []); limit = pos 1 } ∷ (record { poly = (pos 1 ∷ (pos 1 ∷ [])) ∷ ((pos 1 ∷ []) ∷ []); limit = pos 1 } ∷ (record { poly = (pos 0 ∷ (pos 1 ∷ [])) ∷ ((pos 1 ∷ []) ∷ []); limit = negsuc 0 } ∷ [])))))
    ≡ record { poly = (pos 0 ∷ (pos 1 ∷ [])) ∷ ((pos 1 ∷ []) ∷ []); limit = negsuc 0 } ∷ (record { poly = (pos 1 ∷ (pos 1 ∷ [])) ∷ ((pos 1 ∷ []) ∷ []); limit = pos 1 } ∷ [])
quarter-list = refl

-- 1/binom(n,k): the product stands below; it doesn't in k*binom(n,k)
below-one : standing_below (div (numeral (pos 1)) (prod_from (pos 1) (div (add (add param (numeral (pos 1))) (neg here)) here)) ∷ []) [] [] [] ≡ prod_from (pos 1) (div (add (add param (numeral (pos 1))) (neg here)) here) ∷ []
below-one = refl

below-none : standing_below (mul here (prod_from (pos 1) (div (add (add param (numeral (pos 1))) (neg here)) here)) ∷ []) [] [] [] ≡ []
below-none = refl

-- nor under ^0
below-zeroth : standing_below (div (numeral (pos 1)) (power (prod_from (pos 1) here) 0) ∷ []) [] [] [] ≡ []
below-zeroth = refl

-- nor where it has a positive exponent in the right side, and it does with a negative one
below-right : standing_below (prod_from (pos 1) here ∷ []) (prod_from (pos 1) here ∷ []) [] (record { powers = []; exponents = negsuc 0 ∷ []; upper = []; lower = [] } ∷ []) ≡ prod_from (pos 1) here ∷ []
below-right = refl

-- the zero part of binom(n,k): n + 1 - j, from 1
zeros-binomial : planes (zero_parts (prod_from (pos 1) (div (add (add param (numeral (pos 1))) (neg here)) here) ∷ [])) ≡ ((pos 1 ∷ (pos 1 ∷ [])) ∷ ((negsuc 0 ∷ []) ∷ [])) ∷ []
zeros-binomial = refl
