-- The parts and their bounds, tried by hand.
use Rattle.std.specs.Prelude.{pos, negsuc, [], ◌∷◌, map, ℤ, List, ℕ}
use Rattle.std.proofs.Common.{◌≡◌, refl}
use Rattle.sg_spec.specs.Tree.{Tree, numeral, here, param, neg, add, mul, div, power, sum_from, prod_from}
use Rattle.sg_spec.specs.Polynomials.{weight}
use Rattle.sg_spec.specs.Parts.{Part, anywhere, divides, is_body, parts, numer, coefficients, leading, cauchy}

abbrev minus : Tree → ℕ → Tree
minus t n = add t (neg (numeral (pos n)))

abbrev trees : Tree → List Tree
trees t = map (λ (p : Part). p.tree) (parts anywhere (pos 1) 0 t)

abbrev limits : Tree → List ℤ
limits t = map (λ (p : Part). p.limit) (parts anywhere (pos 1) 0 t)

abbrev depths : Tree → List ℕ
depths t = map (λ (p : Part). p.depth) (parts anywhere (pos 1) 0 t)

-- 1/(k*(k-3)^2) has the divisor parts k and k-3
parts-divisor : trees (div (numeral (pos 1)) (mul here (power (minus here 3) 2))) ≡ here ∷ (minus here 3 ∷ [])
parts-divisor = refl

-- prod(j,0,k,j-3+1/(j-5)): the whole body first, then its divisor, both from 0 on and in the first scope inside
parts-body : trees (prod_from (pos 0) (add (minus here 3) (div (numeral (pos 1)) (minus here 5)))) ≡ add (minus here 3) (div (numeral (pos 1)) (minus here 5)) ∷ (minus here 5 ∷ [])
parts-body = refl

limits-body : limits (prod_from (pos 0) (add (minus here 3) (div (numeral (pos 1)) (minus here 5)))) ≡ pos 0 ∷ (pos 0 ∷ [])
limits-body = refl

depths-body : depths (div (sum_from (pos 0) (div (numeral (pos 1)) here)) here) ≡ 1 ∷ (0 ∷ [])
depths-body = refl

-- a product has no part of its own as a divisor; its body has one, at its own limit
limits-product : limits (div (numeral (pos 1)) (prod_from (negsuc 1) here)) ≡ negsuc 1 ∷ []
limits-product = refl

-- the denominator of a body is no zero part, but a divisor
roles-denominator : map (λ (p : Part). p.role) (parts anywhere (pos 1) 0 (prod_from (pos 0) (div here (minus here 1)))) ≡ is_body ∷ (divides ∷ [])
roles-denominator = refl

-- under ^0 no part of the divisor itself
parts-zeroth : trees (div (numeral (pos 1)) (power here 0)) ≡ []
parts-zeroth = refl

-- k-k is the zero polynomial
leading-zero : leading (coefficients (add here (neg here))) ≡ []
leading-zero = refl

-- j-3+1/(j-5) stands for (j-3)(j-5)+1 = j^2-8j+16
coefficients-numer : coefficients (numer (add (minus here 3) (div (numeral (pos 1)) (minus here 5)))) ≡ (pos 16 ∷ (negsuc 7 ∷ (pos 1 ∷ []))) ∷ []
coefficients-numer = refl

-- (k-2)n+3k has the coefficients 3k and k-2 in n
coefficients-param : coefficients (add (mul (minus here 2) param) (mul (numeral (pos 3)) here)) ≡ (pos 0 ∷ (pos 3 ∷ [])) ∷ ((negsuc 1 ∷ (pos 1 ∷ [])) ∷ [])
coefficients-param = refl

-- of k-5000 it is 5001, of 2k-9 it is 6, of a constant 1; with the parameter that of the coefficient of its highest power
cauchy-far : cauchy (leading (coefficients (minus here 5000))) ≡ 5001
cauchy-far = refl

cauchy-up : cauchy (leading (coefficients (minus (mul (numeral (pos 2)) here) 9))) ≡ 6
cauchy-up = refl

cauchy-constant : cauchy (leading (coefficients (numeral (pos 7)))) ≡ 1
cauchy-constant = refl

cauchy-param : cauchy (leading (coefficients (add param (minus here 5000)))) ≡ 1
cauchy-param = refl

-- 4095 is near, 4096 is far
cauchy-edge : cauchy (leading (coefficients (minus here 4095))) ≡ 4096
cauchy-edge = refl

weight-body : weight (numer (add (minus here 3) (div (numeral (pos 1)) (minus here 5)))) ≡ 25
weight-body = refl
