-- Polynomials in the variable with whole coefficients, the highest first, over one denominator, as trees.
--   monomial c e         c times the e-th power of the variable; a factor 1 and an exponent 1 aren't written, nor is the power with exponent 0
--   term c e             the term of the degree e with the coefficient c, which isn't 0
--   with_term            a sum with one more term, by its sign; a term 0 isn't written
--   numerator            the sum of the terms with these coefficients
--   leads_below_zero     the highest coefficient that isn't 0 is below 0
--   canonical            the tree of the polynomial with these coefficients over this denominator
--   falling_value cs x   the value at x of the polynomial with these coefficients
use Rattle.std.specs.Prelude.{ℕ, zero, suc, ℤ, pos, negsuc, neg_ℤ, Bool, true, false, cond, ◌==◌, List, [], ◌∷◌, length, map}
use Rattle.sg_algebra.proofs.Ring.{pow}
use Rattle.sg_algebra.proofs.Rational.{whole_value}
use Rattle.sg_algebra.proofs.Value.{Value, ◌+ᵛ◌, ◌*ᵛ◌, zero_value}
use Rattle.sg_algebra.proofs.ValueField.{ValueR}
use Rattle.sg_spec.specs.Tree.{Tree, numeral, here, add, neg, mul, div, power}

abbrev pub variable_power : ℕ → Tree
variable_power zero = numeral (pos 1)
variable_power (suc zero) = here
variable_power (suc (suc e)) = power here (suc (suc e))

-- the coefficient isn't 0
abbrev pub monomial : ℕ → ℕ → Tree
monomial c zero = numeral (pos c)
monomial c (suc e) = cond (c == 1) (variable_power (suc e)) (mul (numeral (pos c)) (variable_power (suc e)))

abbrev pub term : ℤ → ℕ → Tree
term (pos c) e = monomial c e
term (negsuc c) e = neg (monomial (suc c) e)

abbrev pub with_term : Tree → ℤ → ℕ → Tree
with_term t (pos zero) e = t
with_term t (pos (suc c)) e = add t (monomial (suc c) e)
with_term t (negsuc c) e = add t (neg (monomial (suc c) e))

abbrev pub with_terms : Tree → List ℤ → Tree
with_terms t [] = t
with_terms t (c ∷ cs) = with_terms (with_term t c (length cs)) cs

abbrev pub numerator : List ℤ → Tree
numerator [] = numeral (pos 0)
numerator (pos zero ∷ cs) = numerator cs
numerator (pos (suc c) ∷ cs) = with_terms (monomial (suc c) (length cs)) cs
numerator (negsuc c ∷ cs) = with_terms (neg (monomial (suc c) (length cs))) cs

abbrev pub leads_below_zero : List ℤ → Bool
leads_below_zero [] = false
leads_below_zero (pos zero ∷ cs) = leads_below_zero cs
leads_below_zero (pos (suc c) ∷ cs) = false
leads_below_zero (negsuc c ∷ cs) = true

-- over 1 each term has its own sign; over another denominator one sign stands before the quotient
abbrev pub canonical : List ℤ → ℕ → Tree
canonical cs d =
    cond (d == 1) (numerator cs)
    (cond (leads_below_zero cs) (neg (div (numerator (map neg_ℤ cs)) (numeral (pos d)))) (div (numerator cs) (numeral (pos d))))

abbrev pub falling_value : List ℤ → Value 0 → Value 0
falling_value [] x = zero_value
falling_value (c ∷ cs) x = whole_value 0 c *ᵛ pow (ValueR 0) x (length cs) +ᵛ falling_value cs x
