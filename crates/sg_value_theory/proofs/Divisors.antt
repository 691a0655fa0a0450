-- What may be divided by, by cases, with its products listed.
--   IsPolynomial     built from numerals, the variable, the parameter, sums, products, opposites and powers of such
--   IsDivisor ps     a polynomial, a listed product, and powers, products and opposites of divisors
--   listed_divisor   what the test on trees takes for a divisor, built over listed products, is one
use Rattle.std.proofs.Common.{refl, sym, List, Contains, Bool, true, false, ◌&&◌, true≢false, IsTrue}
use Rattle.sg_spec.specs.Shape.{is_polynomial_tree, is_divisor_tree}
use Rattle.sg_spec.specs.Generators.{BuiltOver}
use Rattle.sg_spec.specs.Tree.{Tree, numeral, here, param, add, neg, mul, div, power, sum_from, prod_from}

both_true : (a b : Bool) → IsTrue (a && b) → IsTrue a × IsTrue b
both_true true true h = (refl, refl)
both_true true false h = absurd (true≢false (sym h))
both_true false b h = absurd (true≢false (sym h))

abbrev pub IsPolynomial : Tree → Type 0
IsPolynomial (numeral c) = Unit {0}
IsPolynomial here = Unit {0}
IsPolynomial param = Unit {0}
IsPolynomial (add x y) = IsPolynomial x × IsPolynomial y
IsPolynomial (neg x) = IsPolynomial x
IsPolynomial (mul x y) = IsPolynomial x × IsPolynomial y
IsPolynomial (div x y) = ⊥
IsPolynomial (power x e) = IsPolynomial x
IsPolynomial (sum_from from body) = ⊥
IsPolynomial (prod_from from body) = ⊥

-- a mul, neg or power is one by its parts, or as a polynomial
abbrev pub IsDivisor : List Tree → Tree → Type 0
IsDivisor ps (numeral c) = Unit {0}
IsDivisor ps here = Unit {0}
IsDivisor ps param = Unit {0}
IsDivisor ps (add x y) = IsPolynomial x × IsPolynomial y
IsDivisor ps (neg x) = IsDivisor ps x
IsDivisor ps (mul x y) = IsDivisor ps x × IsDivisor ps y
IsDivisor ps (div x y) = ⊥
IsDivisor ps (power x e) = IsDivisor ps x
IsDivisor ps (sum_from from body) = ⊥
IsDivisor ps (prod_from from body) = Contains ps (prod_from from body)

polynomial_of : (y : Tree) → IsTrue (is_polynomial_tree y) → IsPolynomial y
polynomial_of (numeral c) h = tt
polynomial_of here h = tt
polynomial_of param h = tt
polynomial_of (add x y) h = let r = both_true (is_polynomial_tree x) (is_polynomial_tree y) h in (polynomial_of x r.0, polynomial_of y r.1)
polynomial_of (neg x) h = polynomial_of x h
polynomial_of (mul x y) h = let r = both_true (is_polynomial_tree x) (is_polynomial_tree y) h in (polynomial_of x r.0, polynomial_of y r.1)
polynomial_of (div x y) h = absurd (true≢false (sym h))
polynomial_of (power x e) h = polynomial_of x h
polynomial_of (sum_from a b) h = absurd (true≢false (sym h))
polynomial_of (prod_from a b) h = absurd (true≢false (sym h))

-- a divisor that is built over listed products is one over these
pub listed_divisor : (ps ss : List Tree) (y : Tree) → BuiltOver (record { parameter = false; products = ps; sums = ss }) y → IsTrue (is_divisor_tree y) → IsDivisor ps y
listed_divisor ps ss (numeral c) o h = tt
listed_divisor ps ss here o h = tt
listed_divisor ps ss param o h = tt
listed_divisor ps ss (add x y) o h = let r = both_true (is_polynomial_tree x) (is_polynomial_tree y) h in (polynomial_of x r.0, polynomial_of y r.1)
listed_divisor ps ss (neg x) o h = listed_divisor ps ss x o h
listed_divisor ps ss (mul x y) o h = let r = both_true (is_divisor_tree x) (is_divisor_tree y) h in (listed_divisor ps ss x o.0 r.0, listed_divisor ps ss y o.1 r.1)
listed_divisor ps ss (div x y) o h = absurd (true≢false (sym h))
listed_divisor ps ss (power x e) o h = listed_divisor ps ss x o h
listed_divisor ps ss (sum_from a b) o h = absurd (true≢false (sym h))
listed_divisor ps ss (prod_from a b) o h = o
