-- Data: fractions, and quotients of polynomials over data, to any depth. A datum is a finite tree of whole numbers of any size.
--   Datum d               at depth 0 a fraction; at depth d + 1 two lists of data of depth d, the coefficients of a numerator and of a denominator
--   zero_datum, one_datum     0 and 1
--   entry d p n           the coefficient at n; past the end 0
--   operations d          the schoolbook sum, difference, product and quotient; what is divided by isn't 0
--   SameDatum d x y       x and y are equal: their two cross products have equal coefficients, missing ones being 0
--   Valid d x             each fraction has a denominator of at least 1, and some coefficient of each denominator isn't equal to 0
use Rattle.std.specs.Prelude.{ℕ, zero, suc, ◌<◌, List, [], ◌∷◌, map, get_or, pos}
use Rattle.sg_algebra.specs.Fraction.{Fraction, Same, whole, plus, minus, times, over}
use Rattle.sg_algebra.specs.Coefficients.{zip_longest, conv, Each}

abbrev pub Datum : ℕ → Type 0
Datum zero = Fraction
Datum (suc d) = List (Datum d) × List (Datum d)

abbrev pub one_datum : (d : ℕ) → Datum d
one_datum zero = whole (pos 1)
one_datum (suc d) = (one_datum d ∷ [], one_datum d ∷ [])

abbrev pub zero_datum : (d : ℕ) → Datum d
zero_datum zero = whole (pos 0)
zero_datum (suc d) = ([], one_datum d ∷ [])

abbrev pub entry : (d : ℕ) → List (Datum d) → ℕ → Datum d
entry d p n = get_or p n (zero_datum d)

pub record Operations (B : Type 0) : Type 0 where
  pub add : B → B → B
  pub sub : B → B → B
  pub mul : B → B → B
  pub div : B → B → B

-- sum, difference and product of lists of coefficients
abbrev pub sum_list : {B : Type 0} → Operations B → List B → List B → List B
sum_list o p q = zip_longest o.add p q

abbrev pub difference_list : {B : Type 0} → Operations B → B → List B → List B → List B
difference_list o z p q = zip_longest o.add p (map (o.sub z) q)

abbrev pub product_list : {B : Type 0} → Operations B → B → List B → List B → List B
product_list o z p q = conv o.add o.mul z p q

-- p/q + r/s = (p s + r q) / (q s), and so on
abbrev pub quotient_operations : {B : Type 0} → Operations B → B → Operations (List B × List B)
quotient_operations o z = record {
  add = λ x y. (sum_list o (product_list o z x.0 y.1) (product_list o z y.0 x.1), product_list o z x.1 y.1);
  sub = λ x y. (difference_list o z (product_list o z x.0 y.1) (product_list o z y.0 x.1), product_list o z x.1 y.1);
  mul = λ x y. (product_list o z x.0 y.0, product_list o z x.1 y.1);
  div = λ x y. (product_list o z x.0 y.1, product_list o z x.1 y.0);
}

abbrev pub operations : (d : ℕ) → Operations (Datum d)
operations zero = record { add = plus; sub = minus; mul = times; div = over }
operations (suc d) = quotient_operations (operations d) (zero_datum d)

abbrev pub SameDatum : (d : ℕ) → Datum d → Datum d → Type 0
SameDatum zero x y = Same x y
SameDatum (suc d) x y = (n : ℕ) → SameDatum d (entry d (product_list (operations d) (zero_datum d) x.0 y.1) n) (entry d (product_list (operations d) (zero_datum d) y.0 x.1) n)

abbrev pub Valid : (d : ℕ) → Datum d → Type 0
Valid zero x = 0 < x.den
Valid (suc d) x = Each (Valid d) x.0 × Each (Valid d) x.1 × ((n : ℕ) × ¬ SameDatum d (entry d x.1 n) (zero_datum d))
