-- What may not be 0: the parts of divisors, and the zero parts of the bodies of products.
--   Role                 how a tree stands: somewhere, as a divisor, as the body of a product (or as a factor of one of these)
--   Part                 a part, with the lower limit of its scope's variable and its depth
--   parts                all parts in the order of the text, those inside of bodies and of powers with exponent 0 included
--   Ratio, ratio_of      the numerator and the denominator of a tree, without reducing
--   numer                what a part stands for: the numerator of its tree, which is a divisor part itself, up to factors 1
--   coefficients         the polynomial of a tree: a list over the powers of the parameter of lists over the powers of the variable, from the lowest
--   leading              the coefficient of the highest power of the parameter, without zeros at its end; none for the zero polynomial
--   cauchy               Cauchy's bound; no whole number above it in size is a root
--   IsFar                the bound of the leading coefficient is above 4,096
--   IsZeroAt             a part is 0 at a whole number at or above its limit, whatever the parameter is
--   IsHeavy              its weight is above 2^126
use Rattle.std.specs.Prelude.{ℕ, zero, suc, ◌+◌, ◌-◌, ◌/◌, ◌^◌, ◌<◌, max, ℤ, pos, negsuc, neg_ℤ, ◌+ℤ◌, ◌*ℤ◌, ◌≤ℤ◌, unsigned_abs, List, [], ◌∷◌, ◌++◌, map, Some}
use Rattle.sg_algebra.specs.Coefficients.{zip_longest, conv}
use Rattle.sg_spec.specs.Fraction.{whole}
use Rattle.sg_spec.specs.Tree.{Tree, numeral, here, param, add, neg, mul, div, power, sum_from, prod_from}
use Rattle.sg_spec.specs.Value.{val, SameValue}
use Rattle.sg_spec.specs.Polynomials.{weight}

pub data Role : Type 0 where
  anywhere : Role
  divides : Role
  is_body : Role

pub record Part : Type 0 where
  pub role : Role
  pub tree : Tree
  pub limit : ℤ
  pub depth : ℕ

-- the part itself stands before those inside of it
abbrev pub own_part : Role → ℤ → ℕ → Tree → List Part → List Part
own_part anywhere l d t inner = inner
own_part divides l d t inner = record { role = divides; tree = t; limit = l; depth = d } ∷ inner
own_part is_body l d t inner = record { role = is_body; tree = t; limit = l; depth = d } ∷ inner

abbrev pub parts : Role → ℤ → ℕ → Tree → List Part
parts r l d (numeral c) = own_part r l d (numeral c) []
parts r l d here = own_part r l d here []
parts r l d param = own_part r l d param []
parts r l d (add x y) = own_part r l d (add x y) (parts anywhere l d x ++ parts anywhere l d y)
parts r l d (neg x) = parts r l d x
parts r l d (mul x y) = parts r l d x ++ parts r l d y
parts r l d (div x y) = parts r l d x ++ parts divides l d y
parts r l d (power x zero) = parts anywhere l d x
parts r l d (power x (suc e)) = parts r l d x
parts r l d (sum_from from body) = parts anywhere from (suc d) body
parts r l d (prod_from from body) = parts is_body from (suc d) body

pub record Ratio : Type 0 where
  pub over : Tree
  pub under : Tree

abbrev pub ratio_sum : Ratio → Ratio → Ratio
ratio_sum x y = record { over = add (mul x.over y.under) (mul y.over x.under); under = mul x.under y.under }

abbrev pub ratio_product : Ratio → Ratio → Ratio
ratio_product x y = record { over = mul x.over y.over; under = mul x.under y.under }

abbrev pub turned : Ratio → Ratio
turned x = record { over = x.under; under = x.over }

abbrev pub ratio_of : Tree → Ratio
ratio_of (numeral c) = record { over = numeral c; under = numeral (pos 1) }
ratio_of here = record { over = here; under = numeral (pos 1) }
ratio_of param = record { over = param; under = numeral (pos 1) }
ratio_of (add x y) = ratio_sum (ratio_of x) (ratio_of y)
ratio_of (neg x) = record { over = neg (ratio_of x).over; under = (ratio_of x).under }
ratio_of (mul x y) = ratio_product (ratio_of x) (ratio_of y)
ratio_of (div x y) = ratio_product (ratio_of x) (turned (ratio_of y))
ratio_of (power x e) = record { over = power (ratio_of x).over e; under = power (ratio_of x).under e }
ratio_of (sum_from from body) = record { over = sum_from from body; under = numeral (pos 1) }
ratio_of (prod_from from body) = record { over = prod_from from body; under = numeral (pos 1) }

abbrev pub numer : Tree → Tree
numer t = (ratio_of t).over

abbrev pub Plane : Type 0
Plane = List (List ℤ)

abbrev pub plane_one : Plane
plane_one = (pos 1 ∷ []) ∷ []

abbrev pub plane_add : Plane → Plane → Plane
plane_add p q = zip_longest (zip_longest ◌+ℤ◌) p q

abbrev pub plane_mul : Plane → Plane → Plane
plane_mul p q = conv (zip_longest ◌+ℤ◌) (conv ◌+ℤ◌ ◌*ℤ◌ (pos 0)) [] p q

abbrev pub plane_neg : Plane → Plane
plane_neg p = map (map neg_ℤ) p

abbrev pub plane_power : Plane → ℕ → Plane
plane_power p zero = plane_one
plane_power p (suc e) = plane_mul p (plane_power p e)

-- of a polynomial; what is none counts as 0
abbrev pub coefficients : Tree → Plane
coefficients (numeral c) = (c ∷ []) ∷ []
coefficients here = (pos 0 ∷ (pos 1 ∷ [])) ∷ []
coefficients param = [] ∷ ((pos 1 ∷ []) ∷ [])
coefficients (add x y) = plane_add (coefficients x) (coefficients y)
coefficients (neg x) = plane_neg (coefficients x)
coefficients (mul x y) = plane_mul (coefficients x) (coefficients y)
coefficients (div x y) = []
coefficients (power x e) = plane_power (coefficients x) e
coefficients (sum_from from body) = []
coefficients (prod_from from body) = []

-- 0 before nothing is nothing
abbrev pub before : ℤ → List ℤ → List ℤ
before (pos zero) [] = []
before (pos (suc n)) [] = pos (suc n) ∷ []
before (negsuc n) [] = negsuc n ∷ []
before c (d ∷ q) = c ∷ (d ∷ q)

abbrev pub trimmed : List ℤ → List ℤ
trimmed [] = []
trimmed (c ∷ p) = before c (trimmed p)

abbrev pub later_or : List ℤ → List ℤ → List ℤ
later_or row [] = row
later_or row (c ∷ later) = c ∷ later

abbrev pub leading : Plane → List ℤ
leading [] = []
leading (row ∷ p) = later_or (trimmed row) (leading p)

-- the quotient, rounded up
abbrev pub ceiling : ℕ → ℕ → ℕ
ceiling m n = (m + n - 1) / n

-- with the greatest size of the earlier coefficients
abbrev pub cauchy_from : ℕ → List ℤ → ℕ
cauchy_from m [] = 0
cauchy_from m (c ∷ []) = 1 + ceiling m (unsigned_abs c)
cauchy_from m (c ∷ (d ∷ p)) = cauchy_from (max m (unsigned_abs c)) (d ∷ p)

abbrev pub cauchy : List ℤ → ℕ
cauchy p = cauchy_from 0 p

abbrev pub IsFar : Part → Type 0
IsFar p = 4096 < cauchy (leading (coefficients (numer p.tree)))

abbrev pub IsZeroAt : Part → ℤ → Type 0
IsZeroAt p k = (p.limit ≤ℤ k) × ((n : ℤ) → SameValue (val (numer p.tree) n k) (Some (whole (pos 0))))

abbrev pub IsHeavy : Part → Type 0
IsHeavy p = 2 ^ 126 < weight (numer p.tree)
