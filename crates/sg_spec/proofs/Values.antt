-- Values of expressions.
--   IsProper           a value has a denominator of at least 1
--   val-proper         every value of an expression is proper
--   SameValue-refl, SameValue-sym, SameValue-trans    equality of values, where there is one
use Rattle.std.proofs.Common.{◌≡◌, ℕ, zero, suc, ◌*◌, ◌<◌, ℤ, pos, negsuc, ◌+ℤ◌, unsigned_abs, Option, Some, None, refl, arith}
use Rattle.sg_spec.specs.Fraction.{Fraction, whole, over}
use Rattle.sg_spec.specs.Tree.{Tree, numeral, here, param, add, neg, mul, div, power, sum_from, prod_from}
use Rattle.sg_spec.specs.Value.{val, both, sum_of, product_of, quotient_of, unless_zero, opposite_of, power_of, folded, how_many, SameValue}
use Rattle.sg_spec.proofs.Fractions.{Same-sym, Same-trans}

abbrev pub IsProper : Option Fraction → Type 0
IsProper (Some x) = 0 < x.den
IsProper None = Unit {0}

pub product_positive : (m n : ℕ) → 0 < m → 0 < n → 0 < m * n
product_positive m n h k = grind arith

pub sum_proper : (u v : Option Fraction) → IsProper u → IsProper v → IsProper (both sum_of u v)
sum_proper (Some x) (Some y) h k = product_positive x.den y.den h k
sum_proper (Some x) None h k = tt
sum_proper None v h k = tt

product_proper : (u v : Option Fraction) → IsProper u → IsProper v → IsProper (both product_of u v)
product_proper (Some x) (Some y) h k = product_positive x.den y.den h k
product_proper (Some x) None h k = tt
product_proper None v h k = tt

unless_proper : (z : ℤ) (x : Fraction) (d : ℕ) → x.den ≡ d * unsigned_abs z → 0 < d → IsProper (unless_zero z x)
unless_proper (pos zero) x d e h = tt
unless_proper (pos (suc n)) x d e h = rw e (product_positive d (suc n) h (omega arith))
unless_proper (negsuc n) x d e h = rw e (product_positive d (suc n) h (omega arith))

quotient_proper : (u v : Option Fraction) → IsProper u → IsProper v → IsProper (both quotient_of u v)
quotient_proper (Some x) (Some y) h k = unless_proper y.num (over x y) x.den refl h
quotient_proper (Some x) None h k = tt
quotient_proper None v h k = tt

opposite_proper : (u : Option Fraction) → IsProper u → IsProper (opposite_of u)
opposite_proper (Some x) h = product_positive 1 x.den (omega arith) h
opposite_proper None h = tt

pub power_proper : (u : Option Fraction) (e : ℕ) → IsProper u → IsProper (power_of u e)
power_proper None e h = tt
power_proper (Some x) zero h = omega arith
power_proper (Some x) (suc e) h = product_proper (power_of (Some x) e) (Some x) (power_proper (Some x) e h) h

folded_proper : (f : Fraction → Fraction → Option Fraction) → ((u v : Option Fraction) → IsProper u → IsProper v → IsProper (both f u v))
    → (start : Fraction) → 0 < start.den → (term : ℤ → Option Fraction) → ((j : ℤ) → IsProper (term j)) → (from : ℤ) (n : ℕ) → IsProper (folded f start term from n)
folded_proper f keeps start h term k from zero = h
folded_proper f keeps start h term k from (suc n) = keeps (folded f start term from n) (term (from +ℤ pos n)) (folded_proper f keeps start h term k from n) (k (from +ℤ pos n))

pub val-proper : (t : Tree) (n k : ℤ) → IsProper (val t n k)
val-proper (numeral c) n k = omega arith
val-proper here n k = omega arith
val-proper param n k = omega arith
val-proper (add x y) n k = sum_proper (val x n k) (val y n k) (val-proper x n k) (val-proper y n k)
val-proper (neg x) n k = opposite_proper (val x n k) (val-proper x n k)
val-proper (mul x y) n k = product_proper (val x n k) (val y n k) (val-proper x n k) (val-proper y n k)
val-proper (div x y) n k = quotient_proper (val x n k) (val y n k) (val-proper x n k) (val-proper y n k)
val-proper (power x e) n k = power_proper (val x n k) e (val-proper x n k)
val-proper (sum_from from body) n k = folded_proper sum_of sum_proper (whole (pos 0)) (omega arith) (val body n) (λ j. val-proper body n j) from (how_many from k)
val-proper (prod_from from body) n k = folded_proper product_of product_proper (whole (pos 1)) (omega arith) (val body n) (λ j. val-proper body n j) from (how_many from k)

pub SameValue-sym : (u v : Option Fraction) → SameValue u v → SameValue v u
SameValue-sym (Some x) (Some y) h = Same-sym x y h
SameValue-sym (Some x) None h = absurd h
SameValue-sym None v h = absurd h

pub SameValue-trans : (u v w : Option Fraction) → IsProper v → SameValue u v → SameValue v w → SameValue u w
SameValue-trans (Some x) (Some y) (Some z) p h k = Same-trans x y z p h k
SameValue-trans (Some x) (Some y) None p h k = absurd k
SameValue-trans (Some x) None w p h k = absurd h
SameValue-trans None v w p h k = absurd h
