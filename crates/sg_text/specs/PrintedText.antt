-- The text of a tree: how it is written, with shorthands, bound names and differences, and then its bytes.
--   spot_of             a spot at no place
--   next_bound          the bound names j and i take turns
--   is_first, is_one, is_numeral, is_here, is_minus_here     tests of the parts of the shorthands
--   harmonic_order      r, where a sum is that of H(v,r) with r from 1 to 32, and 0 elsewhere
--   product_form        the shorthand that is exactly this product: fact, binom or pow, and elsewhere the full form
--   written             a tree as it is written in a scope: the letters of its variable and of the parameter, and the bound
--                       name that comes next
--   level_of            the level of the grammar at which a written tree stands without parentheses
--   is_below            whether a tree of the first level needs parentheses at a place of the second
--   plain, text_at      the bytes of a written tree, and those at a place of this level
--   added_text          the bytes that follow the left operand of a sum
--   printed             the text of a tree in these letters
use Rattle.std.specs.Prelude.{◌==◌, ℕ, zero, suc, nat_lt, ℤ, pos, negsuc, unsigned_abs, Bool, true, false, cond, ◌&&◌, List, [], ◌∷◌, ◌++◌, get_or, codes}
use Rattle.std.specs.Fmt.{decimal}
use Rattle.sg_spec.specs.Tree.{Tree, numeral, here, param, add, neg, mul, div, power, sum_from, prod_from}
use Rattle.sg_spec.specs.Syntax.{Spot, Placed, number, named, negated, added, subtracted, multiplied, divided, raised, sum_call, product_call, harmonic, harmonic_of_order, factorial, binomial, constant_power}
use Rattle.sg_spec.specs.Shape.{is_constant_tree}
use Rattle.sg_text.specs.declared.printing.ProductForm.{ProductForm}
use Rattle.sg_text.specs.declared.printing.ProductForm.TheVariants.{Full, Factorial, Binomial, Power}
use Rattle.sg_text.specs.declared.printing.Level.{Level}
use Rattle.sg_text.specs.declared.printing.Level.TheVariants.{Sum, Term, Factor, Atom}

abbrev pub spot_of : ℕ → Spot
spot_of v = record { place = 0; value = v }

abbrev pub next_bound : ℕ → ℕ
next_bound b = cond (b == 106) 105 106

abbrev pub sign_of : ℤ → ℕ
sign_of (pos n) = 0
sign_of (negsuc n) = 1

abbrev pub is_first : ℤ → Bool
is_first (pos n) = n == 1
is_first (negsuc n) = false

abbrev pub is_one : Tree → Bool
is_one (numeral z) = is_first z
is_one x = false

abbrev pub is_numeral : Tree → Bool
is_numeral (numeral z) = true
is_numeral x = false

abbrev pub is_here : Tree → Bool
is_here here = true
is_here x = false

abbrev pub is_minus_here : Tree → Bool
is_minus_here (neg x) = is_here x
is_minus_here x = false

-- the order of the powers in a divisor
abbrev pub power_order : Tree → ℕ
power_order here = 1
power_order (power x r) = cond (is_here x && nat_lt 1 r && nat_lt r 33) r 0
power_order x = 0

abbrev pub body_order : Tree → ℕ
body_order (div x y) = cond (is_one x) (power_order y) 0
body_order x = 0

abbrev pub harmonic_order : ℤ → Tree → ℕ
harmonic_order z body = cond (is_first z) (body_order body) 0

abbrev pub is_constant_plus_one : Tree → Bool
is_constant_plus_one (add x y) = is_one y && is_constant_tree x
is_constant_plus_one x = false

-- x + 1 - j
abbrev pub is_falling : Tree → Bool
is_falling (add x y) = is_constant_plus_one x && is_minus_here y
is_falling x = false

abbrev pub is_quotient : Tree → Bool
is_quotient (numeral z) = true
is_quotient (div x y) = is_numeral x && is_numeral y
is_quotient x = false

abbrev pub body_form : Tree → ProductForm
body_form here = Factorial
body_form (numeral z) = Power
body_form (neg x) = cond (is_quotient x) Power Full
body_form (div x y) = cond (is_numeral x && is_numeral y) Power (cond (is_falling x && is_here y) Binomial Full)
body_form x = Full

abbrev pub product_form : ℤ → Tree → ProductForm
product_form z body = cond (is_first z) (body_form body) Full

-- a sum or a product with its written body
abbrev pub written_sum : ℕ → ℕ → ℤ → ℕ → Placed → Placed
written_sum v bound z zero x = sum_call (spot_of 0) (spot_of bound) (spot_of (sign_of z)) (spot_of (unsigned_abs z)) (spot_of v) x
written_sum v bound z (suc r) x = cond (r == 0) (harmonic (spot_of 0) (spot_of v)) (harmonic_of_order (spot_of 0) (spot_of v) (spot_of (suc r)))

-- x of (x + 1 - j) / j
abbrev pub left_of : Placed → Placed
left_of (added x y) = x
left_of (subtracted x y) = x
left_of (divided x s y) = x
left_of x = x

abbrev pub written_product : ℕ → ℕ → ℤ → ProductForm → Placed → Placed
written_product v bound z Full x = product_call (spot_of 0) (spot_of bound) (spot_of (sign_of z)) (spot_of (unsigned_abs z)) (spot_of v) x
written_product v bound z Factorial x = factorial (spot_of 0) (spot_of v)
written_product v bound z Binomial x = binomial (spot_of 0) (spot_of 0) (left_of (left_of (left_of x))) (spot_of v)
written_product v bound z Power x = constant_power (spot_of 0) x (spot_of v)

abbrev pub written : ℕ → ℕ → ℕ → Tree → Placed
written v p bound (numeral z) = number (spot_of (unsigned_abs z))
written v p bound here = named (spot_of v)
written v p bound param = named (spot_of p)
written v p bound (add x (neg y)) = subtracted (written v p bound x) (written v p bound y)
written v p bound (add x y) = added (written v p bound x) (written v p bound y)
written v p bound (neg x) = negated (written v p bound x)
written v p bound (mul x y) = multiplied (written v p bound x) (written v p bound y)
written v p bound (div x y) = divided (written v p bound x) (spot_of 0) (written v p bound y)
written v p bound (power x e) = raised (written v p bound x) (spot_of e)
written v p bound (sum_from z x) = written_sum v bound z (harmonic_order z x) (written bound p (next_bound bound) x)
written v p bound (prod_from z x) = written_product v bound z (product_form z x) (written bound p (next_bound bound) x)

abbrev pub level_of : Placed → Level
level_of (negated x) = Sum
level_of (added x y) = Sum
level_of (subtracted x y) = Sum
level_of (multiplied x y) = Term
level_of (divided x s y) = Term
level_of (raised x e) = Factor
level_of x = Atom

abbrev pub is_below : Level → Level → Bool
is_below Sum Sum = false
is_below Sum l = true
is_below Term Factor = true
is_below Term Atom = true
is_below Term l = false
is_below Factor Atom = true
is_below Factor l = false
is_below Atom l = false

abbrev pub enclosed_if : Bool → List ℕ → List ℕ
enclosed_if b w = cond b (40 ∷ (w ++ (41 ∷ []))) w

-- a tree of the first level at a place of the second
abbrev pub at_level : Level → Level → List ℕ → List ℕ
at_level own wanted w = enclosed_if (is_below own wanted) w

-- a lower limit
abbrev pub limit_text : ℕ → ℕ → List ℕ
limit_text zero n = decimal n
limit_text (suc s) n = 45 ∷ decimal n

-- what follows the word of a sum or a product
abbrev pub call_text : ℕ → ℕ → ℕ → ℕ → List ℕ → List ℕ
call_text bound sign lower upper x = 40 ∷ (bound ∷ (44 ∷ (limit_text sign lower ++ (44 ∷ (upper ∷ (44 ∷ (x ++ (41 ∷ []))))))))

abbrev pub plain : Placed → List ℕ
plain (number s) = decimal s.value
plain (named s) = s.value ∷ []
plain (negated x) = 45 ∷ at_level (level_of x) Term (plain x)
plain (added x y) = plain x ++ (43 ∷ at_level (level_of y) Term (plain y))
plain (subtracted x y) = plain x ++ (45 ∷ at_level (level_of y) Term (plain y))
plain (multiplied x y) = at_level (level_of x) Term (plain x) ++ (42 ∷ at_level (level_of y) Factor (plain y))
plain (divided x s y) = at_level (level_of x) Term (plain x) ++ (47 ∷ at_level (level_of y) Factor (plain y))
plain (raised x e) = at_level (level_of x) Atom (plain x) ++ (94 ∷ decimal e.value)
plain (sum_call c bound sign lower upper x) = codes "sum" ++ call_text bound.value sign.value lower.value upper.value (plain x)
plain (product_call c bound sign lower upper x) = codes "prod" ++ call_text bound.value sign.value lower.value upper.value (plain x)
plain (harmonic c v) = codes "H(" ++ (v.value ∷ (41 ∷ []))
plain (harmonic_of_order c v r) = codes "H(" ++ (v.value ∷ (44 ∷ (decimal r.value ++ (41 ∷ []))))
plain (factorial c v) = codes "fact(" ++ (v.value ∷ (41 ∷ []))
plain (binomial c s x v) = codes "binom(" ++ (plain x ++ (44 ∷ (v.value ∷ (41 ∷ []))))
plain (constant_power c x v) = codes "pow(" ++ (plain x ++ (44 ∷ (v.value ∷ (41 ∷ []))))

abbrev pub text_at : Level → Placed → List ℕ
text_at wanted t = at_level (level_of t) wanted (plain t)

-- what follows the left operand of a sum
abbrev pub added_text : ℕ → ℕ → ℕ → Tree → List ℕ
added_text v p bound (neg x) = 45 ∷ text_at Term (written v p bound x)
added_text v p bound x = 43 ∷ text_at Term (written v p bound x)

abbrev pub printed : List ℕ → Tree → List ℕ
printed names e = plain (written (get_or names 0 0) (get_or names 1 0) 106 e)
