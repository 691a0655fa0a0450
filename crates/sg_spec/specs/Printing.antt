-- What a printed text has to be.
--   SparesBound         the parameter's letter is none that a printed sum or product binds, which are i and j
--   has_parameter       whether the second letter is given
--   IsPrintable         reader's form: some text reads as the tree
--   InForm              the same by cases on the tree, as far as its numbers have at most 64 digits
--   IsShort             its numbers have at most 64 digits
--   keeps_numbers       every number and every exponent that is written is taken
--   KeepsBounds         a text is as short and as flat as a reader wants, and its numbers are taken
--   closed_in           how many parentheses are closed in a text
--   HasFewest           no text that reads as this tree has fewer parentheses
--   NoBlank             a text without blanks
use Rattle.std.specs.Prelude.{◌≡◌, ◌≢◌, ◌==◌, ℕ, ◌+◌, ◌≤◌, ◌<◌, ◌^◌, pos, ◌≤ℤ◌, unsigned_abs, Bool, true, false, cond, ◌&&◌, List, [], ◌∷◌, All}
use Rattle.sg_spec.specs.Tree.{Tree, numeral, here, param, add, neg, mul, div, power, sum_from, prod_from}
use Rattle.sg_spec.specs.Shape.{is_divisor_tree}
use Rattle.sg_spec.specs.Syntax.{Placed, number, named, negated, added, subtracted, multiplied, divided, raised, sum_call, product_call, harmonic, harmonic_of_order, factorial, binomial, constant_power}
use Rattle.sg_spec.specs.Reading.{is_small, Limits, Bounds, KeepsSize, HasTree, Reads}

abbrev pub SparesBound : List ℕ → Type 0
SparesBound [] = Unit {0}
SparesBound (v ∷ []) = Unit {0}
SparesBound (v ∷ (p ∷ more)) = (p ≢ 105) × (p ≢ 106)

abbrev pub has_parameter : List ℕ → Bool
has_parameter [] = false
has_parameter (v ∷ []) = false
has_parameter (v ∷ (p ∷ more)) = true

abbrev pub IsPrintable : List ℕ → Tree → Type 0
IsPrintable names e = (w : List ℕ) × Reads w names e

-- the first test tells whether there is a parameter, the second whether the tree stands in the body of a product
abbrev pub InForm : Bool → Bool → Tree → Type 0
InForm known in_product (numeral z) = pos 0 ≤ℤ z
InForm known in_product here = Unit {0}
InForm known in_product param = known ≡ true
InForm known in_product (add x y) = InForm known in_product x × InForm known in_product y
InForm known in_product (neg x) = InForm known in_product x
InForm known in_product (mul x y) = InForm known in_product x × InForm known in_product y
InForm known in_product (div x y) = InForm known in_product x × InForm known in_product y × (is_divisor_tree y ≡ true)
InForm known in_product (power x e) = InForm known in_product x
InForm known in_product (sum_from z x) = (in_product ≡ false) × (is_small (unsigned_abs z) ≡ true) × InForm known false x
InForm known in_product (prod_from z x) = (in_product ≡ false) × (is_small (unsigned_abs z) ≡ true) × InForm known true x

abbrev pub IsShort : Tree → Type 0
IsShort (numeral z) = unsigned_abs z < 10 ^ 64
IsShort here = Unit {0}
IsShort param = Unit {0}
IsShort (add x y) = IsShort x × IsShort y
IsShort (neg x) = IsShort x
IsShort (mul x y) = IsShort x × IsShort y
IsShort (div x y) = IsShort x × IsShort y
IsShort (power x e) = IsShort x × (e < 10 ^ 64)
IsShort (sum_from z x) = IsShort x
IsShort (prod_from z x) = IsShort x

abbrev pub keeps_numbers : Limits → Placed → Bool
keeps_numbers limits (number s) = limits.numeral s.value
keeps_numbers limits (named s) = true
keeps_numbers limits (negated x) = keeps_numbers limits x
keeps_numbers limits (added x y) = keeps_numbers limits x && keeps_numbers limits y
keeps_numbers limits (subtracted x y) = keeps_numbers limits x && keeps_numbers limits y
keeps_numbers limits (multiplied x y) = keeps_numbers limits x && keeps_numbers limits y
keeps_numbers limits (divided x s y) = keeps_numbers limits x && keeps_numbers limits y
keeps_numbers limits (raised x e) = keeps_numbers limits x && limits.exponent e.value
keeps_numbers limits (sum_call c bound sign lower upper body) = limits.numeral lower.value && keeps_numbers limits body
keeps_numbers limits (product_call c bound sign lower upper body) = limits.numeral lower.value && keeps_numbers limits body
keeps_numbers limits (harmonic c v) = true
keeps_numbers limits (harmonic_of_order c v r) = limits.exponent r.value
keeps_numbers limits (factorial c v) = true
keeps_numbers limits (binomial c s x v) = keeps_numbers limits x
keeps_numbers limits (constant_power c x v) = keeps_numbers limits x

pub record KeepsBounds (bounds : Bounds) (w : List ℕ) : Type 0 where
  pub size : KeepsSize bounds w
  pub numbers : (t : Placed) → HasTree w t → keeps_numbers bounds.limits t ≡ true

abbrev pub closed_in : List ℕ → ℕ
closed_in [] = 0
closed_in (b ∷ w) = cond (b == 41) (closed_in w + 1) (closed_in w)

abbrev pub HasFewest : List ℕ → List ℕ → Tree → Type 0
HasFewest w names e = (u : List ℕ) → Reads u names e → closed_in w ≤ closed_in u

abbrev pub NoBlank : List ℕ → Type 0
NoBlank w = All (λ b. b ≢ 32) w
