-- Which tree a text has, and why a text is refused.
--   names            the letters of a scope: the first names its variable, the second, if there is one, the parameter
--   inside           the names in a body whose bound name is given
--   tree_in          the tree of a placed tree under these names, with the shorthands written out
--   is_divisor       its tree is a divisor, and no name in it is unknown
--   is_constant      its tree is a constant; an unknown name is taken for the parameter there
--   Kind, Fault      what is wrong in a text that has the right form, and where
--   Limits           tests of the numbers and of the exponents that are taken
--   faults           the faults of a placed tree, in no order
--   IsFirst          the one at the least place; of those at one place, the one of the first kind
--   HasTree          the placed tree of a text: it is what the text leaves, and nothing else is left
--   Reads            the text is one of the language, without fault, and this is its tree: no size is bounded
--   open_after       how many parentheses are open after these bytes; one that closes nothing closes nothing
--   Bounds           what a reader takes: how many bytes, how many open parentheses, which numbers and exponents
--   Refusal          why a text isn't read: too long; too many open parentheses from a place on; no text; a fault
--   IsRefused        the exact cause, in this order
--   IsRead           the tree of a text that keeps its bounds
use Rattle.std.specs.Prelude.{◌≡◌, ◌==◌, ℕ, zero, suc, ◌+◌, ◌-◌, ◌≤◌, ◌<◌, nat_lt, ℤ, pos, neg_ℤ, Bool, true, false, not, cond, ◌&&◌, ◌||◌, ◌⊎◌, List, [], ◌∷◌, ◌++◌, length, take}
use Rattle.sg_spec.specs.Tree.{Tree, numeral, here, param, add, neg, mul, div, power, sum_from, prod_from}
use Rattle.sg_spec.specs.Shape.{is_divisor_tree, is_constant_tree}
use Rattle.sg_spec.specs.Grammar.{text, IsOneOf, Builds, IsSyntaxFault}
use Rattle.sg_spec.specs.Syntax.{Spot, Placed, number, named, negated, added, subtracted, multiplied, divided, raised, sum_call, product_call, harmonic, harmonic_of_order, factorial, binomial, constant_power, State, at_start, after_byte, after_action, rest}

abbrev pub is_variable : List ℕ → ℕ → Bool
is_variable [] c = false
is_variable (v ∷ others) c = v == c

abbrev pub is_parameter : List ℕ → ℕ → Bool
is_parameter [] c = false
is_parameter (v ∷ []) c = false
is_parameter (v ∷ (p ∷ others)) c = p == c

abbrev pub is_known : List ℕ → ℕ → Bool
is_known names c = is_variable names c || is_parameter names c

abbrev pub inside : ℕ → List ℕ → List ℕ
inside bound names = bound ∷ rest names

-- a sign and the size after it
abbrev pub signed : ℕ → ℕ → ℤ
signed zero n = pos n
signed (suc s) n = neg_ℤ (pos n)

-- H(v,r), the sum of the reciprocals of the r-th powers; 1 as an exponent isn't written
abbrev pub harmonic_sum : ℕ → Tree
harmonic_sum r = sum_from (pos 1) (div (numeral (pos 1)) (cond (r == 1) here (power here r)))

-- binom(x,v): the product of (x+1-j)/j
abbrev pub binomial_product : Tree → Tree
binomial_product x = prod_from (pos 1) (div (add (add x (numeral (pos 1))) (neg here)) here)

abbrev pub tree_in : List ℕ → Placed → Tree
tree_in names (number s) = numeral (pos s.value)
tree_in names (named s) = cond (is_variable names s.value) here param
tree_in names (negated x) = neg (tree_in names x)
tree_in names (added x y) = add (tree_in names x) (tree_in names y)
tree_in names (subtracted x y) = add (tree_in names x) (neg (tree_in names y))
tree_in names (multiplied x y) = mul (tree_in names x) (tree_in names y)
tree_in names (divided x s y) = div (tree_in names x) (tree_in names y)
tree_in names (raised x e) = power (tree_in names x) e.value
tree_in names (sum_call c bound sign lower upper body) = sum_from (signed sign.value lower.value) (tree_in (inside bound.value names) body)
tree_in names (product_call c bound sign lower upper body) = prod_from (signed sign.value lower.value) (tree_in (inside bound.value names) body)
tree_in names (harmonic c v) = harmonic_sum 1
tree_in names (harmonic_of_order c v r) = harmonic_sum r.value
tree_in names (factorial c v) = prod_from (pos 1) here
tree_in names (binomial c s x v) = binomial_product (tree_in names x)
tree_in names (constant_power c x v) = prod_from (pos 1) (tree_in names x)

-- each name outside of calls is the variable's or the parameter's
abbrev pub all_known : List ℕ → Placed → Bool
all_known names (named s) = is_known names s.value
all_known names (negated x) = all_known names x
all_known names (added x y) = all_known names x && all_known names y
all_known names (subtracted x y) = all_known names x && all_known names y
all_known names (multiplied x y) = all_known names x && all_known names y
all_known names (divided x s y) = all_known names x && all_known names y
all_known names (raised x e) = all_known names x
all_known names x = true

abbrev pub is_divisor : List ℕ → Placed → Bool
is_divisor names x = all_known names x && is_divisor_tree (tree_in names x)

abbrev pub is_constant : List ℕ → Placed → Bool
is_constant names x = is_constant_tree (tree_in names x)

pub data Kind : Type 0 where
  numeral_fault : Kind
  exponent_fault : Kind
  unbound : Kind
  form : Kind

pub record Fault : Type 0 where
  pub kind : Kind
  pub place : ℕ

pub record Limits : Type 0 where
  pub numeral : ℕ → Bool
  pub exponent : ℕ → Bool

abbrev pub unlimited : Limits
unlimited = record { numeral = λ n. true; exponent = λ n. true }

abbrev pub fault_unless : Bool → Kind → ℕ → List Fault
fault_unless true kind place = []
fault_unless false kind place = record { kind = kind; place = place } ∷ []

-- a lower limit is from -1,000 to 1,000
abbrev pub is_small : ℕ → Bool
is_small n = nat_lt n 1001

-- the faults of `sum` and `prod` but for those of the body; no call may stand in the body of a product
abbrev pub bound_faults : Limits → Bool → List ℕ → Spot → Spot → Spot → Spot → Spot → List Fault
bound_faults limits in_product names c bound sign lower upper =
    fault_unless (not in_product) form c.place
    ++ fault_unless (not (is_parameter names bound.value)) form bound.place
    ++ fault_unless (is_small lower.value) form sign.place
    ++ fault_unless (limits.numeral lower.value) numeral_fault lower.place
    ++ fault_unless (is_variable names upper.value) form upper.place

-- of a call with one name: it stands in no product, and its name is the variable
abbrev pub call_faults : Bool → List ℕ → Spot → Spot → List Fault
call_faults in_product names c v = fault_unless (not in_product) form c.place ++ fault_unless (is_variable names v.value) form v.place

-- the test tells whether the tree stands in the body of a product
abbrev pub faults : Limits → Bool → List ℕ → Placed → List Fault
faults limits in_product names (number s) = fault_unless (limits.numeral s.value) numeral_fault s.place
faults limits in_product names (named s) = fault_unless (is_known names s.value) unbound s.place
faults limits in_product names (negated x) = faults limits in_product names x
faults limits in_product names (added x y) = faults limits in_product names x ++ faults limits in_product names y
faults limits in_product names (subtracted x y) = faults limits in_product names x ++ faults limits in_product names y
faults limits in_product names (multiplied x y) = faults limits in_product names x ++ faults limits in_product names y
faults limits in_product names (divided x s y) = faults limits in_product names x ++ fault_unless (is_divisor names y) form s.place ++ faults limits in_product names y
faults limits in_product names (raised x e) = faults limits in_product names x ++ fault_unless (limits.exponent e.value) exponent_fault e.place
faults limits in_product names (sum_call c bound sign lower upper body) =
    bound_faults limits in_product names c bound sign lower upper ++ faults limits in_product (inside bound.value names) body
faults limits in_product names (product_call c bound sign lower upper body) =
    bound_faults limits in_product names c bound sign lower upper ++ faults limits true (inside bound.value names) body
faults limits in_product names (harmonic c v) = call_faults in_product names c v
faults limits in_product names (harmonic_of_order c v r) =
    call_faults in_product names c v ++ fault_unless (not (r.value == 0) && limits.exponent r.value) exponent_fault r.place
faults limits in_product names (factorial c v) = call_faults in_product names c v
faults limits in_product names (binomial c s x v) = call_faults in_product names c v ++ fault_unless (is_constant names x) form s.place ++ faults limits in_product names x
faults limits in_product names (constant_power c x v) = call_faults in_product names c v ++ faults limits in_product names x

abbrev pub rank : Kind → ℕ
rank numeral_fault = 0
rank exponent_fault = 1
rank unbound = 2
rank form = 3

abbrev pub NotAfter : Fault → Fault → Type 0
NotAfter f g = (f.place < g.place) ⊎ ((f.place ≡ g.place) × (rank f.kind ≤ rank g.kind))

pub record IsFirst (f : Fault) (all : List Fault) : Type 0 where
  pub found : IsOneOf f all
  pub least : (g : Fault) → IsOneOf g all → NotAfter f g

pub record HasTree (w : List ℕ) (t : Placed) : Type 0 where
  pub end : State
  pub built : Builds after_byte after_action (text ∷ []) w at_start end
  pub left : end.trees ≡ t ∷ []
  pub no_marks : end.marks ≡ []
  pub no_numbers : end.numbers ≡ []

pub record Reads (w : List ℕ) (names : List ℕ) (e : Tree) : Type 0 where
  pub placed : Placed
  pub has_tree : HasTree w placed
  pub no_fault : faults unlimited false names placed ≡ []
  pub meaning : tree_in names placed ≡ e

abbrev pub open_from : ℕ → List ℕ → ℕ
open_from n [] = n
open_from n (b ∷ w) = open_from (cond (b == 40) (n + 1) (cond (b == 41) (n - 1) n)) w

abbrev pub open_after : List ℕ → ℕ
open_after w = open_from 0 w

pub record IsDeep (most : ℕ) (w : List ℕ) (p : ℕ) : Type 0 where
  pub within : p < length w
  pub deep : most < open_after (take (p + 1) w)
  pub before : (q : ℕ) → q < p → open_after (take (q + 1) w) ≤ most

pub record Bounds : Type 0 where
  pub bytes : ℕ
  pub parens : ℕ
  pub limits : Limits

pub record KeepsSize (bounds : Bounds) (w : List ℕ) : Type 0 where
  pub short : length w ≤ bounds.bytes
  pub flat : (q : ℕ) → q < length w → open_after (take (q + 1) w) ≤ bounds.parens

pub data Refusal : Type 0 where
  too_long : Refusal
  too_deep : ℕ → Refusal
  no_text : ℕ → Refusal
  faulty : Fault → Refusal

abbrev pub IsRefused : Bounds → List ℕ → List ℕ → Refusal → Type 0
IsRefused bounds names w too_long = bounds.bytes < length w
IsRefused bounds names w (too_deep p) = (length w ≤ bounds.bytes) × IsDeep bounds.parens w p
IsRefused bounds names w (no_text p) = KeepsSize bounds w × IsSyntaxFault w p
IsRefused bounds names w (faulty f) = KeepsSize bounds w × (t : Placed) × HasTree w t × IsFirst f (faults bounds.limits false names t)

pub record IsRead (bounds : Bounds) (names : List ℕ) (w : List ℕ) (e : Tree) : Type 0 where
  pub size : KeepsSize bounds w
  pub reads : Reads w names e
  pub keeps : faults bounds.limits false names reads.placed ≡ []
