-- The sums and products of expressions, and what is built over them.
--   same_tree           whether two trees are equal
--   all_sums, all_prods    the sums and the products of a tree from left to right, those of a body before it, with repeats
--   distinct            the list without repeats: of equal trees the first
--   sums, prods         the distinct sums and products of several expressions, in the order of the expressions
--   start               the greatest of a and of the lower limits less 1 over all sums and products
--   Over                built from numerals, the variable, the operations and the listed sums, which may stand in divisors
--   Allowed, BuiltOver  built from what is allowed besides; what is divided by is a divisor, so it holds no sum
use Rattle.std.specs.Prelude.{◌==◌, ℤ, pos, negsuc, ◌-ℤ◌, Bool, true, false, ◌&&◌, IsTrue, List, [], ◌∷◌, ◌++◌, Contains, cond}
use Rattle.std.specs.Int.{int_max}
use Rattle.sg_spec.specs.Shape.{is_divisor_tree}
use Rattle.sg_spec.specs.Tree.{Tree, numeral, here, param, add, neg, mul, div, power, sum_from, prod_from}

abbrev pub same_whole : ℤ → ℤ → Bool
same_whole (pos m) (pos n) = m == n
same_whole (negsuc m) (negsuc n) = m == n
same_whole (pos m) (negsuc n) = false
same_whole (negsuc m) (pos n) = false

abbrev pub same_tree : Tree → Tree → Bool
same_tree (numeral c) (numeral d) = same_whole c d
same_tree here here = true
same_tree param param = true
same_tree (add x y) (add u v) = same_tree x u && same_tree y v
same_tree (neg x) (neg u) = same_tree x u
same_tree (mul x y) (mul u v) = same_tree x u && same_tree y v
same_tree (div x y) (div u v) = same_tree x u && same_tree y v
same_tree (power x e) (power u f) = same_tree x u && e == f
same_tree (sum_from a x) (sum_from b u) = same_whole a b && same_tree x u
same_tree (prod_from a x) (prod_from b u) = same_whole a b && same_tree x u
same_tree x u = false

abbrev pub all_sums : Tree → List Tree
all_sums (numeral c) = []
all_sums here = []
all_sums param = []
all_sums (add x y) = all_sums x ++ all_sums y
all_sums (neg x) = all_sums x
all_sums (mul x y) = all_sums x ++ all_sums y
all_sums (div x y) = all_sums x ++ all_sums y
all_sums (power x e) = all_sums x
all_sums (sum_from from body) = all_sums body ++ (sum_from from body ∷ [])
all_sums (prod_from from body) = all_sums body

abbrev pub all_prods : Tree → List Tree
all_prods (numeral c) = []
all_prods here = []
all_prods param = []
all_prods (add x y) = all_prods x ++ all_prods y
all_prods (neg x) = all_prods x
all_prods (mul x y) = all_prods x ++ all_prods y
all_prods (div x y) = all_prods x ++ all_prods y
all_prods (power x e) = all_prods x
all_prods (sum_from from body) = all_prods body
all_prods (prod_from from body) = all_prods body ++ (prod_from from body ∷ [])

abbrev pub has_tree : Tree → List Tree → Bool
has_tree t [] = false
has_tree t (u ∷ us) = cond (same_tree t u) true (has_tree t us)

-- those of the second list that stand neither in the first nor before, after the first
abbrev pub with_new : List Tree → List Tree → List Tree
with_new known [] = known
with_new known (t ∷ ts) = with_new (cond (has_tree t known) known (known ++ (t ∷ []))) ts

abbrev pub distinct : List Tree → List Tree
distinct ts = with_new [] ts

abbrev pub concatenated : (Tree → List Tree) → List Tree → List Tree
concatenated f [] = []
concatenated f (e ∷ es) = f e ++ concatenated f es

abbrev pub sums : List Tree → List Tree
sums es = distinct (concatenated all_sums es)

abbrev pub prods : List Tree → List Tree
prods es = distinct (concatenated all_prods es)

abbrev pub start_of : Tree → ℤ → ℤ
start_of (numeral c) a = a
start_of here a = a
start_of param a = a
start_of (add x y) a = start_of y (start_of x a)
start_of (neg x) a = start_of x a
start_of (mul x y) a = start_of y (start_of x a)
start_of (div x y) a = start_of y (start_of x a)
start_of (power x e) a = start_of x a
start_of (sum_from from body) a = int_max (start_of body a) (from -ℤ pos 1)
start_of (prod_from from body) a = int_max (start_of body a) (from -ℤ pos 1)

abbrev pub start : List Tree → ℤ → ℤ
start [] a = a
start (e ∷ es) a = start es (start_of e a)

abbrev pub Over : List Tree → Tree → Type 0
Over ss (numeral c) = Unit {0}
Over ss here = Unit {0}
Over ss param = ⊥
Over ss (add x y) = Over ss x × Over ss y
Over ss (neg x) = Over ss x
Over ss (mul x y) = Over ss x × Over ss y
Over ss (div x y) = Over ss x × Over ss y
Over ss (power x e) = Over ss x
Over ss (sum_from from body) = Contains ss (sum_from from body)
Over ss (prod_from from body) = ⊥

-- what may stand in an expression besides numerals, the variable and the operations
pub record Allowed : Type 0 where
  pub parameter : Bool
  pub products : List Tree
  pub sums : List Tree

abbrev pub BuiltOver : Allowed → Tree → Type 0
BuiltOver allowed (numeral c) = Unit {0}
BuiltOver allowed here = Unit {0}
BuiltOver allowed param = IsTrue allowed.parameter
BuiltOver allowed (add x y) = BuiltOver allowed x × BuiltOver allowed y
BuiltOver allowed (neg x) = BuiltOver allowed x
BuiltOver allowed (mul x y) = BuiltOver allowed x × BuiltOver allowed y
BuiltOver allowed (div x y) = BuiltOver allowed x × BuiltOver allowed y × IsTrue (is_divisor_tree y)
BuiltOver allowed (power x e) = BuiltOver allowed x
BuiltOver allowed (sum_from from body) = Contains allowed.sums (sum_from from body)
BuiltOver allowed (prod_from from body) = Contains allowed.products (prod_from from body)
