-- The parts of expressions as they are read.
--   polynomial_rational     a polynomial holds no sum and no product
--   rational_over           nor does what is built from numerals, the variable and the operations alone; what is read for `sum` without them is so built
--   no_prods_form           expressions without products have none that isn't in form
--   lower_form              what may stand in the body of a product may stand elsewhere
--   parts_form              each part of what is read is as what is read
--   first_form              so is the part that is the first of some kind
--   polynomial_spared       a polynomial has no parts
use Rattle.std.proofs.Common.{◌≡◌, ℕ, zero, suc, ◌+◌, refl, ap, ap₂, subst, Bool, true, false, List, [], ◌∷◌, ◌++◌, ℤ}
use Rattle.sg_algebra.specs.Coefficients.{Each}
use Rattle.sg_spec.specs.Tree.{Tree, numeral, here, param, add, neg, mul, div, power, sum_from, prod_from}
use Rattle.sg_spec.specs.Generators.{Over, all_sums, all_prods, sums, prods, distinct}
use Rattle.sg_spec.specs.Polynomials.{IsPolynomial}
use Rattle.sg_spec.specs.Printing.{InForm}
use Rattle.sg_spec.specs.Parts.{Part, Role, anywhere, divides, is_body, parts, own_part}
use Rattle.sg_spec.specs.Faults.{Numbered, with_item, parts_from, First, AreSpared}
use Rattle.sg_worth_theory.proofs.Plain.{HasNoProduct, none_multiplied}
use Rattle.sg_limits.proofs.Elementary.{each_append}
use Rattle.sg_top.specs.Taking.{IsRational}

-- ---- Without sums and products

pub left_empty : {A : Type 0} (a b : List A) → a ++ b ≡ [] → a ≡ []
left_empty [] b h = refl
left_empty (x ∷ a) b h = cc

pub right_empty : {A : Type 0} (a b : List A) → a ++ b ≡ [] → b ≡ []
right_empty [] b h = h
right_empty (x ∷ a) b h = cc

pub not_empty : {A : Type 0} (a : List A) (x : A) → a ++ (x ∷ []) ≡ [] → ⊥
not_empty [] x h = cc
not_empty (y ∷ a) x h = cc

pub not_true : false ≡ true → ⊥
not_true e = cc

pub left_plain : (x y : Tree) → HasNoProduct (add x y) → HasNoProduct x
left_plain x y h = left_empty (all_prods x) (all_prods y) h

pub both_rational : (x y : Tree) → IsRational x → IsRational y → IsRational (add x y)
both_rational x y h k = (ap₂ ◌++◌ h.0 k.0, ap₂ ◌++◌ h.1 k.1)

pub left_rational : (x y : Tree) → IsRational (add x y) → IsRational x
left_rational x y h = (left_empty (all_sums x) (all_sums y) h.0, left_empty (all_prods x) (all_prods y) h.1)

pub right_rational : (x y : Tree) → IsRational (add x y) → IsRational y
right_rational x y h = (right_empty (all_sums x) (all_sums y) h.0, right_empty (all_prods x) (all_prods y) h.1)

pub no_sum : (from : ℤ) (body : Tree) → IsRational (sum_from from body) → ⊥
no_sum from body h = not_empty (all_sums body) (sum_from from body) h.0

pub no_product : (from : ℤ) (body : Tree) → IsRational (prod_from from body) → ⊥
no_product from body h = not_empty (all_prods body) (prod_from from body) h.1

pub polynomial_rational : (t : Tree) → IsPolynomial t → IsRational t
polynomial_rational (numeral c) h = (refl, refl)
polynomial_rational here h = (refl, refl)
polynomial_rational param h = absurd h
polynomial_rational (add x y) h = both_rational x y (polynomial_rational x h.0) (polynomial_rational y h.1)
polynomial_rational (neg x) h = polynomial_rational x h
polynomial_rational (mul x y) h = both_rational x y (polynomial_rational x h.0) (polynomial_rational y h.1)
polynomial_rational (div x y) h = absurd h
polynomial_rational (power x e) h = polynomial_rational x h
polynomial_rational (sum_from from body) h = absurd h
polynomial_rational (prod_from from body) h = absurd h

pub rational_over : (inside : Bool) (t : Tree) → InForm false inside t → IsRational t → Over [] t
rational_over inside (numeral c) f h = tt
rational_over inside here f h = tt
rational_over inside param f h = absurd (not_true f)
rational_over inside (add x y) f h = (rational_over inside x f.0 (left_rational x y h), rational_over inside y f.1 (right_rational x y h))
rational_over inside (neg x) f h = rational_over inside x f h
rational_over inside (mul x y) f h = (rational_over inside x f.0 (left_rational x y h), rational_over inside y f.1 (right_rational x y h))
rational_over inside (div x y) f h = (rational_over inside x f.0 (left_rational x y h), rational_over inside y f.1 (right_rational x y h))
rational_over inside (power x e) f h = rational_over inside x f h
rational_over inside (sum_from from body) f h = absurd (no_sum from body h)
rational_over inside (prod_from from body) f h = absurd (no_product from body h)

pub no_sums : (t : Tree) → IsRational t → sums (t ∷ []) ≡ []
no_sums t h = ap (λ (ts : List Tree). distinct (ts ++ [])) h.0

pub no_products : (t : Tree) → IsRational t → prods (t ∷ []) ≡ []
no_products t h = ap (λ (ts : List Tree). distinct (ts ++ [])) h.1

pub no_prods_form : (es : List Tree) → Each HasNoProduct es → Each (InForm false false) (prods es)
no_prods_form es h = let none : prods es ≡ [] = none_multiplied es h in rw none tt

-- ---- In reader's form

each_at : {A : Type 0} (P : A → Type 0) (before after : List A) (x : A) → Each P (before ++ x ∷ after) → P x
each_at P [] after x h = h.0
each_at P (y ∷ before) after x h = each_at P before after x h.1

pub lower_form : (known inside : Bool) (t : Tree) → InForm known inside t → InForm known false t
lower_form known inside (numeral c) f = f
lower_form known inside here f = tt
lower_form known inside param f = f
lower_form known inside (add x y) f = (lower_form known inside x f.0, lower_form known inside y f.1)
lower_form known inside (neg x) f = lower_form known inside x f
lower_form known inside (mul x y) f = (lower_form known inside x f.0, lower_form known inside y f.1)
lower_form known inside (div x y) f = (lower_form known inside x f.0, lower_form known inside y f.1, f.2)
lower_form known inside (power x e) f = lower_form known inside x f
lower_form known inside (sum_from from body) f = (refl, f.1, f.2)
lower_form known inside (prod_from from body) f = (refl, f.1, f.2)

pub known_form : (inside : Bool) (t : Tree) → InForm false inside t → InForm true inside t
known_form inside (numeral c) f = f
known_form inside here f = tt
known_form inside param f = refl
known_form inside (add x y) f = (known_form inside x f.0, known_form inside y f.1)
known_form inside (neg x) f = known_form inside x f
known_form inside (mul x y) f = (known_form inside x f.0, known_form inside y f.1)
known_form inside (div x y) f = (known_form inside x f.0, known_form inside y f.1, f.2)
known_form inside (power x e) f = known_form inside x f
known_form inside (sum_from from body) f = (f.0, f.1, known_form false body f.2)
known_form inside (prod_from from body) f = (f.0, f.1, known_form true body f.2)

pub all_known : (ts : List Tree) → Each (InForm false false) ts → Each (InForm true false) ts
all_known [] h = tt
all_known (t ∷ ts) h = (known_form false t h.0, all_known ts h.1)

abbrev pub IsPartInForm : Bool → Part → Type 0
IsPartInForm known p = InForm known false p.tree

own_form : (known : Bool) (r : Role) (l : ℤ) (d : ℕ) (t : Tree) (inner : List Part) → InForm known false t → Each (IsPartInForm known) inner → Each (IsPartInForm known) (own_part r l d t inner)
own_form known anywhere l d t inner f h = h
own_form known divides l d t inner f h = (f, h)
own_form known is_body l d t inner f h = (f, h)

pub parts_form : (known inside : Bool) (r : Role) (l : ℤ) (d : ℕ) (t : Tree) → InForm known inside t → Each (IsPartInForm known) (parts r l d t)
parts_form known inside r l d (numeral c) f = own_form known r l d (numeral c) [] f tt
parts_form known inside r l d here f = own_form known r l d here [] tt tt
parts_form known inside r l d param f = own_form known r l d param [] f tt
parts_form known inside r l d (add x y) f =
    own_form known r l d (add x y) (parts anywhere l d x ++ parts anywhere l d y) (lower_form known inside (add x y) f)
    (each_append (IsPartInForm known) (parts anywhere l d x) (parts anywhere l d y) (parts_form known inside anywhere l d x f.0) (parts_form known inside anywhere l d y f.1))
parts_form known inside r l d (neg x) f = parts_form known inside r l d x f
parts_form known inside r l d (mul x y) f =
    each_append (IsPartInForm known) (parts r l d x) (parts r l d y) (parts_form known inside r l d x f.0) (parts_form known inside r l d y f.1)
parts_form known inside r l d (div x y) f =
    each_append (IsPartInForm known) (parts r l d x) (parts divides l d y) (parts_form known inside r l d x f.0) (parts_form known inside divides l d y f.1)
parts_form known inside r l d (power x zero) f = parts_form known inside anywhere l d x f
parts_form known inside r l d (power x (suc e)) f = parts_form known inside r l d x f
parts_form known inside r l d (sum_from from body) f = parts_form known false anywhere from (suc d) body f.2
parts_form known inside r l d (prod_from from body) f = parts_form known true is_body from (suc d) body f.2

abbrev pub IsNumberedInForm : Bool → Numbered → Type 0
IsNumberedInForm known x = IsPartInForm known x.part

item_form : (known : Bool) (i : ℕ) (ps : List Part) → Each (IsPartInForm known) ps → Each (IsNumberedInForm known) (with_item i ps)
item_form known i [] h = tt
item_form known i (p ∷ ps) h = (h.0, item_form known i ps h.1)

pub numbered_form : (known : Bool) (i : ℕ) (a : ℤ) (ts : List Tree) → Each (InForm known false) ts → Each (IsNumberedInForm known) (parts_from i a ts)
numbered_form known i a [] h = tt
numbered_form known i a (t ∷ ts) h =
    each_append (IsNumberedInForm known) (with_item i (parts anywhere a 0 t)) (parts_from (i + 1) a ts) (item_form known i (parts anywhere a 0 t) (parts_form known false anywhere a 0 t h.0))
    (numbered_form known (i + 1) a ts h.1)

-- the part that is first of some kind
pub first_form : (known : Bool) (a : ℤ) (ts : List Tree) (P : Numbered → Type 0) (x : Numbered) → Each (InForm known false) ts → First P (parts_from 1 a ts) x → InForm known false x.part.tree
first_form known a ts P x h f = each_at (IsNumberedInForm known) f.before f.after x (subst (Each (IsNumberedInForm known)) f.split (numbered_form known 1 a ts h))

-- ---- Polynomials have no parts

no_parts : (l : ℤ) (d : ℕ) (t : Tree) → IsPolynomial t → parts anywhere l d t ≡ []
no_parts l d (numeral c) h = refl
no_parts l d here h = refl
no_parts l d param h = absurd h
no_parts l d (add x y) h = ap₂ ◌++◌ (no_parts l d x h.0) (no_parts l d y h.1)
no_parts l d (neg x) h = no_parts l d x h
no_parts l d (mul x y) h = ap₂ ◌++◌ (no_parts l d x h.0) (no_parts l d y h.1)
no_parts l d (div x y) h = absurd h
no_parts l d (power x zero) h = no_parts l d x h
no_parts l d (power x (suc e)) h = no_parts l d x h
no_parts l d (sum_from from body) h = absurd h
no_parts l d (prod_from from body) h = absurd h

pub none_spared : AreSpared []
none_spared = record { near = tt; no_pole = tt; no_zero_factor = tt }

pub polynomial_spared : (a : ℤ) (t : Tree) → IsPolynomial t → AreSpared (parts_from 1 a (t ∷ []))
polynomial_spared a t h = rw (no_parts a 0 t h) none_spared
