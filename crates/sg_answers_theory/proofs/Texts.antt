-- Expressions over their own products and sums, and the answers of a command as statements on values.
--   IsOuter parameter f    in f, outside of sums and products, what is divided by is a divisor, and the parameter stands only where it may
--   outer_of_form          an expression in form is so
--   built_all              such an expression is built over what is allowed, if its products and sums are
--   own_built              so over its own products and sums
--   NoneOver E f           no expression over the products and sums of the texts telescopes f from any point on
--   closed_some            where there is a closed form, some expression does
--   none_over              where nothing telescopes the element of f, none does
use Rattle.std.proofs.Common.{ℤ, pos, ◌-ℤ◌, ◌≤ℤ◌, List, ◌∷◌, ◌++◌, Contains, Bool, false, IsTrue}
use Rattle.std.proofs.lemmas.List.Elements.{Contains-append_left, Contains-append_right, Contains-push}
use Rattle.sg_algebra.specs.Coefficients.{Each}
use Rattle.sg_spec.specs.Tree.{Tree, numeral, here, param, add, neg, mul, div, power, sum_from, prod_from}
use Rattle.sg_spec.specs.Printing.{InForm}
use Rattle.sg_spec.specs.Shape.{is_divisor_tree}
use Rattle.sg_spec.specs.Value.{val, total, SameValue}
use Rattle.sg_spec.specs.Generators.{Allowed, BuiltOver, all_sums, all_prods, concatenated, sums, prods}
use Rattle.sg_spec.specs.Telescoping.{Tele}
use Rattle.sg_worth_theory.proofs.Closes.{no_letter}
use Rattle.sg_tower_theory.proofs.Difference.{delta}
use Rattle.sg_tower_theory.proofs.Formal.{Formal, Element, elements, shifted, IsIndependent}
use Rattle.sg_value_theory.proofs.PointsOf.{HasValues, HasUnits}
use Rattle.sg_value_theory.proofs.Converse.{closed_with_products}
use Rattle.sg_value_theory.proofs.OwnSums.{distinct_has}
use Rattle.sg_answers_theory.proofs.ElementsOver.{AgreesFrom, IsPlaced}
use Rattle.sg_answers_theory.proofs.ZeroPast.{FollowFrom}
use Rattle.sg_answers_theory.proofs.Answers.{none_moves, moves_of_tele}

abbrev pub IsOuter : Bool → Tree → Type 0
IsOuter parameter (numeral c) = Unit {0}
IsOuter parameter here = Unit {0}
IsOuter parameter param = IsTrue parameter
IsOuter parameter (add x y) = IsOuter parameter x × IsOuter parameter y
IsOuter parameter (neg x) = IsOuter parameter x
IsOuter parameter (mul x y) = IsOuter parameter x × IsOuter parameter y
IsOuter parameter (div x y) = IsOuter parameter x × IsOuter parameter y × IsTrue (is_divisor_tree y)
IsOuter parameter (power x e) = IsOuter parameter x
IsOuter parameter (sum_from from body) = Unit {0}
IsOuter parameter (prod_from from body) = Unit {0}

pub outer_of_form : (known in_product : Bool) (t : Tree) → InForm known in_product t → IsOuter known t
outer_of_form known p (numeral c) f = tt
outer_of_form known p here f = tt
outer_of_form known p param f = f
outer_of_form known p (add x y) f = (outer_of_form known p x f.0, outer_of_form known p y f.1)
outer_of_form known p (neg x) f = outer_of_form known p x f
outer_of_form known p (mul x y) f = (outer_of_form known p x f.0, outer_of_form known p y f.1)
outer_of_form known p (div x y) f = (outer_of_form known p x f.0, outer_of_form known p y f.1, f.2)
outer_of_form known p (power x e) f = outer_of_form known p x f
outer_of_form known p (sum_from from body) f = tt
outer_of_form known p (prod_from from body) f = tt

pub built_all : (allowed : Allowed) (f : Tree) → IsOuter allowed.parameter f → ((t : Tree) → Contains (all_prods f) t → Contains allowed.products t)
    → ((t : Tree) → Contains (all_sums f) t → Contains allowed.sums t) → BuiltOver allowed f
built_all a (numeral c) o p h = tt
built_all a here o p h = tt
built_all a param o p h = o
built_all a (add x y) o p h = (built_all a x o.0 (λ t c. p t (Contains-append_left (all_prods x) (all_prods y) t c)) (λ t c. h t (Contains-append_left (all_sums x) (all_sums y) t c)), built_all a y o.1 (λ t c. p t (Contains-append_right (all_prods x) (all_prods y) t c)) (λ t c. h t (Contains-append_right (all_sums x) (all_sums y) t c)))
built_all a (neg x) o p h = built_all a x o p h
built_all a (mul x y) o p h = (built_all a x o.0 (λ t c. p t (Contains-append_left (all_prods x) (all_prods y) t c)) (λ t c. h t (Contains-append_left (all_sums x) (all_sums y) t c)), built_all a y o.1 (λ t c. p t (Contains-append_right (all_prods x) (all_prods y) t c)) (λ t c. h t (Contains-append_right (all_sums x) (all_sums y) t c)))
built_all a (div x y) o p h = (built_all a x o.0 (λ t c. p t (Contains-append_left (all_prods x) (all_prods y) t c)) (λ t c. h t (Contains-append_left (all_sums x) (all_sums y) t c)), built_all a y o.1 (λ t c. p t (Contains-append_right (all_prods x) (all_prods y) t c)) (λ t c. h t (Contains-append_right (all_sums x) (all_sums y) t c)), o.2)
built_all a (power x e) o p h = built_all a x o p h
built_all a (sum_from from body) o p h = h (sum_from from body) (Contains-push (all_sums body) (sum_from from body))
built_all a (prod_from from body) o p h = p (prod_from from body) (Contains-push (all_prods body) (prod_from from body))

abbrev pub own : Bool → List Tree → Allowed
own parameter es = record { parameter = parameter; products = prods es; sums = sums es }

pub own_built : (parameter : Bool) (f : Tree) (others : List Tree) → IsOuter parameter f → BuiltOver (own parameter (f ∷ others)) f
own_built parameter f others o =
    built_all (own parameter (f ∷ others)) f o
    (λ t c. distinct_has (all_prods f ++ concatenated all_prods others) t (Contains-append_left (all_prods f) (concatenated all_prods others) t c))
    (λ t c. distinct_has (all_sums f ++ concatenated all_sums others) t (Contains-append_left (all_sums f) (concatenated all_sums others) t c))

-- ---- None over products and sums

abbrev pub NoneOver : List Tree → Tree → Type 0
NoneOver es f = (e : Tree) → BuiltOver (own false es) e → ¬ Tele e f

pub closed_some : (f : Tree) (others : List Tree) (h : Tree) (a s : ℤ) → IsOuter false f → BuiltOver (own false (f ∷ others)) h → (a -ℤ pos 1) ≤ℤ s
    → ((m : ℤ) → s ≤ℤ m → SameValue (val h (pos 0) m) (total f a m))
    → ¬ NoneOver (f ∷ others) f
closed_some f others h a s o c starts same none =
    let e = closed_with_products (own false (f ∷ others)) f h a s (own_built false f others o) c starts same in
    none e.0 e.1 e.2

module _ (s : ℤ) (ps gens : List Tree) (F : Formal 0) (follow : FollowFrom no_letter s ps gens F) (units : Each (HasUnits no_letter) ps)
    (values : Each (HasValues no_letter) gens) (independent : IsIndependent F) where
  pub none_over : (es : List Tree) (f : Tree) (x : Element F) → AgreesFrom no_letter s ps gens F x f
      → ((g : Element F) → ¬ ((elements F).◌≈◌ (delta (shifted F) g) x))
      → ((g : Tree) → Contains (prods es) g → IsPlaced no_letter s ps gens F g) → ((g : Tree) → Contains (sums es) g → (y : Element F) × AgreesFrom no_letter s ps gens F y g) → NoneOver es f
  none_over es f x a none products sums' e o t = none_moves no_letter s ps gens F follow units values independent (own false es) products sums' f x a none e o (moves_of_tele e f t)
