-- The reader's tests of a placed tree are the tests of its tree.
--   polynomial_in-is, divisor_in-is     and each name outside of calls is known
--   constant_in-is
use Rattle.std.specs.Prelude.{◌≡◌, ℕ, Bool, true, false, not, cond, ◌&&◌, ◌||◌, List}
use Rattle.std.proofs.Common.{refl, sym}
use Rattle.sg_spec.specs.Shape.{is_polynomial_tree, is_divisor_tree, is_constant_tree}
use Rattle.sg_spec.specs.Tree.{here, param}
use Rattle.sg_spec.specs.Syntax.{Placed, number, named, negated, added, subtracted, multiplied, divided, raised}
use Rattle.sg_spec.specs.Reading.{is_variable, is_parameter, tree_in, all_known, is_divisor, is_constant}
use Rattle.sg_text.specs.Tests.{polynomial_in, divisor_in, constant_in}

and_false : (a : Bool) → (a && false) ≡ false
and_false true = refl
and_false false = refl

and_true : (a : Bool) → a ≡ (a && true)
and_true true = refl
and_true false = refl

-- two tests of two parts each
in_pairs : (k l p q a b : Bool) → a ≡ (k && p) → b ≡ (l && q) → (a && b) ≡ ((k && l) && (p && q))
in_pairs true true p q a b h k = cc
in_pairs true false true q a b h k = cc
in_pairs true false false q a b h k = cc
in_pairs false l p q a b h k = cc

polynomial_in-is : (names : List ℕ) (x : Placed) → polynomial_in names x ≡ (all_known names x && is_polynomial_tree (tree_in names x))
polynomial_in-is names (number s) = refl
polynomial_in-is names (named s) =
    elim (is_variable names s.value) as (λ q. (q || is_parameter names s.value) ≡ ((q || is_parameter names s.value) && is_polynomial_tree (cond q here param)))
    [ true ↦ refl | false ↦ and_true (is_parameter names s.value) ]
polynomial_in-is names (negated x) = polynomial_in-is names x
polynomial_in-is names (added x y) = in_pairs (all_known names x) (all_known names y) (is_polynomial_tree (tree_in names x)) (is_polynomial_tree (tree_in names y)) (polynomial_in names x) (polynomial_in names y) (polynomial_in-is names x) (polynomial_in-is names y)
polynomial_in-is names (subtracted x y) = in_pairs (all_known names x) (all_known names y) (is_polynomial_tree (tree_in names x)) (is_polynomial_tree (tree_in names y)) (polynomial_in names x) (polynomial_in names y) (polynomial_in-is names x) (polynomial_in-is names y)
polynomial_in-is names (multiplied x y) = in_pairs (all_known names x) (all_known names y) (is_polynomial_tree (tree_in names x)) (is_polynomial_tree (tree_in names y)) (polynomial_in names x) (polynomial_in names y) (polynomial_in-is names x) (polynomial_in-is names y)
polynomial_in-is names (divided x s y) = sym (and_false (all_known names x && all_known names y))
polynomial_in-is names (raised x e) = polynomial_in-is names x
polynomial_in-is names x = refl

pub divisor_in-is : (names : List ℕ) (x : Placed) → divisor_in names x ≡ is_divisor names x
divisor_in-is names (number s) = refl
divisor_in-is names (named s) =
    elim (is_variable names s.value) as (λ q. (q || is_parameter names s.value) ≡ ((q || is_parameter names s.value) && is_divisor_tree (cond q here param)))
    [ true ↦ refl | false ↦ and_true (is_parameter names s.value) ]
divisor_in-is names (negated x) = divisor_in-is names x
divisor_in-is names (added x y) = polynomial_in-is names (added x y)
divisor_in-is names (subtracted x y) = polynomial_in-is names (subtracted x y)
divisor_in-is names (multiplied x y) = in_pairs (all_known names x) (all_known names y) (is_divisor_tree (tree_in names x)) (is_divisor_tree (tree_in names y)) (divisor_in names x) (divisor_in names y) (divisor_in-is names x) (divisor_in-is names y)
divisor_in-is names (divided x s y) = sym (and_false (all_known names x && all_known names y))
divisor_in-is names (raised x e) = divisor_in-is names x
divisor_in-is names x = refl

pub constant_in-is : (names : List ℕ) (x : Placed) → constant_in names x ≡ is_constant names x
constant_in-is names (number s) = refl
constant_in-is names (named s) = elim (is_variable names s.value) as (λ q. not q ≡ is_constant_tree (cond q here param)) [ true ↦ refl | false ↦ refl ]
constant_in-is names (negated x) = constant_in-is names x
constant_in-is names (added x y) = cc (constant_in-is names x, constant_in-is names y)
constant_in-is names (subtracted x y) = cc (constant_in-is names x, constant_in-is names y)
constant_in-is names (multiplied x y) = cc (constant_in-is names x, constant_in-is names y)
constant_in-is names (raised x e) = constant_in-is names x
constant_in-is names x = refl
