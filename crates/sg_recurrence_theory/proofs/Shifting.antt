-- The summands of a recurrence are in form where the first one is.
--   substituted-form      with the parameter moved on an expression is in form
--   shifts-form           so are all summands
use Rattle.std.proofs.Common.{◌≡◌, ℕ, zero, suc, Bool, true, false, ◌&&◌, refl, ap₂, arith}
use Rattle.std.proofs.lemmas.Int.{ints}
use Rattle.sg_algebra.specs.Coefficients.{Each}
use Rattle.sg_spec.specs.Printing.{InForm}
use Rattle.sg_spec.specs.Parameter.{param_plus, substituted}
use Rattle.sg_spec.specs.Shape.{is_polynomial_tree, is_divisor_tree}
use Rattle.sg_spec.specs.Tree.{Tree, numeral, here, param, add, neg, mul, div, power, sum_from, prod_from}
use Rattle.sg_answers_theory.specs.Recurrences.{shifts_from}

plus-polynomial : (i : ℕ) → is_polynomial_tree (param_plus i) ≡ true
plus-polynomial zero = refl
plus-polynomial (suc i) = refl

plus-divisor : (i : ℕ) → is_divisor_tree (param_plus i) ≡ true
plus-divisor zero = refl
plus-divisor (suc i) = refl

plus-form : (inside : Bool) (i : ℕ) → InForm true inside (param_plus i)
plus-form inside zero = refl
plus-form inside (suc i) = (refl, omega (arith, ints))

module _ (i : ℕ) where
  polynomial-same : (t : Tree) → is_polynomial_tree (substituted i t) ≡ is_polynomial_tree t
  polynomial-same (numeral c) = refl
  polynomial-same here = refl
  polynomial-same param = plus-polynomial i
  polynomial-same (add x y) = ap₂ ◌&&◌ (polynomial-same x) (polynomial-same y)
  polynomial-same (neg x) = polynomial-same x
  polynomial-same (mul x y) = ap₂ ◌&&◌ (polynomial-same x) (polynomial-same y)
  polynomial-same (div x y) = refl
  polynomial-same (power x e) = polynomial-same x
  polynomial-same (sum_from a b) = refl
  polynomial-same (prod_from a b) = refl

  divisor-same : (t : Tree) → is_divisor_tree (substituted i t) ≡ is_divisor_tree t
  divisor-same (numeral c) = refl
  divisor-same here = refl
  divisor-same param = plus-divisor i
  divisor-same (add x y) = ap₂ ◌&&◌ (polynomial-same x) (polynomial-same y)
  divisor-same (neg x) = divisor-same x
  divisor-same (mul x y) = ap₂ ◌&&◌ (divisor-same x) (divisor-same y)
  divisor-same (div x y) = refl
  divisor-same (power x e) = divisor-same x
  divisor-same (sum_from a b) = refl
  divisor-same (prod_from a b) = refl

  pub substituted-form : (inside : Bool) (t : Tree) → InForm true inside t → InForm true inside (substituted i t)
  substituted-form inside (numeral c) h = h
  substituted-form inside here h = h
  substituted-form inside param h = plus-form inside i
  substituted-form inside (add x y) h = (substituted-form inside x h.0, substituted-form inside y h.1)
  substituted-form inside (neg x) h = substituted-form inside x h
  substituted-form inside (mul x y) h = (substituted-form inside x h.0, substituted-form inside y h.1)
  substituted-form inside (div x y) h = (substituted-form inside x h.0, substituted-form inside y h.1, rw (divisor-same y) h.2)
  substituted-form inside (power x e) h = substituted-form inside x h
  substituted-form inside (sum_from a b) h = (h.0, h.1, substituted-form false b h.2)
  substituted-form inside (prod_from a b) h = (h.0, h.1, substituted-form true b h.2)

pub shifts-form : (i m : ℕ) (f : Tree) → InForm true false f → Each (InForm true false) (shifts_from i m f)
shifts-form i zero f h = tt
shifts-form i (suc m) f h = (substituted-form i false f h, shifts-form (suc i) m f h)
