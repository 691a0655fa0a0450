-- The steps of an evaluation: its additions, subtractions, multiplications and divisions of two fractions, in their order.
-- A part is evaluated before the part on its right, and that before the step that joins them; what has no value ends it.
--   Step            an operation and its two operands, in lowest terms
--   lowest          a fraction in lowest terms
--   step_fits       whether a step fits 128 bits
--   result_of       the result of an operation, or none for a division by 0
--   steps           the steps of the evaluation of a tree for a parameter and a variable
--   AllFit          every step fits
--   IsFirstMisfit   the first step that doesn't fit
use Rattle.std.specs.Prelude.{◌≡◌, ℕ, zero, suc, ℤ, pos, ◌+ℤ◌, Bool, IsTrue, List, [], ◌∷◌, ◌++◌, Option, Some, None}
use Rattle.sg_spec.specs.Fraction.{Fraction, whole, minus}
use Rattle.sg_spec.specs.Width.{reduced, fits, fits_plus, fits_minus, product, quotient}
use Rattle.sg_spec.specs.Tree.{Tree, numeral, here, param, add, neg, mul, div, power, sum_from, prod_from}
use Rattle.sg_spec.specs.Value.{val, folded, how_many, power_of, sum_of, product_of, quotient_of}

pub data Operation : Type 0 where
  addition : Operation
  subtraction : Operation
  multiplication : Operation
  division : Operation

pub record Step : Type 0 where
  pub operation : Operation
  pub left : Fraction
  pub right : Fraction

abbrev pub lowest : Fraction → Fraction
lowest x = reduced x.num (pos x.den)

abbrev pub fits_by : Operation → Fraction → Fraction → Bool
fits_by addition x y = fits_plus x y
fits_by subtraction x y = fits_minus x y
fits_by multiplication x y = fits (product x y)
fits_by division x y = fits (quotient x y)

abbrev pub step_fits : Step → Bool
step_fits s = fits_by s.operation s.left s.right

abbrev pub result_of : Operation → Fraction → Fraction → Option Fraction
result_of addition x y = sum_of x y
result_of subtraction x y = Some (minus x y)
result_of multiplication x y = product_of x y
result_of division x y = quotient_of x y

-- what comes only after a value
abbrev pub after_value : Option Fraction → List Step → List Step
after_value None ss = []
after_value (Some x) ss = ss

-- the step that joins two values; a division by 0 is none
abbrev pub made : Operation → Option Fraction → Option Fraction → List Step
made op (Some x) (Some y) = after_value (result_of op x y) (record { operation = op; left = lowest x; right = lowest y } ∷ [])
made op (Some x) None = []
made op None y = []

-- the steps of the left part, of the right part, and the one that joins them
abbrev pub steps_of_two : Operation → Option Fraction → List Step → Option Fraction → List Step → List Step
steps_of_two op left left_steps right right_steps = left_steps ++ after_value left (right_steps ++ made op left right)

-- each term is joined on the right of what was folded so far
abbrev pub folded_steps : Operation → Fraction → (ℤ → Option Fraction) → (ℤ → List Step) → ℤ → ℕ → List Step
folded_steps op start term term_steps from zero = []
folded_steps op start term term_steps from (suc n) =
    steps_of_two op (folded (result_of op) start term from n) (folded_steps op start term term_steps from n) (term (from +ℤ pos n)) (term_steps (from +ℤ pos n))

abbrev pub power_steps : Option Fraction → ℕ → List Step
power_steps base zero = []
power_steps base (suc e) = power_steps base e ++ made multiplication (power_of base e) base

abbrev pub steps : Tree → ℤ → ℤ → List Step
steps (numeral c) n k = []
steps here n k = []
steps param n k = []
steps (add x y) n k = steps_of_two addition (val x n k) (steps x n k) (val y n k) (steps y n k)
steps (neg x) n k = steps x n k ++ made subtraction (Some (whole (pos 0))) (val x n k)
steps (mul x y) n k = steps_of_two multiplication (val x n k) (steps x n k) (val y n k) (steps y n k)
steps (div x y) n k = steps_of_two division (val x n k) (steps x n k) (val y n k) (steps y n k)
steps (power x e) n k = steps x n k ++ power_steps (val x n k) e
steps (sum_from from body) n k = folded_steps addition (whole (pos 0)) (val body n) (steps body n) from (how_many from k)
steps (prod_from from body) n k = folded_steps multiplication (whole (pos 1)) (val body n) (steps body n) from (how_many from k)

abbrev pub AllFit : List Step → Type 0
AllFit [] = Unit {0}
AllFit (s ∷ ss) = IsTrue (step_fits s) × AllFit ss

pub record IsFirstMisfit (ss : List Step) (s : Step) : Type 0 where
  pub before : List Step
  pub after : List Step
  pub split : ss ≡ before ++ s ∷ after
  pub fit_before : AllFit before
  pub too_wide : IsTrue (step_fits s) → ⊥
