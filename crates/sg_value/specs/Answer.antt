-- What an evaluation in 128 bits answers: a fraction, none, or a step that doesn't fit.
--   operation_of    the operation of an operator
--   step_of         the step that was kept
--   IsValue         a fraction is answered only for the value, and none only where there is none
--   Stands          a fraction in lowest terms stands for this value, whose denominator is at least 1
--   Answers         what is answered for a value and the steps that lead to it: after the first that doesn't fit none is made
--   AnswersStep     what is answered for a step of two fractions
--   AnswersTwo      what is answered for two parts and the step that joins them
--   Evaluates       what is answered for the value of a tree
use Rattle.std.specs.Prelude.{◌≡◌, ◌<◌, ℤ, List, Option, Some, None}
use Rattle.sg_value.specs.declared.step.Outcome.{Outcome}
use Rattle.sg_value.specs.declared.step.Outcome.TheVariants.{Value, NoValue, TooWide}
use Rattle.sg_spec.specs.Fraction.{Fraction, Same}
use Rattle.sg_spec.specs.Tree.{Tree}
use Rattle.sg_spec.specs.Value.{val, both, SameValue}
use Rattle.sg_spec.specs.Steps.{Operation, addition, subtraction, multiplication, division, Step, steps, steps_of_two, result_of, made, AllFit, IsFirstMisfit}
use Rattle.sg_num.specs.declared.step.Op.{Op}
use Rattle.sg_num.specs.declared.step.Op.TheVariants.{Add, Sub, Mul, Div}
use Rattle.sg_num.specs.declared.step.Wide.{Wide}
use Rattle.sg_num.specs.declared.rat.Rat.{Rat}
use Rattle.sg_num.specs.Value.{fraction}

abbrev pub operation_of : Op → Operation
operation_of Add = addition
operation_of Sub = subtraction
operation_of Mul = multiplication
operation_of Div = division

abbrev pub step_of : Wide → Step
step_of w = record { operation = operation_of w.op; left = fraction w.left; right = fraction w.right }

abbrev pub IsValue : Option Rat → Option Fraction → Type 0
IsValue (Some r) v = SameValue (Some (fraction r)) v
IsValue None v = v ≡ None

abbrev pub Stands : Rat → Option Fraction → Type 0
Stands r (Some x) = Same (fraction r) x × (0 < x.den)
Stands r None = ⊥

abbrev pub Answers : Outcome → Option Fraction → List Step → Type 0
Answers (Value r) v ss = Stands r v × AllFit ss
Answers NoValue v ss = (v ≡ None) × AllFit ss
Answers (TooWide w) v ss = IsFirstMisfit ss (step_of w)

abbrev pub AnswersStep : Op → Outcome → Fraction → Fraction → Type 0
AnswersStep op out x y = Answers out (result_of (operation_of op) x y) (made (operation_of op) (Some x) (Some y))

abbrev pub AnswersTwo : Op → Outcome → Option Fraction → List Step → Option Fraction → List Step → Type 0
AnswersTwo op out u us v vs = Answers out (both (result_of (operation_of op)) u v) (steps_of_two (operation_of op) u us v vs)

abbrev pub Evaluates : Outcome → Tree → ℤ → ℤ → Type 0
Evaluates out t n k = Answers out (val t n k) (steps t n k)
