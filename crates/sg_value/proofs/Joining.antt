-- Two parts that are joined by a step.
--   answers-after                       after steps that fit
--   join-value, join-none, join-wide    what the right part answers, after a left part that has a value
--   opposite-value                      0 less a part that has a value
--   stop-none, stop-wide                a left part without a value, or with a step that doesn't fit, ends it
use Rattle.std.proofs.Common.{◌≡◌, pos, List, [], ◌++◌, Option, Some, None, refl}
use Rattle.sg_value.specs.declared.step.Outcome.{Outcome}
use Rattle.sg_value.specs.declared.step.Outcome.TheVariants.{Value, NoValue, TooWide}
use Rattle.sg_spec.specs.Fraction.{Fraction, whole}
use Rattle.sg_spec.specs.Value.{both, opposite_of}
use Rattle.sg_spec.specs.Steps.{Operation, Step, AllFit, result_of, after_value, made, steps_of_two, subtraction}
use Rattle.sg_num.specs.declared.step.Wide.{Wide}
use Rattle.sg_num.specs.declared.rat.Rat.{Rat}
use Rattle.sg_value.specs.Answer.{step_of, Stands, Answers}
use Rattle.sg_value.proofs.Fitting.{fit-append, misfit-more, misfit-after}

-- steps that fit come before
pub answers-after : (out : Outcome) (v : Option Fraction) (xs ys : List Step) → AllFit xs → Answers out v ys → Answers out v (xs ++ ys)
answers-after (Value r) v xs ys h a = (a.0, fit-append xs ys h a.1)
answers-after NoValue v xs ys h a = (a.0, fit-append xs ys h a.1)
answers-after (TooWide w) v xs ys h a = misfit-after xs ys (step_of w) h a

pub join-value : (op : Operation) (left right : Rat) (out : Outcome) (u v : Option Fraction) (us vs : List Step)
    → Answers (Value left) u us → Answers (Value right) v vs
    → ((x y : Fraction) → Stands left (Some x) → Stands right (Some y) → Answers out (result_of op x y) (made op (Some x) (Some y)))
    → Answers out (both (result_of op) u v) (steps_of_two op u us v vs)
join-value op left right out (Some x) (Some y) us vs a b h =
    answers-after out (result_of op x y) us (vs ++ made op (Some x) (Some y)) a.1
    (answers-after out (result_of op x y) vs (made op (Some x) (Some y)) b.1 (h x y a.0 b.0))
join-value op left right out (Some x) None us vs a b h = absurd b.0
join-value op left right out None v us vs a b h = absurd a.0

pub join-none : (op : Operation) (left : Rat) (u v : Option Fraction) (us vs : List Step)
    → Answers (Value left) u us → Answers NoValue v vs → Answers NoValue (both (result_of op) u v) (steps_of_two op u us v vs)
join-none op left (Some x) None us vs a b = (refl, fit-append us (vs ++ []) a.1 (fit-append vs [] b.1 tt))
join-none op left (Some x) (Some y) us vs a b = let e : Some y ≡ None = b.0 in cc
join-none op left None v us vs a b = absurd a.0

pub join-wide : (op : Operation) (left : Rat) (w : Wide) (u v : Option Fraction) (us vs : List Step)
    → Answers (Value left) u us → Answers (TooWide w) v vs → Answers (TooWide w) (both (result_of op) u v) (steps_of_two op u us v vs)
join-wide op left w (Some x) v us vs a b = misfit-after us (vs ++ made op (Some x) v) (step_of w) a.1 (misfit-more vs (made op (Some x) v) (step_of w) b)
join-wide op left w None v us vs a b = absurd a.0

pub stop-none : (op : Operation) (u v : Option Fraction) (us vs : List Step) → Answers NoValue u us → Answers NoValue (both (result_of op) u v) (steps_of_two op u us v vs)
stop-none op (Some x) v us vs a = let e : Some x ≡ None = a.0 in cc
stop-none op None v us vs a = (refl, fit-append us [] a.1 tt)

pub stop-wide : (op : Operation) (w : Wide) (u v : Option Fraction) (us vs : List Step) → Answers (TooWide w) u us → Answers (TooWide w) (both (result_of op) u v) (steps_of_two op u us v vs)
stop-wide op w u v us vs a = misfit-more us (after_value u (vs ++ made op u v)) (step_of w) a

pub opposite-value : (x : Rat) (out : Outcome) (u : Option Fraction) (us : List Step) → Answers (Value x) u us
    → ((y : Fraction) → Stands x (Some y) → Answers out (result_of subtraction (whole (pos 0)) y) (made subtraction (Some (whole (pos 0))) (Some y)))
    → Answers out (opposite_of u) (us ++ made subtraction (Some (whole (pos 0))) u)
opposite-value x out (Some y) us a h = answers-after out (result_of subtraction (whole (pos 0)) y) us (made subtraction (Some (whole (pos 0))) (Some y)) a.1 (h y a.0)
opposite-value x out None us a h = absurd a.0
