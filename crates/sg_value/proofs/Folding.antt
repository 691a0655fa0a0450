-- Folds of terms, and powers.
--   whole-stands      a whole number stands for itself
--   folded-ends       a fold that has no value, or has come to a step that doesn't fit, stays so
--   fold-next         one more term
--   fold-given        the same fold in equal numbers
--   power-..          the same for a power
--   raise-value, raise-none    the power of what a part answers
use Rattle.std.proofs.Common.{◌≡◌, ℕ, zero, suc, ◌≤◌, ◌⊎◌, inl, inr, ℤ, pos, ◌+ℤ◌, List, [], ◌++◌, Option, Some, None, refl, sym, ap, subst, arith}
use Rattle.std.proofs.Math.Nat.{eq-or-lt_of_le}
use Rattle.sg_value.specs.declared.step.Outcome.{Outcome}
use Rattle.sg_value.specs.declared.step.Outcome.TheVariants.{Value, NoValue, TooWide}
use Rattle.sg_spec.specs.Fraction.{Fraction, Same, whole, times}
use Rattle.sg_spec.specs.Tree.{Tree}
use Rattle.sg_spec.specs.Value.{val, both, folded, power_of, product_of}
use Rattle.sg_spec.specs.Steps.{Operation, multiplication, Step, AllFit, result_of, made, steps, steps_of_two, folded_steps, power_steps}
use Rattle.sg_num.specs.declared.rat.Rat.{Rat}
use Rattle.sg_num.specs.Value.{fraction}
use Rattle.sg_value.specs.Answer.{step_of, Stands, Answers}
use Rattle.sg_value.proofs.Fitting.{fit-append, misfit-more}
use Rattle.sg_value.proofs.Joining.{stop-none, stop-wide, answers-after}

pub whole-stands : (r : Rat) (z : ℤ) → fraction r ≡ whole z → Stands r (Some (whole z))
whole-stands r z e = (subst (λ (x : Fraction). Same x (whole z)) (sym e) refl, omega arith)

-- at most one more, or not at all
le-cases : (m c : ℕ) → m ≤ suc c → (m ≤ c) ⊎ (m ≡ suc c)
le-cases m c h = elim (eq-or-lt_of_le h) [ inl e ↦ inr e | inr k ↦ inl (omega arith) ]

-- nothing comes after an end
stop : (op : Operation) (out : Outcome) (u v : Option Fraction) (us vs : List Step) → ((r : Rat) → out ≡ Value r → ⊥) → Answers out u us → Answers out (both (result_of op) u v) (steps_of_two op u us v vs)
stop op (Value r) u v us vs ends a = absurd (ends r refl)
stop op NoValue u v us vs ends a = stop-none op u v us vs a
stop op (TooWide w) u v us vs ends a = stop-wide op w u v us vs a

pub folded-ends : (op : Operation) (start : Fraction) (t : Tree) (n from : ℤ) (m c : ℕ) (out : Outcome) → ((r : Rat) → out ≡ Value r → ⊥) → m ≤ c
    → Answers out (folded (result_of op) start (val t n) from m) (folded_steps op start (val t n) (steps t n) from m)
    → Answers out (folded (result_of op) start (val t n) from c) (folded_steps op start (val t n) (steps t n) from c)
folded-ends op start t n from m zero out ends h a =
    let e : m ≡ zero = omega arith in
    subst (λ (i : ℕ). Answers out (folded (result_of op) start (val t n) from i) (folded_steps op start (val t n) (steps t n) from i)) e a
folded-ends op start t n from m (suc c) out ends h a = elim (le-cases m c h) [
  | inl k ↦ stop op out (folded (result_of op) start (val t n) from c) (val t n (from +ℤ pos c)) (folded_steps op start (val t n) (steps t n) from c) (steps t n (from +ℤ pos c)) ends (folded-ends op start t n from m c out ends k a)
  | inr e ↦ subst (λ (i : ℕ). Answers out (folded (result_of op) start (val t n) from i) (folded_steps op start (val t n) (steps t n) from i)) e a
]

pub fold-next : (op : Operation) (start : Fraction) (t : Tree) (n from j : ℤ) (i : ℕ) (so_far : Rat) (term out : Outcome)
    → j ≡ from +ℤ pos i
    → Answers (Value so_far) (folded (result_of op) start (val t n) from i) (folded_steps op start (val t n) (steps t n) from i)
    → Answers term (val t n j) (steps t n j)
    → ((u v : Option Fraction) (us vs : List Step) → Answers (Value so_far) u us → Answers term v vs → Answers out (both (result_of op) u v) (steps_of_two op u us v vs))
    → Answers out (folded (result_of op) start (val t n) from (suc i)) (folded_steps op start (val t n) (steps t n) from (suc i))
fold-next op start t n from j i so_far term out is a b h =
    h (folded (result_of op) start (val t n) from i) (val t n (from +ℤ pos i)) (folded_steps op start (val t n) (steps t n) from i) (steps t n (from +ℤ pos i)) a
    (subst (λ (m : ℤ). Answers term (val t n m) (steps t n m)) is b)

-- numbers as they were handed on are those that were given
pub fold-given : (op : Operation) (start : Fraction) (t : Tree) (n n' from from' : ℤ) (i j : ℕ) (out : Outcome) → n' ≡ n → from' ≡ from → i ≡ j
    → Answers out (folded (result_of op) start (val t n') from' i) (folded_steps op start (val t n') (steps t n') from' i)
    → Answers out (folded (result_of op) start (val t n) from j) (folded_steps op start (val t n) (steps t n) from j)
fold-given op start t n n' from from' i j out en ef ei a =
    let a' = subst (λ (m : ℤ). Answers out (folded (result_of op) start (val t m) from' i) (folded_steps op start (val t m) (steps t m) from' i)) en a in
    let a'' = subst (λ (m : ℤ). Answers out (folded (result_of op) start (val t n) m i) (folded_steps op start (val t n) (steps t n) m i)) ef a' in
    subst (λ (m : ℕ). Answers out (folded (result_of op) start (val t n) from m) (folded_steps op start (val t n) (steps t n) from m)) ei a''

-- a power of a fraction always has a value
power-some : (y : Fraction) (e : ℕ) → (z : Fraction) × (power_of (Some y) e ≡ Some z)
power-some y zero = (whole (pos 1), refl)
power-some y (suc e) =
    let (z, is) = power-some y e in
    (times z y, ap (λ (u : Option Fraction). both product_of u (Some y)) is)

power-stop : (y : Fraction) (e : ℕ) (out : Outcome) → ((r : Rat) → out ≡ Value r → ⊥)
    → Answers out (power_of (Some y) e) (power_steps (Some y) e) → Answers out (power_of (Some y) (suc e)) (power_steps (Some y) (suc e))
power-stop y e (Value r) ends a = absurd (ends r refl)
power-stop y e NoValue ends a =
    let (z, is) = power-some y e in
    let none : power_of (Some y) e ≡ None = a.0 in
    cc
power-stop y e (TooWide w) ends a = misfit-more (power_steps (Some y) e) (made multiplication (power_of (Some y) e) (Some y)) (step_of w) a

pub power-ends : (y : Fraction) (m c : ℕ) (out : Outcome) → ((r : Rat) → out ≡ Value r → ⊥) → m ≤ c
    → Answers out (power_of (Some y) m) (power_steps (Some y) m) → Answers out (power_of (Some y) c) (power_steps (Some y) c)
power-ends y m zero out ends h a = let e : m ≡ zero = omega arith in subst (λ (i : ℕ). Answers out (power_of (Some y) i) (power_steps (Some y) i)) e a
power-ends y m (suc c) out ends h a = elim (le-cases m c h) [
  | inl k ↦ power-stop y c out ends (power-ends y m c out ends k a)
  | inr e ↦ subst (λ (i : ℕ). Answers out (power_of (Some y) i) (power_steps (Some y) i)) e a
]

-- one more factor
pub power-step : (x so_far : Rat) (out : Outcome) (y : Fraction) (i : ℕ)
    → Answers (Value so_far) (power_of (Some y) i) (power_steps (Some y) i) → Stands x (Some y)
    → ((u v : Fraction) → Stands so_far (Some u) → Stands x (Some v) → Answers out (result_of multiplication u v) (made multiplication (Some u) (Some v)))
    → Answers out (power_of (Some y) (suc i)) (power_steps (Some y) (suc i))
power-step x so_far out y i a s h = at (power_of (Some y) i) a.0
  where
    at : (u : Option Fraction) → Stands so_far u → Answers out (both product_of u (Some y)) (power_steps (Some y) i ++ made multiplication u (Some y))
    at (Some u) p = answers-after out (product_of u y) (power_steps (Some y) i) (made multiplication (Some u) (Some y)) a.1 (h u y p s)
    at None p = absurd p

pub raise-value : (x : Rat) (out : Outcome) (u : Option Fraction) (us : List Step) (e : ℕ) → Answers (Value x) u us
    → ((y : Fraction) → Stands x (Some y) → Answers out (power_of (Some y) e) (power_steps (Some y) e))
    → Answers out (power_of u e) (us ++ power_steps u e)
raise-value x out (Some y) us e a h = answers-after out (power_of (Some y) e) us (power_steps (Some y) e) a.1 (h y a.0)
raise-value x out None us e a h = absurd a.0

no_steps : (e : ℕ) → AllFit (power_steps None e)
no_steps zero = tt
no_steps (suc e) = fit-append (power_steps None e) [] (no_steps e) tt

pub raise-none : (u : Option Fraction) (us : List Step) (e : ℕ) → Answers NoValue u us → Answers NoValue (power_of u e) (us ++ power_steps u e)
raise-none (Some y) us e a = let n : Some y ≡ None = a.0 in cc
raise-none None us e a = (refl, fit-append us (power_steps None e) a.1 (no_steps e))
