-- One step of an evaluation.
--   operate-zero    a division by 0 is no step, and has no value
--   operate-fits    a step that fits has its value
--   operate-wide    a step that doesn't fit is the first that doesn't
use Rattle.std.proofs.Common.{◌≡◌, ◌≢◌, zero, suc, ◌<◌, ℤ, pos, negsuc, unsigned_abs, IsTrue, Bool, [], ◌∷◌, Option, Some, None, refl, sym, ap, ap₂, ◌∙◌, subst, arith}
use Rattle.sg_spec.specs.Fraction.{Fraction, Same, over}
use Rattle.sg_spec.specs.Value.{unless_zero}
use Rattle.sg_spec.specs.Steps.{Step, AllFit, IsFirstMisfit, lowest, fits_by, step_fits, result_of, after_value, made}
use Rattle.sg_spec.proofs.Fractions.{Same-trans}
use Rattle.sg_spec.proofs.Values.{product_positive}
use Rattle.sg_num.specs.declared.step.Op.{Op}
use Rattle.sg_num.specs.declared.step.Op.TheVariants.{Add, Sub, Mul, Div}
use Rattle.sg_num.specs.declared.step.Wide.{Wide}
use Rattle.sg_num.specs.declared.rat.Rat.{Rat}
use Rattle.sg_num.specs.Value.{fraction}
use Rattle.sg_num.specs.Steps.{outcome, fits_step}
use Rattle.sg_value.specs.declared.step.Outcome.TheVariants.{Value, NoValue, TooWide}
use Rattle.sg_value.specs.Answer.{operation_of, step_of, Stands, Answers}
use Rattle.sg_value.proofs.Lowest.{lowest_is, above_zero}
use Rattle.sg_spec.proofs.Results.{plus_same, minus_same, times_same, over_same, zero_same}
use Rattle.sg_value.proofs.Fitting.{misfit-one}

-- what an operation makes of equal operands
record Made (op : Op) (l r x y : Fraction) : Type 0 where
  z : Fraction
  is : result_of (operation_of op) x y ≡ Some z
  above : 0 < z.den
  outcome_above : 0 < (outcome op l r).den
  same : Same (outcome op l r) z

size_positive : (z : ℤ) → z ≢ pos 0 → 0 < unsigned_abs z
size_positive (pos zero) h = absurd (h refl)
size_positive (pos (suc n)) h = omega arith
size_positive (negsuc n) h = omega arith

unless-other : (z : ℤ) (x : Fraction) → z ≢ pos 0 → unless_zero z x ≡ Some x
unless-other (pos zero) x h = absurd (h refl)
unless-other (pos (suc n)) x h = refl
unless-other (negsuc n) x h = refl

made_of : (op : Op) (l r x y : Fraction) → 0 < l.den → 0 < r.den → 0 < x.den → 0 < y.den → Same l x → Same r y → (op ≡ Div → r.num ≢ pos 0) → Made op l r x y
made_of Add l r x y a b c d p q h = record { z = outcome Add x y; is = refl; above = product_positive x.den y.den c d; outcome_above = product_positive l.den r.den a b; same = plus_same l r x y p q }
made_of Sub l r x y a b c d p q h = record { z = outcome Sub x y; is = refl; above = product_positive x.den y.den c d; outcome_above = product_positive l.den r.den a b; same = minus_same l r x y p q }
made_of Mul l r x y a b c d p q h = record { z = outcome Mul x y; is = refl; above = product_positive x.den y.den c d; outcome_above = product_positive l.den r.den a b; same = times_same l r x y p q }
made_of Div l r x y a b c d p q h =
    let other : r.num ≢ pos 0 = h refl in
    let kept : y.num ≢ pos 0 = λ e. other (zero_same y r d q e) in
    record {
      z = over x y;
      is = unless-other y.num (over x y) kept;
      above = product_positive x.den (unsigned_abs y.num) c (size_positive y.num kept);
      outcome_above = product_positive l.den (unsigned_abs r.num) a (size_positive r.num other);
      same = over_same l r x y b d p q;
    }

fits-by : (op : Op) (x y : Fraction) → fits_step op x y ≡ fits_by (operation_of op) x y
fits-by Add x y = refl
fits-by Sub x y = refl
fits-by Mul x y = refl
fits-by Div x y = refl

pub operate-zero : (op : Op) (r x y : Fraction) → op ≡ Div → r.num ≡ pos 0 → 0 < r.den → Same r y → Answers NoValue (result_of (operation_of op) x y) (made (operation_of op) (Some x) (Some y))
operate-zero op r x y e zero_divisor above same =
    let nothing : y.num ≡ pos 0 = zero_same r y above (sym same) zero_divisor in
    let none : unless_zero y.num (over x y) ≡ None = ap (λ (z : ℤ). unless_zero z (over x y)) nothing in
    let here : Answers NoValue (result_of (operation_of Div) x y) (made (operation_of Div) (Some x) (Some y)) =
    (none, subst (λ (v : Option Fraction). AllFit (after_value v (record { operation = operation_of Div; left = lowest x; right = lowest y } ∷ []))) (sym none) tt) in
    subst (λ (o : Op). Answers NoValue (result_of (operation_of o) x y) (made (operation_of o) (Some x) (Some y))) (sym e) here

made_by : (op : Op) (left right : Rat) (x y : Fraction) → (op ≡ Div → (fraction right).num ≢ pos 0) → Stands left (Some x) → Stands right (Some y) → Made op (fraction left) (fraction right) x y
made_by op left right x y other p q = made_of op (fraction left) (fraction right) x y (above_zero left) (above_zero right) p.1 q.1 p.0 q.0 other

fits-lowest : (op : Op) (left right : Rat) (x y : Fraction) → Stands left (Some x) → Stands right (Some y) → fits_step op (fraction left) (fraction right) ≡ fits_by (operation_of op) (lowest x) (lowest y)
fits-lowest op left right x y p q = fits-by op (fraction left) (fraction right) ∙ ap₂ (fits_by (operation_of op)) (lowest_is left x p.0 p.1) (lowest_is right y q.0 q.1)

abbrev step_at : Op → Fraction → Fraction → Step
step_at op x y = record { operation = operation_of op; left = x; right = y }

pub operate-fits : (op : Op) (left right s : Rat) (x y : Fraction) → (op ≡ Div → (fraction right).num ≢ pos 0)
    → Same (fraction s) (outcome op (fraction left) (fraction right)) → IsTrue (fits_step op (fraction left) (fraction right))
    → Stands left (Some x) → Stands right (Some y)
    → Answers (Value s) (result_of (operation_of op) x y) (made (operation_of op) (Some x) (Some y))
operate-fits op left right s x y other value fits p q =
    let m = made_by op left right x y other p q in
    let value' : Same (fraction s) m.z = Same-trans (fraction s) (outcome op (fraction left) (fraction right)) m.z m.outcome_above value m.same in
    let fits' : IsTrue (fits_by (operation_of op) (lowest x) (lowest y)) = subst (λ (b : Bool). IsTrue b) (fits-lowest op left right x y p q) fits in
    subst (λ (v : Option Fraction). Answers (Value s) v (after_value v (step_at op (lowest x) (lowest y) ∷ []))) (sym m.is) ((value', m.above), (fits', tt))

pub operate-wide : (op : Op) (left right : Rat) (w : Wide) (x y : Fraction) → (op ≡ Div → (fraction right).num ≢ pos 0)
    → w ≡ record { op = op; left = left; right = right } → (IsTrue (fits_step op (fraction left) (fraction right)) → ⊥)
    → Stands left (Some x) → Stands right (Some y)
    → Answers (TooWide w) (result_of (operation_of op) x y) (made (operation_of op) (Some x) (Some y))
operate-wide op left right w x y other kept wide p q =
    let m = made_by op left right x y other p q in
    let same_step : step_at op (lowest x) (lowest y) ≡ step_of w =
    sym (ap step_of kept ∙ ap₂ (step_at op) (lowest_is left x p.0 p.1) (lowest_is right y q.0 q.1)) in
    let same_fit : step_fits (step_of w) ≡ fits_step op (fraction left) (fraction right) =
    ap (λ (v : Wide). step_fits (step_of v)) kept ∙ sym (fits-by op (fraction left) (fraction right)) in
    let misfit : IsTrue (step_fits (step_of w)) → ⊥ = λ f. wide (subst (λ (b : Bool). IsTrue b) same_fit f) in
    subst (λ (v : Option Fraction). IsFirstMisfit (after_value v (step_at op (lowest x) (lowest y) ∷ [])) (step_of w)) (sym m.is)
    (misfit-one (step_at op (lowest x) (lowest y)) (step_of w) same_step misfit)
