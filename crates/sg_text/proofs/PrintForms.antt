-- What reads as a tree has the form that the printer wants.
--   parens      the parentheses that a written tree needs
--   Parens      they are an estimate of what a text pays for it
--   bad         the calls of `pow` whose first argument is none of its constants
--   Bad         a text pays nothing, and holds none
--   in_form     a placed tree without fault is in reader's form
--   form_of     a tree that some text reads as is, and so is what a reader answers (read_form)
use Rattle.std.specs.Prelude.{◌≡◌, ◌==◌, ℕ, zero, suc, ◌+◌, ◌≤◌, pos, ◌≤ℤ◌, unsigned_abs, Bool, true, false, not, cond, ◌&&◌, ◌||◌, List, [], ◌∷◌, ◌++◌}
use Rattle.std.proofs.Common.{refl, subst, ap, ◌∙◌, arith}
use Rattle.std.proofs.lemmas.Int.{ints}
use Rattle.sg_spec.specs.Tree.{Tree, numeral, here, param, div, power}
use Rattle.sg_spec.specs.Syntax.{Spot, Placed, number, named, negated, added, subtracted, multiplied, divided, raised, sum_call, product_call, harmonic, harmonic_of_order, factorial, binomial, constant_power}
use Rattle.sg_spec.specs.Reading.{is_variable, is_parameter, is_known, inside, signed, tree_in, all_known, is_divisor, is_constant, is_small, Kind, exponent_fault, unbound, form, unlimited, fault_unless, bound_faults, call_faults, Fault, faults, HasTree, Bounds, IsRead}
use Rattle.sg_spec.specs.Printing.{has_parameter, IsPrintable, InForm}
use Rattle.sg_spec.specs.Shape.{is_divisor_tree, is_constant_tree}
use Rattle.sg_text.specs.declared.printing.Level.{Level}
use Rattle.sg_text.specs.declared.printing.Level.TheVariants.{Sum, Term, Factor, Atom}
use Rattle.sg_text.specs.PrintedText.{level_of, is_below}
use Rattle.sg_text.proofs.PrintSteps.{left_true, right_true}
use Rattle.sg_text.proofs.PrintBounds.{left_empty, right_empty}
use Rattle.sg_text.proofs.PrintReads.{constant-form}
use Rattle.sg_text.proofs.PrintCosts.{Model, paid, owed}

-- one pair more, where a tree of the first level stands at a place of the second
abbrev pub cost_at : Level → Level → ℕ → ℕ
cost_at own wanted n = cond (is_below own wanted) (n + 1) n

abbrev pub parens : Placed → ℕ
parens (number s) = 0
parens (named s) = 0
parens (negated x) = cost_at (level_of x) Term (parens x)
parens (added x y) = parens x + cost_at (level_of y) Term (parens y)
parens (subtracted x y) = parens x + cost_at (level_of y) Term (parens y)
parens (multiplied x y) = cost_at (level_of x) Term (parens x) + cost_at (level_of y) Factor (parens y)
parens (divided x s y) = cost_at (level_of x) Term (parens x) + cost_at (level_of y) Factor (parens y)
parens (raised x e) = cost_at (level_of x) Atom (parens x)
parens (sum_call c b s l u x) = parens x + 1
parens (product_call c b s l u x) = parens x + 1
parens (harmonic c v) = 1
parens (harmonic_of_order c v r) = 1
parens (factorial c v) = 1
parens (binomial c s x v) = parens x + 1
parens (constant_power c x v) = parens x + 1

cost-term : (own : Level) (n : ℕ) → cost_at own Sum n ≤ cost_at own Term n
cost-term Sum n = omega arith
cost-term Term n = omega arith
cost-term Factor n = omega arith
cost-term Atom n = omega arith

cost-factor : (own : Level) (n : ℕ) → cost_at own Term n ≤ cost_at own Factor n
cost-factor Sum n = omega arith
cost-factor Term n = omega arith
cost-factor Factor n = omega arith
cost-factor Atom n = omega arith

cost-atom : (own : Level) (n : ℕ) → cost_at own Factor n ≤ cost_at own Atom n
cost-atom Sum n = omega arith
cost-atom Term n = omega arith
cost-atom Factor n = omega arith
cost-atom Atom n = omega arith

pub cost-least : (own wanted : Level) (n : ℕ) → n ≤ cost_at own wanted n
cost-least own wanted n = elim (is_below own wanted) as (λ q. n ≤ cond q (n + 1) n) [ true ↦ omega arith | false ↦ omega arith ]

cost-most : (own wanted : Level) (n : ℕ) → cost_at own wanted n ≤ n + 1
cost-most own wanted n = elim (is_below own wanted) as (λ q. cond q (n + 1) n ≤ n + 1) [ true ↦ omega arith | false ↦ omega arith ]

cost-sum : (own : Level) (n : ℕ) → cost_at own Sum n ≡ n
cost-sum Sum n = refl
cost-sum Term n = refl
cost-sum Factor n = refl
cost-sum Atom n = refl

abbrev at : Level → Placed → ℕ
at wanted t = cost_at (level_of t) wanted (parens t)

pub Parens : Model
Parens = record {
  at = at;
  at_number = at Atom;
  at_quotient = at Term;
  at_const = parens;
  pay = 1;
  of_number = λ s. refl;
  of_named = λ s. refl;
  of_negated = λ x. omega arith;
  of_added = λ x y. (let h = cost-sum (level_of x) (parens x) in omega arith);
  of_subtracted = λ x y. (let h = cost-sum (level_of x) (parens x) in omega arith);
  of_multiplied = λ x y. omega arith;
  of_divided = λ x s y. omega arith;
  of_raised = λ x e. omega arith;
  as_term = λ x. cost-term (level_of x) (parens x);
  as_factor = λ x. cost-factor (level_of x) (parens x);
  as_atom = λ x. cost-atom (level_of x) (parens x);
  enclosed = λ x. (let h = cost-sum (level_of x) (parens x) in let k = cost-most (level_of x) Atom (parens x) in omega arith);
  of_sum = λ c b s l u x. (let h = cost-sum (level_of x) (parens x) in omega arith);
  of_product = λ c b s l u x. (let h = cost-sum (level_of x) (parens x) in omega arith);
  of_harmonic = λ c v. omega arith;
  of_harmonic_of_order = λ c v r. omega arith;
  of_factorial = λ c v. omega arith;
  of_binomial = λ c s x v. (let h = cost-sum (level_of x) (parens x) in omega arith);
  of_power = λ c x v. omega arith;
  of_one = λ s. refl;
  as_quotient = λ x. (let h = cost-factor (level_of x) (parens x) in let k = cost-atom (level_of x) (parens x) in omega arith);
  of_quotient = λ x s y. (let h = cost-factor (level_of x) (parens x) in let k = cost-atom (level_of x) (parens x) in let j = cost-atom (level_of y) (parens y) in omega arith);
  as_const = λ x. cost-least (level_of x) Term (parens x);
  of_opposite = λ x. omega arith;
}

abbrev is_number : Placed → Bool
is_number (number s) = true
is_number x = false

abbrev is_ratio : Placed → Bool
is_ratio (number s) = true
is_ratio (divided x s y) = is_number x && is_number y
is_ratio x = false

abbrev is_const : Placed → Bool
is_const (number s) = true
is_const (divided x s y) = is_number x && is_number y
is_const (negated x) = is_ratio x
is_const x = false

abbrev bad : Placed → ℕ
bad (number s) = 0
bad (named s) = 0
bad (negated x) = bad x
bad (added x y) = bad x + bad y
bad (subtracted x y) = bad x + bad y
bad (multiplied x y) = bad x + bad y
bad (divided x s y) = bad x + bad y
bad (raised x e) = bad x
bad (sum_call c b s l u x) = bad x
bad (product_call c b s l u x) = bad x
bad (harmonic c v) = 0
bad (harmonic_of_order c v r) = 0
bad (factorial c v) = 0
bad (binomial c s x v) = bad x
bad (constant_power c x v) = cond (is_const x) 0 1

ratio-number : (x : Placed) → cond (is_ratio x) 0 1 ≤ cond (is_number x) 0 1
ratio-number (number s) = omega arith
ratio-number (divided x s y) = elim (is_number x && is_number y) as (λ q. cond q 0 1 ≤ 1) [ true ↦ omega arith | false ↦ omega arith ]
ratio-number x = omega arith

const-ratio : (x : Placed) → cond (is_const x) 0 1 ≤ cond (is_ratio x) 0 1
const-ratio (number s) = omega arith
const-ratio (divided x s y) = omega arith
const-ratio (negated x) = elim (is_ratio x) as (λ q. cond q 0 1 ≤ 1) [ true ↦ omega arith | false ↦ omega arith ]
const-ratio x = omega arith

both-numbers : (a b : Bool) → cond (a && b) 0 1 ≤ cond a 0 1 + cond b 0 1
both-numbers true true = omega arith
both-numbers true false = omega arith
both-numbers false b = omega arith

pub Bad : Model
Bad = record {
  at = λ l t. bad t;
  at_number = λ t. cond (is_number t) 0 1;
  at_quotient = λ t. cond (is_ratio t) 0 1;
  at_const = λ t. cond (is_const t) 0 1;
  pay = 0;
  of_number = λ s. refl;
  of_named = λ s. refl;
  of_negated = λ x. omega arith;
  of_added = λ x y. omega arith;
  of_subtracted = λ x y. omega arith;
  of_multiplied = λ x y. omega arith;
  of_divided = λ x s y. omega arith;
  of_raised = λ x e. omega arith;
  as_term = λ x. omega arith;
  as_factor = λ x. omega arith;
  as_atom = λ x. omega arith;
  enclosed = λ x. omega arith;
  of_sum = λ c b s l u x. omega arith;
  of_product = λ c b s l u x. omega arith;
  of_harmonic = λ c v. omega arith;
  of_harmonic_of_order = λ c v r. omega arith;
  of_factorial = λ c v. omega arith;
  of_binomial = λ c s x v. omega arith;
  of_power = λ c x v. omega arith;
  of_one = λ s. refl;
  as_quotient = ratio-number;
  of_quotient = λ x s y. both-numbers (is_number x) (is_number y);
  as_const = const-ratio;
  of_opposite = λ x. omega arith;
}

pub holds_if : (t : Bool) (kind : Kind) (place : ℕ) → fault_unless t kind place ≡ [] → t ≡ true
holds_if true kind place h = refl
holds_if false kind place h = cc

no_longer : (t : Bool) → not t ≡ true → t ≡ false
no_longer true h = cc
no_longer false h = refl

known_by : (names : List ℕ) (c : ℕ) → is_parameter names c ≡ true → has_parameter names ≡ true
known_by [] c h = cc
known_by (v ∷ []) c h = cc
known_by (v ∷ (p ∷ more)) c h = refl

inside_parameter : (b : ℕ) (names : List ℕ) → has_parameter (inside b names) ≡ has_parameter names
inside_parameter b [] = refl
inside_parameter b (v ∷ []) = refl
inside_parameter b (v ∷ (p ∷ more)) = refl

signed_size : (s n : ℕ) → unsigned_abs (signed s n) ≡ n
signed_size zero n = refl
signed_size (suc s) zero = refl
signed_size (suc s) (suc n) = refl

natural : (n : ℕ) → pos 0 ≤ℤ pos n
natural n = omega (arith, ints)

pub divisor-tree : (names : List ℕ) (t : Placed) → is_divisor names t ≡ true → is_divisor_tree (tree_in names t) ≡ true
divisor-tree names t h = right_true (all_known names t) (is_divisor_tree (tree_in names t)) h

-- the parts of the faults of a call
pub call_alone : (i : Bool) (names : List ℕ) (c v : Spot) → call_faults i names c v ≡ [] → i ≡ false
call_alone i names c v h = no_longer i (holds_if (not i) form c.place (left_empty (fault_unless (not i) form c.place) (fault_unless (is_variable names v.value) form v.place) h))

abbrev first_two : Bool → List ℕ → Spot → Spot → List Fault
first_two i names c bound = fault_unless (not i) form c.place ++ fault_unless (not (is_parameter names bound.value)) form bound.place

bound_three : (i : Bool) (names : List ℕ) (c bound sign lower upper : Spot) → bound_faults unlimited i names c bound sign lower upper ≡ []
    → first_two i names c bound ++ fault_unless (is_small lower.value) form sign.place ≡ []
bound_three i names c bound sign lower upper h =
    let three : List Fault = first_two i names c bound ++ fault_unless (is_small lower.value) form sign.place in
    left_empty three [] (left_empty (three ++ []) (fault_unless (is_variable names upper.value) form upper.place) h)

pub bound_alone : (i : Bool) (names : List ℕ) (c bound sign lower upper : Spot) → bound_faults unlimited i names c bound sign lower upper ≡ [] → i ≡ false
bound_alone i names c bound sign lower upper h =
    no_longer i (holds_if (not i) form c.place (left_empty (fault_unless (not i) form c.place) (fault_unless (not (is_parameter names bound.value)) form bound.place)
    (left_empty (first_two i names c bound) (fault_unless (is_small lower.value) form sign.place) (bound_three i names c bound sign lower upper h))))

pub bound_small : (i : Bool) (names : List ℕ) (c bound sign lower upper : Spot) → bound_faults unlimited i names c bound sign lower upper ≡ [] → is_small (unsigned_abs (signed sign.value lower.value)) ≡ true
bound_small i names c bound sign lower upper h =
    ap is_small (signed_size sign.value lower.value) ∙ holds_if (is_small lower.value) form sign.place
    (right_empty (first_two i names c bound) (fault_unless (is_small lower.value) form sign.place) (bound_three i names c bound sign lower upper h))

module _ (known : Bool) where
  form-number : (names : List ℕ) (x : Placed) → is_number x ≡ true → InForm known true (tree_in names x) × (is_divisor_tree (tree_in names x) ≡ true)
  form-number names (number s) h = (natural s.value, refl)
  form-number names x h = cc

  form-ratio : (names : List ℕ) (x : Placed) → is_ratio x ≡ true → InForm known true (tree_in names x)
  form-ratio names (number s) h = natural s.value
  form-ratio names (divided x s y) h =
      let (a, d) = form-number names x (left_true (is_number x) (is_number y) h) in
      let (b, e) = form-number names y (right_true (is_number x) (is_number y) h) in
      (a, b, e)
  form-ratio names x h = cc

  form-const : (names : List ℕ) (x : Placed) → is_const x ≡ true → InForm known true (tree_in names x)
  form-const names (number s) h = natural s.value
  form-const names (divided x s y) h = form-ratio names (divided x s y) h
  form-const names (negated x) h = form-ratio names x h
  form-const names x h = cc

no_bad : (t : Bool) → ◌≡◌ {A = ℕ} (cond t 0 1) 0 → t ≡ true
no_bad true h = refl
no_bad false h = absurd (omega arith)

name-form : (i known t p : Bool) → (t || p) ≡ true → (p ≡ true → known ≡ true) → InForm known i (cond t here param)
name-form i known true p h k = tt
name-form i known false p h k = k h

pub in_form : (i : Bool) (names : List ℕ) (t : Placed) → faults unlimited i names t ≡ [] → bad t ≡ 0 → InForm (has_parameter names) i (tree_in names t)
in_form i names (number s) h n = natural s.value
in_form i names (named s) h n =
    name-form i (has_parameter names) (is_variable names s.value) (is_parameter names s.value) (holds_if (is_known names s.value) unbound s.place h) (known_by names s.value)
in_form i names (negated x) h n = in_form i names x h n
in_form i names (added x y) h n =
    (in_form i names x (left_empty (faults unlimited i names x) (faults unlimited i names y) h) (omega arith), in_form i names y (right_empty (faults unlimited i names x) (faults unlimited i names y) h) (omega arith))
in_form i names (subtracted x y) h n =
    (in_form i names x (left_empty (faults unlimited i names x) (faults unlimited i names y) h) (omega arith), in_form i names y (right_empty (faults unlimited i names x) (faults unlimited i names y) h) (omega arith))
in_form i names (multiplied x y) h n =
    (in_form i names x (left_empty (faults unlimited i names x) (faults unlimited i names y) h) (omega arith), in_form i names y (right_empty (faults unlimited i names x) (faults unlimited i names y) h) (omega arith))
in_form i names (divided x s y) h n =
    let test : List Fault = fault_unless (is_divisor names y) form s.place in
    let top : faults unlimited i names x ++ test ≡ [] = left_empty (faults unlimited i names x ++ test) (faults unlimited i names y) h in (
      in_form i names x (left_empty (faults unlimited i names x) test top) (omega arith),
      in_form i names y (right_empty (faults unlimited i names x ++ test) (faults unlimited i names y) h) (omega arith),
      divisor-tree names y (holds_if (is_divisor names y) form s.place (right_empty (faults unlimited i names x) test top)),
    )
in_form i names (raised x e) h n = in_form i names x (left_empty (faults unlimited i names x) [] h) n
in_form i names (sum_call c bound sign lower upper x) h n =
    let mine : bound_faults unlimited i names c bound sign lower upper ≡ [] = left_empty (bound_faults unlimited i names c bound sign lower upper) (faults unlimited i (inside bound.value names) x) h in
    let alone : i ≡ false = bound_alone i names c bound sign lower upper mine in
    let body : faults unlimited i (inside bound.value names) x ≡ [] = right_empty (bound_faults unlimited i names c bound sign lower upper) (faults unlimited i (inside bound.value names) x) h in (
      alone,
      bound_small i names c bound sign lower upper mine,
      subst (λ q. InForm q false (tree_in (inside bound.value names) x)) (inside_parameter bound.value names)
          (subst (λ q. InForm (has_parameter (inside bound.value names)) q (tree_in (inside bound.value names) x)) alone (in_form i (inside bound.value names) x body n)),
    )
in_form i names (product_call c bound sign lower upper x) h n =
    let mine : bound_faults unlimited i names c bound sign lower upper ≡ [] = left_empty (bound_faults unlimited i names c bound sign lower upper) (faults unlimited true (inside bound.value names) x) h in
    let body : faults unlimited true (inside bound.value names) x ≡ [] = right_empty (bound_faults unlimited i names c bound sign lower upper) (faults unlimited true (inside bound.value names) x) h in (
      bound_alone i names c bound sign lower upper mine,
      bound_small i names c bound sign lower upper mine,
      subst (λ q. InForm q true (tree_in (inside bound.value names) x)) (inside_parameter bound.value names) (in_form true (inside bound.value names) x body n),
    )
in_form i names (harmonic c v) h n = (call_alone i names c v h, refl, (natural 1, tt, refl))
in_form i names (harmonic_of_order c v r) h n = (
  call_alone i names c v (left_empty (call_faults i names c v) (fault_unless (not (r.value == 0) && true) exponent_fault r.place) h),
  refl,
  elim (r.value == 1) as (λ q. InForm (has_parameter names) false (div (numeral (pos 1)) (cond q here (power here r.value)))) [ true ↦ (natural 1, tt, refl) | false ↦ (natural 1, tt, refl) ],
)
in_form i names (factorial c v) h n = (call_alone i names c v h, refl, tt)
in_form i names (binomial c s x v) h n =
    let test : List Fault = fault_unless (is_constant names x) form s.place in
    let top : call_faults i names c v ++ test ≡ [] = left_empty (call_faults i names c v ++ test) (faults unlimited i names x) h in
    let constant : is_constant_tree (tree_in names x) ≡ true = (holds_if (is_constant names x) form s.place (right_empty (call_faults i names c v) test top)) in (
      call_alone i names c v (left_empty (call_faults i names c v) test top),
      refl,
      (((constant-form (has_parameter names) i true (tree_in names x) constant (in_form i names x (right_empty (call_faults i names c v ++ test) (faults unlimited i names x) h) n), natural 1), tt), tt, refl),
    )
in_form i names (constant_power c x v) h n =
    (call_alone i names c v (left_empty (call_faults i names c v) (faults unlimited i names x) h), refl, form-const (has_parameter names) names x (no_bad (is_const x) n))

paid-nothing : (w : List ℕ) → paid 0 w ≡ 0
paid-nothing [] = refl
paid-nothing (b ∷ w) = let h = paid-nothing w in elim (b == 41) as (λ q. cond q (paid 0 w + 0) (paid 0 w) ≡ 0) [ true ↦ omega arith | false ↦ h ]

pub form_of : (names : List ℕ) (e : Tree) → IsPrintable names e → InForm (has_parameter names) false e
unfolding Bad
form_of names e (w, r) =
    let k : bad r.placed ≤ paid 0 w = owed Bad w r.placed r.has_tree in
    let z : paid 0 w ≡ 0 = paid-nothing w in
    subst (λ q. InForm (has_parameter names) false q) r.meaning (in_form false names r.placed r.no_fault (omega arith))

-- so is what a reader answers
pub read_form : (bounds : Bounds) (names w : List ℕ) (e : Tree) → IsRead bounds names w e → InForm (has_parameter names) false e
read_form bounds names w e r = form_of names e (w, r.reads)

pub parens_paid : (w : List ℕ) (t : Placed) → HasTree w t → parens t ≤ paid 1 w
unfolding Parens
parens_paid w t h =
    let k : cost_at (level_of t) Sum (parens t) ≤ paid 1 w = owed Parens w t h in
    let e = cost-sum (level_of t) (parens t) in omega arith
