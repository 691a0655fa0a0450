-- What the parts of a printed text mean, with the tests that a reader makes of them.
--   Fine      a placed tree without fault, its tree, and what it is for those tests
--   fine-..   the same for each kind of placed tree
use Rattle.std.specs.Prelude.{◌≡◌, ◌==◌, ℕ, ℤ, pos, negsuc, unsigned_abs, Bool, true, false, not, cond, ◌&&◌, ◌||◌, List, [], ◌++◌}
use Rattle.std.proofs.Common.{refl, sym, ap, ◌∙◌}
use Rattle.sg_spec.specs.Tree.{Tree, numeral, here, param, add, neg, mul, div, power, sum_from, prod_from}
use Rattle.sg_spec.specs.Syntax.{Spot, Placed, number, named, negated, added, subtracted, multiplied, divided, raised, sum_call, product_call, harmonic, harmonic_of_order, factorial, binomial, constant_power}
use Rattle.sg_spec.specs.Reading.{is_variable, is_parameter, is_known, inside, signed, harmonic_sum, binomial_product, tree_in, is_constant, is_small, exponent_fault, unbound, form, unlimited, fault_unless, bound_faults, call_faults, faults}
use Rattle.sg_spec.specs.Shape.{is_polynomial_tree, is_divisor_tree, is_constant_tree}
use Rattle.sg_text.specs.Tests.{polynomial_in, divisor_in, constant_in}
use Rattle.sg_text.proofs.Tested.{divisor_in-is, constant_in-is}
use Rattle.sg_text.specs.PrintedText.{sign_of}
use Rattle.sg_text.proofs.Printed.{at_spot, Means}
use Rattle.sg_text.proofs.Meanings.{both_empty, no_fault_if, means-number, means-neg, means-add, means-sub, means-mul, means-div, means-power}
use Rattle.sg_text.proofs.PrintSteps.{left_true, right_true}

pub record Fine (names : List ℕ) (in_product : Bool) (e : Tree) (t : Placed) : Type 0 where
  pub means : Means unlimited in_product names e t
  pub polynomial : is_polynomial_tree e ≡ true → polynomial_in names t ≡ true
  pub divisor : is_divisor_tree e ≡ true → divisor_in names t ≡ true
  pub constant : is_constant_tree e ≡ true → constant_in names t ≡ true

both_hold : (a b : Bool) → a ≡ true → b ≡ true → (a && b) ≡ true
both_hold a b h k = ap (λ q. q && b) h ∙ k

both : (a b c d : Bool) → (a ≡ true → c ≡ true) → (b ≡ true → d ≡ true) → (a && b) ≡ true → (c && d) ≡ true
both a b c d f g h = both_hold c d (f (left_true a b h)) (g (right_true a b h))

module _ (names : List ℕ) (in_product : Bool) where
  pub fine-number : (n s : ℕ) → Fine names in_product (numeral (pos n)) (number (at_spot s n))
  fine-number n s = record { means = means-number unlimited in_product names n s refl; polynomial = λ h. refl; divisor = λ h. refl; constant = λ h. refl }

  pub fine-neg : (e : Tree) (x : Placed) → Fine names in_product e x → Fine names in_product (neg e) (negated x)
  fine-neg e x h = record { means = means-neg unlimited in_product names e x h.means; polynomial = h.polynomial; divisor = h.divisor; constant = h.constant }

  pub fine-add : (e f : Tree) (x y : Placed) → Fine names in_product e x → Fine names in_product f y → Fine names in_product (add e f) (added x y)
  fine-add e f x y h k = record {
    means = means-add unlimited in_product names e f x y h.means k.means;
    polynomial = both (is_polynomial_tree e) (is_polynomial_tree f) (polynomial_in names x) (polynomial_in names y) h.polynomial k.polynomial;
    divisor = both (is_polynomial_tree e) (is_polynomial_tree f) (polynomial_in names x) (polynomial_in names y) h.polynomial k.polynomial;
    constant = both (is_constant_tree e) (is_constant_tree f) (constant_in names x) (constant_in names y) h.constant k.constant;
  }

  pub fine-sub : (e f : Tree) (x y : Placed) → Fine names in_product e x → Fine names in_product f y → Fine names in_product (add e (neg f)) (subtracted x y)
  fine-sub e f x y h k = record {
    means = means-sub unlimited in_product names e f x y h.means k.means;
    polynomial = both (is_polynomial_tree e) (is_polynomial_tree f) (polynomial_in names x) (polynomial_in names y) h.polynomial k.polynomial;
    divisor = both (is_polynomial_tree e) (is_polynomial_tree f) (polynomial_in names x) (polynomial_in names y) h.polynomial k.polynomial;
    constant = both (is_constant_tree e) (is_constant_tree f) (constant_in names x) (constant_in names y) h.constant k.constant;
  }

  pub fine-mul : (e f : Tree) (x y : Placed) → Fine names in_product e x → Fine names in_product f y → Fine names in_product (mul e f) (multiplied x y)
  fine-mul e f x y h k = record {
    means = means-mul unlimited in_product names e f x y h.means k.means;
    polynomial = both (is_polynomial_tree e) (is_polynomial_tree f) (polynomial_in names x) (polynomial_in names y) h.polynomial k.polynomial;
    divisor = both (is_divisor_tree e) (is_divisor_tree f) (divisor_in names x) (divisor_in names y) h.divisor k.divisor;
    constant = both (is_constant_tree e) (is_constant_tree f) (constant_in names x) (constant_in names y) h.constant k.constant;
  }

  pub fine-div : (e f : Tree) (x y : Placed) (s : Spot) → is_divisor_tree f ≡ true → Fine names in_product e x → Fine names in_product f y → Fine names in_product (div e f) (divided x s y)
  fine-div e f x y s d h k = record {
    means = means-div unlimited in_product names e f x y s h.means (record { means = k.means; divides = sym (divisor_in-is names y) ∙ k.divisor d });
    polynomial = λ q. q;
    divisor = λ q. q;
    constant = λ q. q;
  }

  pub fine-power : (e : Tree) (x : Placed) (n s : ℕ) → Fine names in_product e x → Fine names in_product (power e n) (raised x (at_spot s n))
  fine-power e x n s h = record { means = means-power unlimited in_product names e x n s refl h.means; polynomial = h.polynomial; divisor = h.divisor; constant = h.constant }

  pub fine-parameter : (p s : ℕ) → is_parameter names p ≡ true → is_variable names p ≡ false → Fine names in_product param (named (at_spot s p))
  fine-parameter p s h k =
      let known : is_known names p ≡ true = ap (λ q. q || is_parameter names p) k ∙ h in
      record {
        means = record { no_fault = no_fault_if (is_known names p) unbound s known; meaning = ap (λ q. cond q here param) k };
        polynomial = λ q. known;
        divisor = λ q. known;
        constant = λ q. ap not k;
      }

  -- what a call needs: it stands in no product, and its name is the variable
  call_clear : (v s t : ℕ) → in_product ≡ false → is_variable names v ≡ true → call_faults in_product names (at_spot s 0) (at_spot t v) ≡ []
  call_clear v s t i h = both_empty (fault_unless (not in_product) form s) (fault_unless (is_variable names v) form t) (no_fault_if (not in_product) form s (ap not i)) (no_fault_if (is_variable names v) form t h)

  bound_clear : (z : ℤ) (b v s1 s2 s3 s4 s5 : ℕ) → in_product ≡ false → is_small (unsigned_abs z) ≡ true → is_parameter names b ≡ false → is_variable names v ≡ true
      → bound_faults unlimited in_product names (at_spot s1 0) (at_spot s2 b) (at_spot s3 (sign_of z)) (at_spot s4 (unsigned_abs z)) (at_spot s5 v) ≡ []
  bound_clear z b v s1 s2 s3 s4 s5 i small h k =
      let call = fault_unless (not in_product) form s1 in
      let bound = fault_unless (not (is_parameter names b)) form s2 in
      let limit = fault_unless (is_small (unsigned_abs z)) form s3 in
      let upper = fault_unless (is_variable names v) form s5 in
      both_empty (call ++ bound ++ limit ++ []) upper
      (both_empty (call ++ bound ++ limit) []
      (both_empty (call ++ bound) limit
      (both_empty call bound (no_fault_if (not in_product) form s1 (ap not i)) (no_fault_if (not (is_parameter names b)) form s2 (ap not h)))
      (no_fault_if (is_small (unsigned_abs z)) form s3 small)) refl)
      (no_fault_if (is_variable names v) form s5 k)

signed_limit : (z : ℤ) → signed (sign_of z) (unsigned_abs z) ≡ z
signed_limit (pos n) = refl
signed_limit (negsuc n) = refl

module _ (names : List ℕ) (v : ℕ) (variable : is_variable names v ≡ true) where
  pub fine-variable : (in_product : Bool) (s : ℕ) → Fine names in_product here (named (at_spot s v))
  fine-variable in_product s =
      let known : is_known names v ≡ true = ap (λ q. q || is_parameter names v) variable in
      record {
        means = record { no_fault = no_fault_if (is_known names v) unbound s known; meaning = ap (λ q. cond q here param) variable };
        polynomial = λ q. known;
        divisor = λ q. known;
        constant = λ q. cc;
      }

  pub fine-sum : (z : ℤ) (b : ℕ) (e : Tree) (x : Placed) (s1 s2 s3 s4 s5 : ℕ) → is_small (unsigned_abs z) ≡ true → is_parameter names b ≡ false
      → Means unlimited false (inside b names) e x
      → Fine names false (sum_from z e) (sum_call (at_spot s1 0) (at_spot s2 b) (at_spot s3 (sign_of z)) (at_spot s4 (unsigned_abs z)) (at_spot s5 v) x)
  fine-sum z b e x s1 s2 s3 s4 s5 small h m = record {
    means = record {
      no_fault = both_empty (bound_faults unlimited false names (at_spot s1 0) (at_spot s2 b) (at_spot s3 (sign_of z)) (at_spot s4 (unsigned_abs z)) (at_spot s5 v)) (faults unlimited false (inside b names) x)
          (bound_clear names false z b v s1 s2 s3 s4 s5 refl small h variable) m.no_fault;
      meaning = ap (λ q. sum_from q (tree_in (inside b names) x)) (signed_limit z) ∙ ap (sum_from z) m.meaning;
    };
    polynomial = λ q. q;
    divisor = λ q. q;
    constant = λ q. q;
  }

  pub fine-product : (z : ℤ) (b : ℕ) (e : Tree) (x : Placed) (s1 s2 s3 s4 s5 : ℕ) → is_small (unsigned_abs z) ≡ true → is_parameter names b ≡ false
      → Means unlimited true (inside b names) e x
      → Fine names false (prod_from z e) (product_call (at_spot s1 0) (at_spot s2 b) (at_spot s3 (sign_of z)) (at_spot s4 (unsigned_abs z)) (at_spot s5 v) x)
  fine-product z b e x s1 s2 s3 s4 s5 small h m = record {
    means = record {
      no_fault = both_empty (bound_faults unlimited false names (at_spot s1 0) (at_spot s2 b) (at_spot s3 (sign_of z)) (at_spot s4 (unsigned_abs z)) (at_spot s5 v)) (faults unlimited true (inside b names) x)
          (bound_clear names false z b v s1 s2 s3 s4 s5 refl small h variable) m.no_fault;
      meaning = ap (λ q. prod_from q (tree_in (inside b names) x)) (signed_limit z) ∙ ap (prod_from z) m.meaning;
    };
    polynomial = λ q. q;
    divisor = λ q. refl;
    constant = λ q. q;
  }

  pub fine-harmonic : (s t : ℕ) → Fine names false (harmonic_sum 1) (harmonic (at_spot s 0) (at_spot t v))
  fine-harmonic s t = record {
    means = record { no_fault = call_clear names false v s t refl variable; meaning = refl };
    polynomial = λ q. q;
    divisor = λ q. q;
    constant = λ q. q;
  }

  pub fine-harmonic_of_order : (r s t u : ℕ) → (r == 0) ≡ false → Fine names false (harmonic_sum r) (harmonic_of_order (at_spot s 0) (at_spot t v) (at_spot u r))
  fine-harmonic_of_order r s t u h = record {
    means = record {
      no_fault = both_empty (call_faults false names (at_spot s 0) (at_spot t v)) (fault_unless (not (r == 0) && true) exponent_fault u) (call_clear names false v s t refl variable)
          (no_fault_if (not (r == 0) && true) exponent_fault u (ap (λ q. not q && true) h));
      meaning = refl;
    };
    polynomial = λ q. q;
    divisor = λ q. q;
    constant = λ q. q;
  }

  pub fine-factorial : (s t : ℕ) → Fine names false (prod_from (pos 1) here) (factorial (at_spot s 0) (at_spot t v))
  fine-factorial s t = record {
    means = record { no_fault = call_clear names false v s t refl variable; meaning = refl };
    polynomial = λ q. q;
    divisor = λ q. refl;
    constant = λ q. q;
  }

  pub fine-binomial : (e : Tree) (x : Placed) (s t u : ℕ) → is_constant_tree e ≡ true → Fine names false e x
      → Fine names false (binomial_product e) (binomial (at_spot s 0) (at_spot u 0) x (at_spot t v))
  fine-binomial e x s t u c h = record {
    means = record {
      no_fault = both_empty (call_faults false names (at_spot s 0) (at_spot t v) ++ fault_unless (is_constant names x) form u) (faults unlimited false names x)
          (both_empty (call_faults false names (at_spot s 0) (at_spot t v)) (fault_unless (is_constant names x) form u) (call_clear names false v s t refl variable) (no_fault_if (is_constant names x) form u (sym (constant_in-is names x) ∙ h.constant c)))
          h.means.no_fault;
      meaning = ap binomial_product h.means.meaning;
    };
    polynomial = λ q. q;
    divisor = λ q. refl;
    constant = λ q. q;
  }

  pub fine-constant_power : (e : Tree) (x : Placed) (s t : ℕ) → Fine names false e x → Fine names false (prod_from (pos 1) e) (constant_power (at_spot s 0) x (at_spot t v))
  fine-constant_power e x s t h = record {
    means = record {
      no_fault = both_empty (call_faults false names (at_spot s 0) (at_spot t v)) (faults unlimited false names x) (call_clear names false v s t refl variable) h.means.no_fault;
      meaning = ap (prod_from (pos 1)) h.means.meaning;
    };
    polynomial = λ q. q;
    divisor = λ q. refl;
    constant = λ q. q;
  }
