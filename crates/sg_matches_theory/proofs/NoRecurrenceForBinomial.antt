-- A whole instance with the parameter: the square of binom(n,k) has no recurrence of order 0.
--   same_places          functions of k over those of n with one value at each place are equal
--   lower, upper         the polynomials k + 1 and n - k; `factor-is`: the factor of binom(n,k) times k + 1 is n - k
--   apart                they are apart at every shift
--   binomial_only        powers of the factor other than 1 aren't r(k + 1)/r(k)
--   no_solution          ((n-k)/(k+1))^2 h(k + 1) - h(k) = c only for c = 0
--   binomial_none        no recurrence of order 0
use Rattle.std.proofs.Common.{◌≡◌, ℕ, zero, suc, ◌<◌, ◌≤◌, ℤ, pos, negsuc, ◌+ℤ◌, ◌≤ℤ◌, refl, sym, ap, ap₂, ◌∙◌, subst, List, [], ◌∷◌, length, map, get_or, true, arith}
use Rattle.std.proofs.lemmas.Int.{ints}
use Rattle.sg_algebra.specs.Coefficients.{eval}
use Rattle.sg_algebra.proofs.Ring.{nat, pow, I_mul}
use Rattle.sg_algebra.proofs.Solver.{by, ring, scale, reads}
use Rattle.sg_algebra.proofs.Divides.{Divides, iter, dvd_refl, on-pow, on-neg, on-O}
use Rattle.sg_algebra.proofs.Coprime.{Coprime}
use Rattle.sg_algebra.proofs.Field.{product_ne}
use Rattle.sg_algebra.proofs.Value.{Value, ◌+ᵛ◌, ◌*ᵛ◌, ◌/ᵛ◌, neg_value, inv_value, zero_value, one_value}
use Rattle.sg_algebra.proofs.ValueField.{ValueR, ValueF, ValueD, value_mul-inv, value_one_ne, value_product}
use Rattle.sg_algebra.proofs.Embedding.{constant_value, constant_valueH, numeral_ne, whole_value_zero}
use Rattle.sg_algebra.proofs.Rational.{whole_value}
use Rattle.sg_algebra.proofs.Polynomial.{Polynomial, PolynomialR, PolynomialD, poly, poly_same, coefficient, constant, one_polynomial, zero_polynomial, neg_polynomial, ◌+ᵖ◌, ◌*ᵖ◌}
use Rattle.sg_spec.specs.Tree.{Tree, numeral, here, param, add, neg, div, power, prod_from}
use Rattle.sg_worth_theory.proofs.Worths.{worth_unique}
use Rattle.sg_algebra.proofs.ShiftValue.{shift_value, shift_valueH, shift_value-constant}
use Rattle.sg_dispersion_theory.proofs.Listed.{list_of, poly-list_of}
use Rattle.sg_first_order_theory.proofs.Fractions.{Solves, solution_sides, whole_part, solves_below}
use Rattle.sg_first_order_theory.proofs.Next.{next, nextH, unit_denominator}
use Rattle.sg_first_order_theory.proofs.Weighted.{weighted}
use Rattle.sg_first_order_theory.proofs.Bounds.{indicial}
use Rattle.sg_first_order_theory.proofs.Bounded.{bounded_second}
use Rattle.sg_first_order_theory.proofs.Under.{Under}
use Rattle.sg_first_order_theory.proofs.FirstOrder.{left}
use Rattle.sg_first_order_theory.proofs.ValueFractions.{whole, whole_same, whole-poly, whole-one, whole-add, whole-mul, whole-zero, whole-next, value_fractions, wholeH}
use Rattle.sg_relations_theory.specs.Relations.{Holds, AllZero, OnlyZeros}
use Rattle.sg_relations_theory.proofs.Apart.{Apart, apart_symm, apart-pow, apart-pow_left}
use Rattle.sg_relations_theory.proofs.RatioTheorem.{Related}
use Rattle.sg_relations_theory.proofs.AtValues.{rel_values}
use Rattle.sg_tower_theory.specs.Powers.{powers}
use Rattle.sg_tower_theory.proofs.Difference.{delta, total, Solves as Solves'}
use Rattle.sg_tower_theory.proofs.Products.{Exponents, listed, coefficient as coefficient_at, coefficient_cong, coefficient-add, coefficient-neg, coefficient-none, coefficient-scale, coefficient-shift}
use Rattle.sg_tower_theory.proofs.Monomials.{one_term-is}
use Rattle.sg_tower_theory.proofs.ProductSlices.{monomial-at}
use Rattle.sg_tower_theory.proofs.Flat.{unit_in}
use Rattle.sg_tower_theory.proofs.Formal.{Formal, Element, elements, shifted, no_sums, factors, factors_some, repaired, repaired_same}
use Rattle.sg_relations_theory.proofs.Factors.{to_factors}
use Rattle.sg_value_theory.proofs.FlatValues.{units_value}
use Rattle.sg_value_theory.proofs.Inverses.{has-unit}
use Rattle.sg_value_theory.proofs.Elements.{IsQuotientAt, HasElement}
use Rattle.sg_answers_theory.specs.Recurrences.{NoRec}
use Rattle.sg_answers_theory.proofs.ElementsOver.{AgreesFrom}
use Rattle.sg_answers_theory.proofs.NoneToOrder.{no_relation}
use Rattle.sg_matches_theory.proofs.FreeInValues.{tower_of}
use Rattle.sg_value_theory.proofs.Evaluation.{pow_has}
use Rattle.sg_value_theory.proofs.First.{zero_only}
use Rattle.sg_value_theory.proofs.NextPlace.{quotient-moves, whole-next as whole-further}
use Rattle.sg_value_theory.proofs.Quotients.{quotients, quotient-polynomial, quotient-constant}
use Rattle.sg_value_theory.proofs.RationalPlaces.{rational_places, lawful_rational, variable, variable_at, nat_at, whole_at}
use Rattle.sg_answers_theory.proofs.AtParameters.{place, letter}
use Rattle.sg_answers_theory.proofs.Answers.{IsProductOf}
use Rattle.sg_answers_theory.proofs.OwnProducts.{HasSome, own_product, product_worth, placed_own}
use Rattle.sg_answers_theory.proofs.Relating.{function_at, function-at}

-- ---- Functions of k over functions of n

K : ℤ → Value 1
K k = whole_value 1 k

same_places : (x y : Value 2) → ((j : ℕ) → (u : Value 1) × IsQuotientAt {d = 1} (place j) x u × IsQuotientAt {d = 1} (place j) y u) → x ≡ y
same_places x y h = by (ValueR 2) (x ∷ y ∷ []) (zero_only (ValueD 2) (ValueD 1) (shift_valueH 1) (rational_places 1 (pos 0)) (lawful_rational 1) (x +ᵛ neg_value y) 0 none) (search reads depth 12) refl
  where
    none : (j : ℕ) (v : Value 1) → 0 ≤ j → IsQuotientAt {d = 1} (place j) (x +ᵛ neg_value y) v → v ≡ zero_value
    none j v l i =
        let r = h j in
        let q = quotients 1 (place j) in
        q.unique (x +ᵛ neg_value y) v (r.0 +ᵛ neg_value r.0) i (q.add_has x (neg_value y) r.0 (neg_value r.0) r.1 (q.neg_has y r.0 r.2)) ∙ ring (ValueR 1) (r.0 ∷ []) (search reads depth 12) refl

-- n plus a number isn't 0
letter_ne : (w : Value 1) (u : Value 0) → ((n : ℤ) → IsQuotientAt {d = 0} n w u) → ¬ (letter +ᵛ w ≡ zero_value)
letter_ne w u h e = value_one_ne 0 (by (ValueR 0) (u ∷ []) ((ValueR 0).add_cong (at (pos 1)) (scale (ValueR 0) (neg_value one_value) (at (pos 0)))) (search reads depth 20) refl)
  where
    at : (n : ℤ) → whole_value 0 n +ᵛ u ≡ zero_value
    at n = (quotients 0 n).unique zero_value (whole_value 0 n +ᵛ u) zero_value (subst (λ (x : Value 1). IsQuotientAt {d = 0} n x (whole_value 0 n +ᵛ u)) e ((quotients 0 n).add_has letter w (whole_value 0 n) u (variable_at 0 n) (h n))) (quotients 0 n).zero_has

-- ---- The polynomials

abbrev lower : Polynomial 1
lower = poly (one_value ∷ one_value ∷ [])

abbrev upper : Polynomial 1
upper = poly (letter ∷ neg_value one_value ∷ [])

list-at : (p : List (Value 1)) (k : ℤ) → IsQuotientAt {d = 1} k (whole (poly p)) (eval (ValueR 1) p (whole_value 1 k))
list-at p k = subst (λ (x : Value 2). IsQuotientAt k x (eval (ValueR 1) p (whole_value 1 k))) (sym (whole-poly p)) (quotient-polynomial k p)

lower-at : (k : ℤ) → IsQuotientAt {d = 1} k (whole lower) (whole_value 1 k +ᵛ one_value)
lower-at k = subst (IsQuotientAt k (whole lower)) (ring (ValueR 1) (whole_value 1 k ∷ []) (search reads depth 16) refl) (list-at (one_value ∷ one_value ∷ []) k)

upper-at : (k : ℤ) → IsQuotientAt {d = 1} k (whole upper) (letter +ᵛ neg_value (whole_value 1 k))
upper-at k = subst (IsQuotientAt k (whole upper)) (ring (ValueR 1) (letter ∷ whole_value 1 k ∷ []) (search reads depth 16) refl) (list-at (letter ∷ neg_value one_value ∷ []) k)

-- ---- Apart

C : Value 1 → Value 2
C c = constant_value 1 c

abbrev V : Value 2
V = variable 1

lower-is : whole lower ≡ V +ᵛ one_value
lower-is = same_places (whole lower) (V +ᵛ one_value) (λ j. (whole_value 1 (place j) +ᵛ one_value, lower-at (place j), (quotients 1 (place j)).add_has V one_value (whole_value 1 (place j)) one_value (variable_at 1 (place j)) (quotients 1 (place j)).one_has))

upper-is : whole upper ≡ constant_value 1 letter +ᵛ neg_value V
upper-is = same_places (whole upper) (constant_value 1 letter +ᵛ neg_value V) (λ j. (
  letter +ᵛ neg_value (whole_value 1 (place j)),
  upper-at (place j),
  (quotients 1 (place j)).add_has (constant_value 1 letter) (neg_value V) letter (neg_value (whole_value 1 (place j))) (quotient-constant (place j) letter) ((quotients 1 (place j)).neg_has V (whole_value 1 (place j)) (variable_at 1 (place j))),
))

next-variable : shift_value 1 V ≡ V +ᵛ one_value
next-variable = same_places (shift_value 1 V) (V +ᵛ one_value) (λ j. (
  whole_value 1 (place j) +ᵛ one_value,
  subst (IsQuotientAt (place j) (shift_value 1 V)) (whole-further (place j)) (quotient-moves (place j) V (whole_value 1 (place j +ℤ pos 1)) (variable_at 1 (place j +ℤ pos 1))),
  (quotients 1 (place j)).add_has V one_value (whole_value 1 (place j)) one_value (variable_at 1 (place j)) (quotients 1 (place j)).one_has,
))

-- a shift moves both by a constant
moved_lower : (m : ℕ) → whole (iter (PolynomialR 1) (nextH 1) m lower) ≡ (V +ᵛ one_value) +ᵛ constant_value 1 (nat (ValueR 1) m)
moved_lower zero = lower-is ∙ ring (ValueR 2) (V ∷ []) (search reads depth 12) refl ∙ ap (λ x. (V +ᵛ one_value) +ᵛ x) (sym none)
  where
    none : constant_value 1 (nat (ValueR 1) 0) ≡ zero_value
    none = on-O (ValueR 1) (ValueR 2) (constant_valueH 1)
moved_lower (suc m) = sym (whole-next (iter (PolynomialR 1) (nextH 1) m lower)) ∙ ap (shift_value 1) (moved_lower m)
    ∙ (shift_valueH 1).on-add (V +ᵛ one_value) (constant_value 1 (nat (ValueR 1) m))
    ∙ ap₂ ◌+ᵛ◌ ((shift_valueH 1).on-add V one_value ∙ ap₂ ◌+ᵛ◌ next-variable (shift_valueH 1).on-one) (shift_value-constant 1 (nat (ValueR 1) m))
    ∙ ring (ValueR 2) (V ∷ constant_value 1 (nat (ValueR 1) m) ∷ []) (search reads depth 16) refl
    ∙ ap (λ x. (V +ᵛ one_value) +ᵛ x) (ap (◌+ᵛ◌ (constant_value 1 (nat (ValueR 1) m))) (sym (constant_valueH 1).on-one) ∙ sym ((constant_valueH 1).on-add (nat (ValueR 1) m) one_value))

moved_upper : (m : ℕ)
    → whole (iter (PolynomialR 1) (nextH 1) m upper) ≡ (constant_value 1 letter +ᵛ neg_value V) +ᵛ neg_value (constant_value 1 (nat (ValueR 1) m))
moved_upper zero = upper-is ∙ ring (ValueR 2) (constant_value 1 letter ∷ V ∷ []) (search reads depth 12) refl ∙ ap (λ x. (constant_value 1 letter +ᵛ neg_value V) +ᵛ neg_value x) (sym none)
  where
    none : constant_value 1 (nat (ValueR 1) 0) ≡ zero_value
    none = on-O (ValueR 1) (ValueR 2) (constant_valueH 1)
moved_upper (suc m) = sym (whole-next (iter (PolynomialR 1) (nextH 1) m upper)) ∙ ap (shift_value 1) (moved_upper m)
    ∙ (shift_valueH 1).on-add (constant_value 1 letter +ᵛ neg_value V) (neg_value (constant_value 1 (nat (ValueR 1) m)))
    ∙ ap₂ ◌+ᵛ◌ ((shift_valueH 1).on-add (constant_value 1 letter) (neg_value V) ∙ ap₂ ◌+ᵛ◌ (shift_value-constant 1 letter) (on-neg (ValueR 2) (ValueR 2) (shift_valueH 1) V ∙ ap neg_value next-variable))
    (on-neg (ValueR 2) (ValueR 2) (shift_valueH 1) (constant_value 1 (nat (ValueR 1) m)) ∙ ap neg_value (shift_value-constant 1 (nat (ValueR 1) m)))
    ∙ ring (ValueR 2) (constant_value 1 letter ∷ V ∷ constant_value 1 (nat (ValueR 1) m) ∷ []) (search reads depth 16) refl
    ∙ ap (λ x. (constant_value 1 letter +ᵛ neg_value V) +ᵛ neg_value x) (ap (◌+ᵛ◌ (constant_value 1 (nat (ValueR 1) m))) (sym (constant_valueH 1).on-one) ∙ sym ((constant_valueH 1).on-add (nat (ValueR 1) m) one_value))

-- the sum is a constant other than 0
coprime_by : (x y : Polynomial 1) (s : Value 1) → ¬ (s ≡ zero_value) → whole x +ᵛ whole y ≡ constant_value 1 s → Coprime (PolynomialR 1) x y
coprime_by x y s h e = record { u = constant (inv_value s); w = constant (inv_value s); comb = whole_same (constant (inv_value s) *ᵖ x +ᵖ constant (inv_value s) *ᵖ y) one_polynomial (spread ∙ sym whole-one) }
  where
    spread : whole (constant (inv_value s) *ᵖ x +ᵖ constant (inv_value s) *ᵖ y) ≡ one_value
    spread = whole-add (constant (inv_value s) *ᵖ x) (constant (inv_value s) *ᵖ y) ∙ ap₂ ◌+ᵛ◌ (whole-mul (constant (inv_value s)) x) (whole-mul (constant (inv_value s)) y)
        ∙ ring (ValueR 2) (whole (constant (inv_value s)) ∷ whole x ∷ whole y ∷ []) (search reads depth 16) refl ∙ ap₂ ◌*ᵛ◌ (whole-poly (inv_value s ∷ [])) e
        ∙ sym ((constant_valueH 1).on-mul (inv_value s) s) ∙ ap (constant_value 1) ((ValueR 1).mul_comm {x = inv_value s} {y = s} ∙ value_mul-inv 1 s h) ∙ (constant_valueH 1).on-one

nat-at : (m : ℕ) (n : ℤ) → IsQuotientAt {d = 0} n (nat (ValueR 1) m) (nat (ValueR 0) m)
nat-at m n = nat_at 0 n m

sum_ne : (m : ℕ) → ¬ (letter +ᵛ (one_value +ᵛ nat (ValueR 1) m) ≡ zero_value)
sum_ne m = letter_ne (one_value +ᵛ nat (ValueR 1) m) (one_value +ᵛ nat (ValueR 0) m) (λ n. (quotients 0 n).add_has one_value (nat (ValueR 1) m) one_value (nat (ValueR 0) m) (quotients 0 n).one_has (nat-at m n))

less_ne : (m : ℕ) → ¬ (letter +ᵛ (one_value +ᵛ neg_value (nat (ValueR 1) m)) ≡ zero_value)
less_ne m = letter_ne (one_value +ᵛ neg_value (nat (ValueR 1) m)) (one_value +ᵛ neg_value (nat (ValueR 0) m))
    (λ n. (quotients 0 n).add_has one_value (neg_value (nat (ValueR 1) m)) one_value (neg_value (nat (ValueR 0) m)) (quotients 0 n).one_has ((quotients 0 n).neg_has (nat (ValueR 1) m) (nat (ValueR 0) m) (nat-at m n)))

constant-sum : (x y z : Value 1) → constant_value 1 (x +ᵛ (y +ᵛ z)) ≡ constant_value 1 x +ᵛ (constant_value 1 y +ᵛ constant_value 1 z)
constant-sum x y z = (constant_valueH 1).on-add x (y +ᵛ z) ∙ ap (◌+ᵛ◌ (constant_value 1 x)) ((constant_valueH 1).on-add y z)

apart : Apart (PolynomialR 1) (nextH 1) upper lower
apart = record {
  ahead = λ m. coprime_by upper (iter (PolynomialR 1) (nextH 1) m lower) (letter +ᵛ (one_value +ᵛ nat (ValueR 1) m)) (sum_ne m)
      (ap₂ ◌+ᵛ◌ upper-is (moved_lower m) ∙ ring (ValueR 2) (constant_value 1 letter ∷ V ∷ constant_value 1 (nat (ValueR 1) m) ∷ []) (search reads depth 16) refl
      ∙ ap (λ x. constant_value 1 letter +ᵛ (x +ᵛ constant_value 1 (nat (ValueR 1) m))) (sym (constant_valueH 1).on-one) ∙ sym (constant-sum letter one_value (nat (ValueR 1) m)));
  behind = λ m. coprime_by lower (iter (PolynomialR 1) (nextH 1) m upper) (letter +ᵛ (one_value +ᵛ neg_value (nat (ValueR 1) m))) (less_ne m)
      (ap₂ ◌+ᵛ◌ lower-is (moved_upper m) ∙ ring (ValueR 2) (constant_value 1 letter ∷ V ∷ constant_value 1 (nat (ValueR 1) m) ∷ []) (search reads depth 16) refl
      ∙ ap₂ (λ x y. constant_value 1 letter +ᵛ (x +ᵛ y)) (sym (constant_valueH 1).on-one) (sym (on-neg (ValueR 1) (ValueR 2) (constant_valueH 1) (nat (ValueR 1) m))) ∙ sym (constant-sum letter one_value (neg_value (nat (ValueR 1) m))));
}

-- ---- The factor

abbrev body : Tree
body = div (add (add param (numeral (pos 1))) (neg here)) here

abbrev binomial : Tree
binomial = prod_from (pos 1) body

top : ℤ → Value 1
top j = (letter +ᵛ whole_value 1 (pos 1)) +ᵛ neg_value (whole_value 1 j)

positive : (j : ℤ) → pos 1 ≤ℤ j → ¬ (whole_value 1 j ≡ zero_value)
positive j l z = low j l (whole_value_zero 1 j z)
  where
    low : (j : ℤ) → pos 1 ≤ℤ j → j ≡ pos 0 → ⊥
    low j l e = omega (arith, ints, l, e)

top_ne : (j : ℤ) → ¬ (top j ≡ zero_value)
unfolding top
top_ne j z = letter_ne (whole_value 1 (pos 1) +ᵛ neg_value (whole_value 1 j)) (whole_value 0 (pos 1) +ᵛ neg_value (whole_value 0 j))
    (λ n. (quotients 0 n).add_has (whole_value 1 (pos 1)) (neg_value (whole_value 1 j)) (whole_value 0 (pos 1)) (neg_value (whole_value 0 j)) (whole_at 0 n (pos 1)) ((quotients 0 n).neg_has (whole_value 1 j) (whole_value 0 j) (whole_at 0 n j)))
    (grouped letter (whole_value 1 (pos 1)) (neg_value (whole_value 1 j)) z)
  where
    grouped : (x y w : Value 1) → (x +ᵛ y) +ᵛ w ≡ zero_value → x +ᵛ (y +ᵛ w) ≡ zero_value
    grouped x y w e = by (ValueR 1) (x ∷ y ∷ w ∷ []) e (search reads depth 16) refl

some_values : (j : ℤ) → pos 1 ≤ℤ j → HasSome letter body j
unfolding top
some_values j l = (
  top j /ᵛ whole_value 1 j,
  (top j, whole_value 1 j, (letter +ᵛ whole_value 1 (pos 1), neg_value (whole_value 1 j), (letter, whole_value 1 (pos 1), refl, refl, refl), (whole_value 1 j, refl, refl), refl), refl, positive j l, refl),
  product_ne (ValueD 1) (top_ne j) (inverse_some (whole_value 1 j) (positive j l)),
)
  where
    inverse_some : (w : Value 1) → ¬ (w ≡ zero_value) → ¬ (inv_value w ≡ zero_value)
    inverse_some w h z = value_one_ne 1 (sym (value_mul-inv 1 w h) ∙ ap (◌*ᵛ◌ w) z ∙ ring (ValueR 1) (w ∷ []) (search reads depth 12) refl)

abbrev α : Value 2
α = shift_value 1 (function_at letter body)

product : IsProductOf letter (pos 0) binomial α
product = own_product letter (pos 1) body some_values true ((((refl, tt), tt), tt)) (pos 0) (omega (arith, ints))

factor-at : (k : ℤ) → pos 0 ≤ℤ k → IsQuotientAt {d = 1} k α (top (k +ℤ pos 1) /ᵛ whole_value 1 (k +ℤ pos 1))
unfolding top some_values
factor-at k l = quotient-moves k (function_at letter body) (top (k +ℤ pos 1) /ᵛ whole_value 1 (k +ℤ pos 1)) (function-at letter true body (((refl, tt), tt), tt) (k +ℤ pos 1) (top (k +ℤ pos 1) /ᵛ whole_value 1 (k +ℤ pos 1)) (some_values (k +ℤ pos 1) (above k l)).1)
  where
    above : (k : ℤ) → pos 0 ≤ℤ k → pos 1 ≤ℤ (k +ℤ pos 1)
    above k l = omega (arith, ints, l)

factor-is : whole lower *ᵛ α ≡ whole upper
unfolding top
factor-is = same_places (whole lower *ᵛ α) (whole upper) (λ j. (
  letter +ᵛ neg_value (whole_value 1 (place j)),
  subst (IsQuotientAt (place j) (whole lower *ᵛ α)) (value j)
      ((quotients 1 (place j)).mul_has (whole lower) α (whole_value 1 (place j) +ᵛ one_value) (top (place j +ℤ pos 1) /ᵛ whole_value 1 (place j +ℤ pos 1)) (lower-at (place j)) (factor-at (place j) (start j))),
  upper-at (place j),
))
  where
    start : (j : ℕ) → pos 0 ≤ℤ place j
    start j = omega (arith, ints)

    further : (j : ℕ) → pos 1 ≤ℤ (place j +ℤ pos 1)
    further j = omega (arith, ints)

    value : (j : ℕ)
        → (whole_value 1 (place j) +ᵛ one_value) *ᵛ (top (place j +ℤ pos 1) /ᵛ whole_value 1 (place j +ℤ pos 1)) ≡ letter +ᵛ neg_value (whole_value 1 (place j))
    value j = ap (λ x. x *ᵛ (top (place j +ℤ pos 1) /ᵛ whole_value 1 (place j +ℤ pos 1))) (sym (whole-further (place j)))
        ∙ (ValueR 1).mul_comm {x = whole_value 1 (place j +ℤ pos 1)} {y = top (place j +ℤ pos 1) /ᵛ whole_value 1 (place j +ℤ pos 1)} ∙ value_product (top (place j +ℤ pos 1)) (whole_value 1 (place j +ℤ pos 1)) (positive (place j +ℤ pos 1) (further j))
        ∙ ap (λ x. (letter +ᵛ whole_value 1 (pos 1)) +ᵛ neg_value x) (whole-further (place j)) ∙ ring (ValueR 1) (letter ∷ whole_value 1 (place j) ∷ []) (search reads depth 16) refl

-- ---- Free

no_unit : (n : ℕ) → ¬ Divides (PolynomialR 1) (pow (PolynomialR 1) lower (suc n)) one_polynomial
no_unit n d = value_one_ne 1 (sym ((quotients 1 (negsuc 0)).unique one_value (zero_value *ᵛ w.0) one_value
    (subst (λ (x : Value 2). IsQuotientAt {d = 1} (negsuc 0) x (zero_value *ᵛ w.0)) one ((quotients 1 (negsuc 0)).mul_has (pow (ValueR 2) (whole lower) (suc n)) (whole d.cofactor) zero_value w.0 power-at w.1)) (quotients 1 (negsuc 0)).one_has)
    ∙ ring (ValueR 1) (w.0 ∷ []) (search reads depth 12) refl)
  where
    w : (v : Value 1) × IsQuotientAt {d = 1} (negsuc 0) (whole d.cofactor) v
    w = (eval (ValueR 1) (list_of d.cofactor) (whole_value 1 (negsuc 0)), subst (λ (x : Value 2). IsQuotientAt {d = 1} (negsuc 0) x (eval (ValueR 1) (list_of d.cofactor) (whole_value 1 (negsuc 0)))) (ap whole (poly-list_of d.cofactor)) (list-at (list_of d.cofactor) (negsuc 0)))

    one : pow (ValueR 2) (whole lower) (suc n) *ᵛ whole d.cofactor ≡ one_value
    one = ap (λ x. x *ᵛ whole d.cofactor) (sym (on-pow (PolynomialR 1) (ValueR 2) (wholeH 1) lower (suc n))) ∙ sym ((wholeH 1).on-mul (pow (PolynomialR 1) lower (suc n)) d.cofactor) ∙ ap whole (sym d.is) ∙ whole-one

    last : whole_value 1 (negsuc 0) +ᵛ one_value ≡ zero_value
    last = ring (ValueR 1) [] (search reads depth 16) refl

    power-at : IsQuotientAt {d = 1} (negsuc 0) (pow (ValueR 2) (whole lower) (suc n)) zero_value
    power-at = subst (IsQuotientAt {d = 1} (negsuc 0) (pow (ValueR 2) (whole lower) (suc n))) (ring (ValueR 1) (pow (ValueR 1) zero_value n ∷ []) (search reads depth 12) refl)
        (pow_has (quotients 1 (negsuc 0)) (whole lower) zero_value (suc n) (subst (IsQuotientAt {d = 1} (negsuc 0) (whole lower)) last (lower-at (negsuc 0))))

α_some : ¬ (α ≡ zero_value)
α_some = product.some

powers-mul : (x y : Value 2) (e : ℕ) → pow (ValueR 2) x e *ᵛ pow (ValueR 2) y e ≡ pow (ValueR 2) (x *ᵛ y) e
powers-mul x y zero = ring (ValueR 2) [] (search reads depth 12) refl
powers-mul x y (suc e) = by (ValueR 2) (x ∷ y ∷ pow (ValueR 2) x e ∷ pow (ValueR 2) y e ∷ pow (ValueR 2) (x *ᵛ y) e ∷ []) (scale (ValueR 2) (x *ᵛ y) (powers-mul x y e)) (search reads depth 16) refl

powered : (p : Polynomial 1) (n : ℕ) → whole (pow (PolynomialR 1) p n) ≡ pow (ValueR 2) (whole p) n
powered p n = on-pow (PolynomialR 1) (ValueR 2) (wholeH 1) p n

related : (p q : Polynomial 1) (r : Value 2) → ¬ (r ≡ zero_value) → Apart (PolynomialR 1) (nextH 1) p q → whole q *ᵛ shift_value 1 r ≡ whole p *ᵛ r
    → Related (PolynomialD 1) (nextH 1) (ValueF 2) p q one_polynomial
related p q r h k e = rel_values 1 p q one_polynomial (dvd_refl (PolynomialR 1) one_polynomial) k r h (e ∙ ap (λ x. whole x *ᵛ r) (sym (I_mul (PolynomialR 1) {x = p})))

binomial_only : OnlyZeros (α ∷ [])
binomial_only = record { only_zero = only }
  where
    only : (es : List ℤ) → length es ≡ 1 → Holds (α ∷ []) es → AllZero es
    only [] l h = absurd (omega (arith, l))
    only (pos zero ∷ []) l h = (refl, tt)
    only (pos (suc n) ∷ []) l h = absurd (no_unit n (related (pow (PolynomialR 1) upper (suc n)) (pow (PolynomialR 1) lower (suc n)) h.0 h.1.some
        (apart-pow_left (PolynomialR 1) (nextH 1) upper (pow (PolynomialR 1) lower (suc n)) (suc n) (apart-pow (PolynomialR 1) (nextH 1) upper lower (suc n) apart)) equation).right)
      where
        equation : whole (pow (PolynomialR 1) lower (suc n)) *ᵛ shift_value 1 h.0 ≡ whole (pow (PolynomialR 1) upper (suc n)) *ᵛ h.0
        equation = ap₂ ◌*ᵛ◌ (powered lower (suc n)) h.1.is ∙ regroup (pow (ValueR 2) (whole lower) (suc n)) (pow (ValueR 2) α (suc n)) h.0
            ∙ ap (λ x. x *ᵛ h.0) (powers-mul (whole lower) α (suc n) ∙ ap (λ x. pow (ValueR 2) x (suc n)) factor-is ∙ sym (powered upper (suc n)))
          where
            regroup : (u w r : Value 2) → u *ᵛ ((w *ᵛ one_value) *ᵛ r) ≡ (u *ᵛ w) *ᵛ r
            regroup u w r = ring (ValueR 2) (u ∷ w ∷ r ∷ []) (search reads depth 16) refl
    only (negsuc n ∷ []) l h = absurd (no_unit n (related (pow (PolynomialR 1) lower (suc n)) (pow (PolynomialR 1) upper (suc n)) h.0 h.1.some
        (apart-pow_left (PolynomialR 1) (nextH 1) lower (pow (PolynomialR 1) upper (suc n)) (suc n) (apart-pow (PolynomialR 1) (nextH 1) lower upper (suc n) (apart_symm (PolynomialR 1) (nextH 1) upper lower apart))) equation).left)
      where
        undo : whole upper *ᵛ inv_value α ≡ whole lower
        undo = ap (λ x. x *ᵛ inv_value α) (sym factor-is) ∙ cancel (whole lower) α (inv_value α) (value_mul-inv 2 α α_some)
          where
            cancel : (u w i : Value 2) → w *ᵛ i ≡ one_value → (u *ᵛ w) *ᵛ i ≡ u
            cancel u w i e = by (ValueR 2) (u ∷ w ∷ i ∷ []) (scale (ValueR 2) u e) (search reads depth 16) refl

        equation : whole (pow (PolynomialR 1) upper (suc n)) *ᵛ shift_value 1 h.0 ≡ whole (pow (PolynomialR 1) lower (suc n)) *ᵛ h.0
        equation = ap₂ ◌*ᵛ◌ (powered upper (suc n)) h.1.is ∙ regroup (pow (ValueR 2) (whole upper) (suc n)) (pow (ValueR 2) (inv_value α) (suc n)) h.0
            ∙ ap (λ x. x *ᵛ h.0) (powers-mul (whole upper) (inv_value α) (suc n) ∙ ap (λ x. pow (ValueR 2) x (suc n)) undo ∙ sym (powered lower (suc n)))
          where
            regroup : (u w r : Value 2) → u *ᵛ ((w *ᵛ one_value) *ᵛ r) ≡ (u *ᵛ w) *ᵛ r
            regroup u w r = ring (ValueR 2) (u ∷ w ∷ r ∷ []) (search reads depth 16) refl
    only (e ∷ (f ∷ es)) l h = absurd (omega (arith, l))

-- ---- Formally none

abbrev la : List (Value 1)
la = (letter *ᵛ letter) ∷ neg_value (letter +ᵛ letter) ∷ one_value ∷ []

abbrev lb : List (Value 1)
lb = one_value ∷ (one_value +ᵛ one_value) ∷ one_value ∷ []

square-at : (p : Polynomial 1) (k : ℤ) (v : Value 1) → IsQuotientAt {d = 1} k (whole p) v
    → IsQuotientAt {d = 1} k (whole (pow (PolynomialR 1) p 2)) (pow (ValueR 1) v 2)
square-at p k v h = subst (λ (x : Value 2). IsQuotientAt k x (pow (ValueR 1) v 2)) (sym (powered p 2)) (pow_has (quotients 1 k) (whole p) v 2 h)

upper-squared : poly la ≡ pow (PolynomialR 1) upper 2
upper-squared = whole_same (poly la) (pow (PolynomialR 1) upper 2) (same_places (whole (poly la)) (whole (pow (PolynomialR 1) upper 2)) (λ j. (
  pow (ValueR 1) (letter +ᵛ neg_value (whole_value 1 (place j))) 2,
  subst (IsQuotientAt (place j) (whole (poly la))) (ring (ValueR 1) (letter ∷ whole_value 1 (place j) ∷ []) (search reads depth 20 fits 5000) refl) (list-at la (place j)),
  square-at upper (place j) (letter +ᵛ neg_value (whole_value 1 (place j))) (upper-at (place j)),
)))

lower-squared : poly lb ≡ pow (PolynomialR 1) lower 2
lower-squared = whole_same (poly lb) (pow (PolynomialR 1) lower 2) (same_places (whole (poly lb)) (whole (pow (PolynomialR 1) lower 2)) (λ j. (
  pow (ValueR 1) (whole_value 1 (place j) +ᵛ one_value) 2,
  subst (IsQuotientAt (place j) (whole (poly lb))) (ring (ValueR 1) (whole_value 1 (place j) ∷ []) (search reads depth 20 fits 5000) refl) (list-at lb (place j)),
  square-at lower (place j) (whole_value 1 (place j) +ᵛ one_value) (lower-at (place j)),
)))

coprimes : (m : ℕ) → Coprime (PolynomialR 1) (poly la) (iter (PolynomialR 1) (nextH 1) (suc m) (poly lb))
coprimes m = subst (λ (x : Polynomial 1). Coprime (PolynomialR 1) x (iter (PolynomialR 1) (nextH 1) (suc m) (poly lb))) (sym upper-squared)
    (subst (λ (x : Polynomial 1). Coprime (PolynomialR 1) (pow (PolynomialR 1) upper 2) (iter (PolynomialR 1) (nextH 1) (suc m) x)) (sym lower-squared)
    ((apart-pow_left (PolynomialR 1) (nextH 1) upper (pow (PolynomialR 1) lower 2) 2 (apart-pow (PolynomialR 1) (nextH 1) upper lower 2 apart)).ahead (suc m)))

-- 2n isn't a number
twice_ne : (w : Value 1) (u : Value 0) → ((n : ℤ) → IsQuotientAt {d = 0} n w u) → ¬ (w +ᵛ neg_value (letter +ᵛ letter) ≡ zero_value)
twice_ne w u h e = numeral_ne 0 2 (omega arith) (by (ValueR 0) (u ∷ []) ((ValueR 0).add_cong (at (pos 0)) (scale (ValueR 0) (neg_value one_value) (at (pos 1)))) (search reads depth 20) refl)
  where
    at : (n : ℤ) → u +ᵛ neg_value (whole_value 0 n +ᵛ whole_value 0 n) ≡ zero_value
    at n =
        let q = quotients 0 n in
        q.unique zero_value (u +ᵛ neg_value (whole_value 0 n +ᵛ whole_value 0 n)) zero_value (subst (λ (x : Value 1). IsQuotientAt {d = 0} n x (u +ᵛ neg_value (whole_value 0 n +ᵛ whole_value 0 n))) e
        (q.add_has w (neg_value (letter +ᵛ letter)) u (neg_value (whole_value 0 n +ᵛ whole_value 0 n)) (h n) (q.neg_has (letter +ᵛ letter) (whole_value 0 n +ᵛ whole_value 0 n) (q.add_has letter letter (whole_value 0 n) (whole_value 0 n) (variable_at 0 n) (variable_at 0 n))))) q.zero_has

no_root : (m : ℕ) → ¬ (indicial (ValueR 1) 2 la lb m ≡ zero_value)
no_root m e = twice_ne (nat (ValueR 1) m +ᵛ neg_value (one_value +ᵛ one_value)) (nat (ValueR 0) m +ᵛ neg_value (one_value +ᵛ one_value))
    (λ n. (quotients 0 n).add_has (nat (ValueR 1) m) (neg_value (one_value +ᵛ one_value)) (nat (ValueR 0) m) (neg_value (one_value +ᵛ one_value)) (nat-at m n)
    ((quotients 0 n).neg_has (one_value +ᵛ one_value) (one_value +ᵛ one_value) ((quotients 0 n).add_has one_value one_value one_value one_value (quotients 0 n).one_has (quotients 0 n).one_has)))
    (by (ValueR 1) (letter ∷ nat (ValueR 1) m ∷ []) e (search reads depth 20 fits 5000) refl)

abbrev right : Value 1 → Polynomial 1
right c = weighted (λ i. c) (map poly (lb ∷ []))

module _ (c : Value 1) (y : Polynomial 1) (holds : left (poly la) (poly lb) y ≡ right c) where
  short : (i : ℕ) → i < 1 → length (get_or (lb ∷ []) i []) ≤ 3
  short zero l = omega arith
  short (suc i) l = absurd (omega (arith, l))

  under : Under 2 y
  under = bounded_second 2 la lb (omega arith) (omega arith) 3 2 (lb ∷ []) short refl (omega arith) (λ m z. absurd (no_root m z)) (λ i. c) y holds

  y0 : Value 1
  y0 = coefficient (list_of y) 0

  y1 : Value 1
  y1 = coefficient (list_of y) 1

  linear : y ≡ poly (y0 ∷ y1 ∷ [])
  unfolding y0 y1
  linear = sym (poly-list_of y) ∙ poly_same (list_of y) (coefficient (list_of y) 0 ∷ coefficient (list_of y) 1 ∷ []) at
    where
      at : (n : ℕ) → coefficient (list_of y) n ≡ coefficient (coefficient (list_of y) 0 ∷ coefficient (list_of y) 1 ∷ []) n
      at zero = refl
      at (suc zero) = refl
      at (suc (suc n)) = under.none_from (suc (suc n)) (omega arith)

  abbrev Y : Value 1 → Value 1
  Y k = eval (ValueR 1) (y0 ∷ y1 ∷ []) k

  y-at : (k : ℤ) → IsQuotientAt {d = 1} k (whole y) (Y (whole_value 1 k))
  y-at k = subst (λ (x : Polynomial 1). IsQuotientAt {d = 1} k (whole x) (Y (whole_value 1 k))) (sym linear) (list-at (y0 ∷ y1 ∷ []) k)

  functions-equal : whole (poly la) *ᵛ shift_value 1 (whole y) +ᵛ neg_value (whole (poly lb) *ᵛ whole y) ≡ constant_value 1 c *ᵛ whole (poly lb)
  functions-equal =
      ap (λ x. whole (poly la) *ᵛ x +ᵛ neg_value (whole (poly lb) *ᵛ whole y)) (whole-next y)
      ∙ ap₂ (λ u w. u +ᵛ neg_value w) (sym (whole-mul (poly la) (next y))) (sym (whole-mul (poly lb) y))
      ∙ ap (◌+ᵛ◌ (whole (poly la *ᵖ next y))) (sym (on-neg (PolynomialR 1) (ValueR 2) (wholeH 1) (poly lb *ᵖ y)))
      ∙ sym (whole-add (poly la *ᵖ next y) (neg_polynomial (poly lb *ᵖ y))) ∙ ap whole holds
      ∙ whole-add (constant c *ᵖ poly lb) zero_polynomial ∙ ap₂ ◌+ᵛ◌ (whole-mul (constant c) (poly lb) ∙ ap (λ x. x *ᵛ whole (poly lb)) (whole-poly (c ∷ []))) (whole-zero 1)
      ∙ ring (ValueR 2) (constant_value 1 c ∷ whole (poly lb) ∷ []) (search reads depth 12) refl

  equation-at : (k k' : ℤ) → k' ≡ k +ℤ pos 1
      → eval (ValueR 1) la (whole_value 1 k) *ᵛ Y (whole_value 1 k') +ᵛ neg_value (eval (ValueR 1) lb (whole_value 1 k) *ᵛ Y (whole_value 1 k)) ≡ c *ᵛ eval (ValueR 1) lb (whole_value 1 k)
  equation-at k k' e =
      let q = quotients 1 k in
      let A = eval (ValueR 1) la (whole_value 1 k) in
      let B = eval (ValueR 1) lb (whole_value 1 k) in
      q.unique (constant_value 1 c *ᵛ whole (poly lb)) (A *ᵛ Y (whole_value 1 k') +ᵛ neg_value (B *ᵛ Y (whole_value 1 k))) (c *ᵛ B)
      (subst (λ (x : Value 2). IsQuotientAt {d = 1} k x (A *ᵛ Y (whole_value 1 k') +ᵛ neg_value (B *ᵛ Y (whole_value 1 k)))) functions-equal
      (q.add_has (whole (poly la) *ᵛ shift_value 1 (whole y)) (neg_value (whole (poly lb) *ᵛ whole y)) (A *ᵛ Y (whole_value 1 k')) (neg_value (B *ᵛ Y (whole_value 1 k)))
      (q.mul_has (whole (poly la)) (shift_value 1 (whole y)) A (Y (whole_value 1 k')) (list-at la k) (quotient-moves k (whole y) (Y (whole_value 1 k')) (subst (λ (z : ℤ). IsQuotientAt {d = 1} z (whole y) (Y (whole_value 1 k'))) e (y-at k'))))
      (q.neg_has (whole (poly lb) *ᵛ whole y) (B *ᵛ Y (whole_value 1 k)) (q.mul_has (whole (poly lb)) (whole y) B (Y (whole_value 1 k)) (list-at lb k) (y-at k)))))
      (q.mul_has (constant_value 1 c) (whole (poly lb)) c B (quotient-constant k c) (list-at lb k))

  -- n + 1 isn't 0
  some : ¬ ((letter +ᵛ one_value) *ᵛ (letter +ᵛ one_value) ≡ zero_value)
  some = product_ne (ValueD 1) (letter_ne one_value one_value (λ n. (quotients 0 n).one_has)) (letter_ne one_value one_value (λ n. (quotients 0 n).one_has))

  zero_by : (s x : Value 1) → ¬ (s ≡ zero_value) → s *ᵛ x ≡ zero_value → x ≡ zero_value
  zero_by s x h e = elim ((ValueF 1).is_zero x) [ yes z ↦ z | no n ↦ absurd (product_ne (ValueD 1) h n e) ]

  y0-zero : y0 ≡ zero_value
  y0-zero = zero_by ((letter +ᵛ one_value) *ᵛ (letter +ᵛ one_value)) y0 some (solve y0 y1 c letter (equation-at (negsuc 0) (pos 0) (omega (arith, ints))))
    where
      solve : (u w c n : Value 1)
          → eval (ValueR 1) ((n *ᵛ n) ∷ neg_value (n +ᵛ n) ∷ one_value ∷ []) (whole_value 1 (negsuc 0)) *ᵛ eval (ValueR 1) (u ∷ w ∷ []) (whole_value 1 (pos 0))
          +ᵛ neg_value (eval (ValueR 1) lb (whole_value 1 (negsuc 0)) *ᵛ eval (ValueR 1) (u ∷ w ∷ []) (whole_value 1 (negsuc 0))) ≡ c *ᵛ eval (ValueR 1) lb (whole_value 1 (negsuc 0))
          → ((n +ᵛ one_value) *ᵛ (n +ᵛ one_value)) *ᵛ u ≡ zero_value
      solve u w c n e = by (ValueR 1) (u ∷ w ∷ c ∷ n ∷ []) e (search reads depth 24 fits 9000) refl

  pub c-zero : c ≡ zero_value
  c-zero = last y0 y1 c letter y0-zero y1-zero (equation-at (pos 0) (pos 1) (omega (arith, ints)))
    where
      first : (u w c n : Value 1) → u ≡ zero_value
          → eval (ValueR 1) ((n *ᵛ n) ∷ neg_value (n +ᵛ n) ∷ one_value ∷ []) (whole_value 1 (pos 0)) *ᵛ eval (ValueR 1) (u ∷ w ∷ []) (whole_value 1 (pos 1))
          +ᵛ neg_value (eval (ValueR 1) lb (whole_value 1 (pos 0)) *ᵛ eval (ValueR 1) (u ∷ w ∷ []) (whole_value 1 (pos 0))) ≡ c *ᵛ eval (ValueR 1) lb (whole_value 1 (pos 0))
          → c ≡ (n *ᵛ n) *ᵛ w
      first u w c n z e = by (ValueR 1) (u ∷ w ∷ c ∷ n ∷ []) ((ValueR 1).add_cong (scale (ValueR 1) (neg_value one_value) e) (scale (ValueR 1) (n *ᵛ n +ᵛ neg_value one_value) z)) (search reads depth 24 fits 9000) refl

      second : (u w c n : Value 1) → u ≡ zero_value
          → eval (ValueR 1) ((n *ᵛ n) ∷ neg_value (n +ᵛ n) ∷ one_value ∷ []) (whole_value 1 (pos 1)) *ᵛ eval (ValueR 1) (u ∷ w ∷ []) (whole_value 1 (pos 2))
          +ᵛ neg_value (eval (ValueR 1) lb (whole_value 1 (pos 1)) *ᵛ eval (ValueR 1) (u ∷ w ∷ []) (whole_value 1 (pos 1))) ≡ c *ᵛ eval (ValueR 1) lb (whole_value 1 (pos 1))
          → c ≡ (n *ᵛ n) *ᵛ w → (one_value +ᵛ one_value) *ᵛ (((n +ᵛ one_value) *ᵛ (n +ᵛ one_value)) *ᵛ w) ≡ zero_value
      second u w c n z e f = by (ValueR 1) (u ∷ w ∷ c ∷ n ∷ [])
          ((ValueR 1).add_cong (scale (ValueR 1) (neg_value one_value) e) ((ValueR 1).add_cong (scale (ValueR 1) (neg_value (nat (ValueR 1) 4)) f) (scale (ValueR 1) ((n +ᵛ neg_value one_value) *ᵛ (n +ᵛ neg_value one_value) +ᵛ neg_value (nat (ValueR 1) 4)) z)))
          (search reads depth 28 fits 12000) refl

      last : (u w c n : Value 1) → u ≡ zero_value → w ≡ zero_value
          → eval (ValueR 1) ((n *ᵛ n) ∷ neg_value (n +ᵛ n) ∷ one_value ∷ []) (whole_value 1 (pos 0)) *ᵛ eval (ValueR 1) (u ∷ w ∷ []) (whole_value 1 (pos 1))
          +ᵛ neg_value (eval (ValueR 1) lb (whole_value 1 (pos 0)) *ᵛ eval (ValueR 1) (u ∷ w ∷ []) (whole_value 1 (pos 0))) ≡ c *ᵛ eval (ValueR 1) lb (whole_value 1 (pos 0))
          → c ≡ zero_value
      last u w c n z h e = first u w c n z e ∙ ap (◌*ᵛ◌ (n *ᵛ n)) h ∙ ring (ValueR 1) (n ∷ []) (search reads depth 12) refl

      two_some : ¬ (one_value {d = 1} +ᵛ one_value ≡ zero_value)
      two_some z = numeral_ne 1 2 (omega arith) (ring (ValueR 1) [] (search reads depth 12) refl ∙ z)

      y1-zero : y1 ≡ zero_value
      y1-zero = zero_by ((letter +ᵛ one_value) *ᵛ (letter +ᵛ one_value)) y1 some (zero_by (one_value +ᵛ one_value) (((letter +ᵛ one_value) *ᵛ (letter +ᵛ one_value)) *ᵛ y1) two_some
          (second y0 y1 c letter y0-zero (equation-at (pos 1) (pos 2) (omega (arith, ints))) (first y0 y1 c letter y0-zero (equation-at (pos 0) (pos 1) (omega (arith, ints))))))

no_solution : (c : Value 1) (h : Value 2) → (α *ᵛ α) *ᵛ shift_value 1 h +ᵛ neg_value h ≡ constant_value 1 c → c ≡ zero_value
no_solution c h e = c-zero c y (solves_below (PolynomialD 1) (nextH 1) (ValueF 2) (value_fractions 1) (poly la) (poly lb) (right c) y at_y)
  where
    squares : whole (poly lb) *ᵛ (α *ᵛ α) ≡ whole (poly la)
    squares = ap (λ x. whole x *ᵛ (α *ᵛ α)) lower-squared ∙ ap (λ x. x *ᵛ (α *ᵛ α)) (powered lower 2) ∙ regroup (whole lower) α
        ∙ ap (λ x. pow (ValueR 2) x 2) factor-is ∙ sym (powered upper 2) ∙ ap whole (sym upper-squared)
      where
        regroup : (u w : Value 2) → pow (ValueR 2) u 2 *ᵛ (w *ᵛ w) ≡ pow (ValueR 2) (u *ᵛ w) 2
        regroup u w = ring (ValueR 2) (u ∷ w ∷ []) (search reads depth 16) refl

    whole-right : constant_value 1 c *ᵛ whole (poly lb) ≡ whole (right c)
    whole-right = sym (whole-add (constant c *ᵖ poly lb) zero_polynomial ∙ ap₂ ◌+ᵛ◌ (whole-mul (constant c) (poly lb) ∙ ap (λ x. x *ᵛ whole (poly lb)) (whole-poly (c ∷ []))) (whole-zero 1)
        ∙ ring (ValueR 2) (constant_value 1 c ∷ whole (poly lb) ∷ []) (search reads depth 12) refl)

    solves : Solves (PolynomialD 1) (nextH 1) (ValueF 2) (value_fractions 1) (poly la) (poly lb) (whole (right c)) h
    solves = multiplied (whole (poly la)) (whole (poly lb)) (α *ᵛ α) (shift_value 1 h) h (constant_value 1 c) squares e ∙ whole-right
      where
        multiplied : (A B w s h k : Value 2) → B *ᵛ w ≡ A → w *ᵛ s +ᵛ neg_value h ≡ k → A *ᵛ s +ᵛ neg_value (B *ᵛ h) ≡ k *ᵛ B
        multiplied A B w s h k f g = by (ValueR 2) (A ∷ B ∷ w ∷ s ∷ h ∷ k ∷ []) ((ValueR 2).add_cong (scale (ValueR 2) B g) (scale (ValueR 2) (neg_value s) f)) (search reads depth 20 fits 6000) refl

    below : Divides (PolynomialR 1) ((value_fractions 1).q h) one_polynomial
    below = unit_denominator (poly la) (poly lb) ((value_fractions 1).q h) ((value_fractions 1).q_ne h) (solution_sides (PolynomialD 1) (nextH 1) (ValueF 2) (value_fractions 1) (poly la) (poly lb) (right c) h solves) coprimes

    y : Polynomial 1
    y = (value_fractions 1).p h *ᵖ below.cofactor

    at_y : Solves (PolynomialD 1) (nextH 1) (ValueF 2) (value_fractions 1) (poly la) (poly lb) (whole (right c)) (whole y)
    at_y = subst (λ (x : Value 2). Solves (PolynomialD 1) (nextH 1) (ValueF 2) (value_fractions 1) (poly la) (poly lb) (whole (right c)) x) (whole_part (PolynomialD 1) (nextH 1) (ValueF 2) (value_fractions 1) h below) solves

-- ---- No recurrence of order 0

abbrev square : Tree
square = power binomial 2

abbrev F : Formal 1
F = no_sums (α ∷ [])

squared : Element F
squared = unit_in (α ∷ []) 0 (pos 2 ∷ []) one_value

squared-agrees : AgreesFrom letter (pos 0) (binomial ∷ []) [] F squared square
unfolding squared
squared-agrees p l i v h = subst (HasElement F p (unit_in (α ∷ []) 0 (pos 2 ∷ []) one_value)) (first (p.products 0) ∙ ap (λ x. pow (ValueR 1) x 2) (worth_unique letter binomial p.variable (p.products 0) h.0 i.0.0 h.1) ∙ sym h.2)
    (has-unit (α ∷ []) 0 p (pos 2 ∷ []) one_value one_value refl (quotients 1 p.variable).one_has)
  where
    first : (t : Value 1) → one_value *ᵛ units_value (λ i. t) (pos 2 ∷ []) ≡ pow (ValueR 1) t 2
    first t = ring (ValueR 1) (t ∷ []) (search reads depth 16) refl

abbrev twice : Exponents 1
twice = (pos 2, tt)

squared-coefficient : coefficient_at (ValueF 2) 1 twice squared ≡ one_value
unfolding squared
squared-coefficient = ap (coefficient_at (ValueF 2) 1 twice) (one_term-is (ValueF 2) 1 twice one_value) ∙ monomial-at (ValueF 2) 1 twice one_value

only_zero : (c : ℕ → Value 1) (g : Element F) → Solves' (shifted F) (λ x. x) (squared ∷ []) c g → (i : ℕ) → i < 1 → c i ≡ zero_value
only_zero c g e (suc i) l = absurd (omega (arith, l))
only_zero c g e zero l = no_solution (c 0) h (sym difference ∙ coefficient_cong (ValueF 2) 1 twice (delta (shifted F) g) (total (shifted F) (λ x. x) c (squared ∷ [])) e ∙ right-side)
  where
    h : Value 2
    h = coefficient_at (ValueF 2) 1 twice g

    difference : coefficient_at (ValueF 2) 1 twice (delta (shifted F) g) ≡ (α *ᵛ α) *ᵛ shift_value 1 h +ᵛ neg_value h
    difference = coefficient-add (ValueF 2) 1 twice ((shifted F).σ.on g) ((elements F).⊟ g)
        ∙ ap₂ ◌+ᵛ◌ (coefficient-shift (ValueF 2) (shift_valueH 1) (factors (α ∷ [])) (factors_some (α ∷ [])) twice g ∙ ap (λ x. x *ᵛ shift_value 1 h) (power_two (repaired α) ∙ ap (λ x. x *ᵛ x) (repaired_same α α_some))) (coefficient-neg (ValueF 2) 1 twice g)
      where
        power_two : (x : Value 2) → powers (ValueF 2) (x ∷ []) (listed 1 twice) ≡ x *ᵛ x
        power_two x = ring (ValueR 2) (x ∷ []) (search reads depth 16) refl

    right-side : coefficient_at (ValueF 2) 1 twice (total (shifted F) (λ x. x) c (squared ∷ [])) ≡ constant_value 1 (c 0)
    right-side = coefficient-add (ValueF 2) 1 twice ((elements F).◌⊠◌ ((shifted F).κ.on (c 0)) squared) (elements F).O
        ∙ ap₂ ◌+ᵛ◌ (coefficient-scale (ValueF 2) 1 twice (constant_value 1 (c 0)) squared ∙ ap (◌*ᵛ◌ (constant_value 1 (c 0))) squared-coefficient) (coefficient-none (ValueF 2) 1 twice)
        ∙ ring (ValueR 2) (constant_value 1 (c 0) ∷ []) (search reads depth 12) refl

binomial_none : NoRec square 0
binomial_none =
    no_relation square 0 (pos 0) (binomial ∷ []) F [] [] (tower_of letter (pos 0) (binomial ∷ []) (α ∷ []) (product, tt)) (product_worth letter (pos 1) body some_values, tt) tt (to_factors (α ∷ []) (α_some, tt) binomial_only)
    (λ g k. placed_own letter (pos 0) (binomial ∷ []) [] F [] [] (tower_of letter (pos 0) (binomial ∷ []) (α ∷ []) (product, tt)) g k) (squared ∷ []) (squared-agrees, tt) only_zero
