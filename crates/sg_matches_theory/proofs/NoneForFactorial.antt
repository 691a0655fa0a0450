-- A whole instance, with every premise: no expression over k! and its powers telescopes k!, and k! is free.
--   a                    the polynomial k + 1
--   factor-is            as a rational function it is the factor of k!
--   factorial_only       its powers other than 1 aren't r(k + 1)/r(k)
--   no_solution          no rational function h has (k + 1) h(k + 1) - h(k) = 1
--   formally_none        so nothing telescopes the element of k!
--   factorial_none       and no expression over k! telescopes k! from any point on
--   factorial_free       k! agrees in no power but 0 with a rational function
use Rattle.std.proofs.Common.{◌≡◌, ℕ, zero, suc, ◌<◌, ◌≤◌, ℤ, pos, negsuc, ◌+ℤ◌, ◌≤ℤ◌, refl, sym, ap, ap₂, ◌∙◌, subst, List, [], ◌∷◌, length, map, get_or, false, arith}
use Rattle.std.proofs.lemmas.Int.{ints}
use Rattle.sg_algebra.specs.Coefficients.{eval}
use Rattle.sg_algebra.proofs.Ring.{pow}
use Rattle.sg_algebra.proofs.Solver.{by, ring, scale, reads}
use Rattle.sg_algebra.proofs.Divides.{Divides, iter, dvd_refl, on-pow}
use Rattle.sg_algebra.proofs.Coprime.{Coprime, coprime_symm}
use Rattle.sg_algebra.proofs.Value.{Value, ◌+ᵛ◌, ◌*ᵛ◌, neg_value, inv_value, zero_value, one_value}
use Rattle.sg_algebra.proofs.ValueField.{ValueR, ValueF, value_mul-inv, value_one_ne}
use Rattle.sg_algebra.proofs.Rational.{whole_value}
use Rattle.sg_algebra.proofs.Embedding.{polynomial_value, whole_value_zero}
use Rattle.sg_algebra.proofs.Polynomial.{Polynomial, PolynomialR, PolynomialD, poly, poly_same, one_polynomial, zero_polynomial, polynomial_one_ne, ◌*ᵖ◌, ◌-ᵖ◌}
use Rattle.sg_algebra.proofs.Degree.{Below}
use Rattle.sg_first_order_theory.proofs.Weighted.{weighted}
use Rattle.sg_spec.specs.Tree.{Tree, here, prod_from}
use Rattle.sg_worth_theory.proofs.Closes.{no_letter}
use Rattle.sg_worth_theory.proofs.Worths.{worth_unique}
use Rattle.sg_algebra.proofs.ShiftValue.{shift_value, shift_valueH}
use Rattle.sg_first_order_theory.proofs.Fractions.{Solves, solution_sides, whole_part, solves_below}
use Rattle.sg_first_order_theory.proofs.Next.{next, nextH, next-one, next-zero, unit_denominator}
use Rattle.sg_first_order_theory.proofs.ValueFractions.{whole, whole-poly, whole-one, value_fractions, wholeH}
use Rattle.sg_first_order_theory.proofs.Bounded.{bounded_first}
use Rattle.sg_dispersion_theory.proofs.Listed.{list_of, poly-list_of}
use Rattle.sg_tower_theory.specs.Powers.{powers}
use Rattle.sg_tower_theory.proofs.Difference.{delta}
use Rattle.sg_tower_theory.proofs.Products.{Exponents, listed, coefficient as coefficient_at, coefficient_cong, coefficient-add, coefficient-neg, coefficient-shift}
use Rattle.sg_tower_theory.proofs.Monomials.{one_term-is}
use Rattle.sg_tower_theory.proofs.ProductSlices.{monomial-at}
use Rattle.sg_tower_theory.proofs.Flat.{unit_in}
use Rattle.sg_tower_theory.proofs.Formal.{Formal, Element, elements, shifted, no_sums, factors, factors_some, repaired, repaired_same}
use Rattle.sg_relations_theory.specs.Relations.{Holds, AllZero, OnlyZeros}
use Rattle.sg_relations_theory.proofs.Apart.{apart_one, unit_coprime}
use Rattle.sg_relations_theory.proofs.AtValues.{rel_values}
use Rattle.sg_relations_theory.proofs.Factors.{to_factors}
use Rattle.sg_value_theory.proofs.Elements.{HasElement, IsQuotientAt}
use Rattle.sg_value_theory.proofs.Evaluation.{pow_has}
use Rattle.sg_value_theory.proofs.Quotients.{quotients, quotient-polynomial}
use Rattle.sg_value_theory.proofs.NextPlace.{quotient-moves, whole-next}
use Rattle.sg_value_theory.proofs.RationalPlaces.{variable, variable_at}
use Rattle.sg_value_theory.proofs.FlatValues.{units_value}
use Rattle.sg_value_theory.proofs.Inverses.{has-unit}
use Rattle.sg_answers_theory.proofs.AtParameters.{place}
use Rattle.sg_answers_theory.proofs.NoRecurrences.{same_function}
use Rattle.sg_answers_theory.proofs.ElementsOver.{AgreesFrom}
use Rattle.sg_answers_theory.specs.Matches.{HasNoMatch}
use Rattle.sg_answers_theory.proofs.Answers.{IsProductOf}
use Rattle.sg_answers_theory.proofs.OwnProducts.{HasSome, own_product, product_worth, placed_own}
use Rattle.sg_answers_theory.proofs.Relating.{function_at}
use Rattle.sg_answers_theory.proofs.Texts.{NoneOver, none_over}
use Rattle.sg_matches_theory.proofs.Exactly.{over_fractions, free_exactly}
use Rattle.sg_matches_theory.proofs.FreeInValues.{follow_products, tower_of}
use Rattle.sg_value_theory.proofs.OwnSums.{nothing}

-- ---- The factor

abbrev α : Value 1
α = shift_value 0 (variable 0)

a : Polynomial 0
a = poly (one_value ∷ one_value ∷ [])

factor-at : (k : ℤ) → IsQuotientAt {d = 0} k α (whole_value 0 k +ᵛ one_value)
factor-at k = subst (IsQuotientAt k α) (whole-next k) (quotient-moves k (variable 0) (whole_value 0 (k +ℤ pos 1)) (variable_at 0 (k +ℤ pos 1)))

a-at : (k : ℤ) → IsQuotientAt {d = 0} k (whole a) (whole_value 0 k +ᵛ one_value)
unfolding a
a-at k = subst (λ (x : Value 1). IsQuotientAt k x (whole_value 0 k +ᵛ one_value)) (sym (whole-poly (one_value ∷ one_value ∷ [])))
    (subst (IsQuotientAt k (polynomial_value 0 (one_value ∷ one_value ∷ []))) (ring (ValueR 0) (whole_value 0 k ∷ []) (search reads depth 16) refl) (quotient-polynomial k (one_value ∷ one_value ∷ [])))

factor-is : whole a ≡ α
factor-is = same_function (whole a) α 0 (λ j l. (whole_value 0 (place j) +ᵛ one_value, a-at (place j), factor-at (place j)))

α_some : ¬ (α ≡ zero_value)
α_some z = value_one_ne 0 (ring (ValueR 0) [] (search reads depth 12) refl ∙ (quotients 0 (pos 0)).unique zero_value (whole_value 0 (pos 0) +ᵛ one_value) zero_value (subst (λ (x : Value 1). IsQuotientAt {d = 0} (pos 0) x (whole_value 0 (pos 0) +ᵛ one_value)) z (factor-at (pos 0))) (quotients 0 (pos 0)).zero_has)

-- ---- Free

-- a power of k + 1 is no unit: at -1 it is 0
no_unit : (n : ℕ) → ¬ Divides (PolynomialR 0) (pow (PolynomialR 0) a (suc n)) one_polynomial
no_unit n d = value_one_ne 0 (sym ((quotients 0 (negsuc 0)).unique one_value (zero_value *ᵛ w.0) one_value
    (subst (λ (x : Value 1). IsQuotientAt {d = 0} (negsuc 0) x (zero_value *ᵛ w.0)) one ((quotients 0 (negsuc 0)).mul_has (pow (ValueR 1) (whole a) (suc n)) (whole d.cofactor) zero_value w.0 power-at w.1)) (quotients 0 (negsuc 0)).one_has)
    ∙ ring (ValueR 0) (w.0 ∷ []) (search reads depth 12) refl)
  where
    w : (v : Value 0) × IsQuotientAt {d = 0} (negsuc 0) (whole d.cofactor) v
    w = (
      eval (ValueR 0) (list_of d.cofactor) (whole_value 0 (negsuc 0)),
      subst (λ (x : Value 1). IsQuotientAt {d = 0} (negsuc 0) x (eval (ValueR 0) (list_of d.cofactor) (whole_value 0 (negsuc 0)))) (sym (whole-poly (list_of d.cofactor)) ∙ ap whole (poly-list_of d.cofactor)) (quotient-polynomial (negsuc 0) (list_of d.cofactor)),
    )

    one : pow (ValueR 1) (whole a) (suc n) *ᵛ whole d.cofactor ≡ one_value
    one = ap (λ x. x *ᵛ whole d.cofactor) (sym (on-pow (PolynomialR 0) (ValueR 1) (wholeH 0) a (suc n))) ∙ sym ((wholeH 0).on-mul (pow (PolynomialR 0) a (suc n)) d.cofactor) ∙ ap whole (sym d.is) ∙ whole-one

    last : whole_value 0 (negsuc 0) +ᵛ one_value ≡ zero_value
    last = ring (ValueR 0) [] (search reads depth 16) refl

    power-at : IsQuotientAt {d = 0} (negsuc 0) (pow (ValueR 1) (whole a) (suc n)) zero_value
    power-at = subst (IsQuotientAt {d = 0} (negsuc 0) (pow (ValueR 1) (whole a) (suc n))) (ring (ValueR 0) (pow (ValueR 0) zero_value n ∷ []) (search reads depth 12) refl)
        (pow_has (quotients 0 (negsuc 0)) (whole a) zero_value (suc n) (subst (IsQuotientAt {d = 0} (negsuc 0) (whole a)) last (a-at (negsuc 0))))

-- a power of k + 1 is no r(k)/r(k + 1)
no_ratio : (n : ℕ) (r : Value 1) → ¬ (r ≡ zero_value) → pow (ValueR 1) α (suc n) *ᵛ shift_value 0 r ≡ r → ⊥
no_ratio n r h e = no_unit n (rel_values 0 one_polynomial (pow (PolynomialR 0) a (suc n)) one_polynomial (dvd_refl (PolynomialR 0) one_polynomial) (apart_one (PolynomialR 0) (nextH 0) (pow (PolynomialR 0) a (suc n))) r h equation).right
  where
    equation : whole (pow (PolynomialR 0) a (suc n)) *ᵛ shift_value 0 r ≡ whole (one_polynomial *ᵖ one_polynomial) *ᵛ r
    equation = ap (λ x. x *ᵛ shift_value 0 r) (on-pow (PolynomialR 0) (ValueR 1) (wholeH 0) a (suc n) ∙ ap (λ x. pow (ValueR 1) x (suc n)) factor-is) ∙ e
        ∙ ring (ValueR 1) (r ∷ []) (search reads depth 12) refl ∙ ap (λ x. x *ᵛ r) (sym whole-one ∙ ap whole (sym ((PolynomialR 0).mul_I {x = one_polynomial})))

inverse : (r : Value 1) → ¬ (r ≡ zero_value) → ¬ (inv_value r ≡ zero_value)
inverse r h z = value_one_ne 1 (sym (value_mul-inv 1 r h) ∙ ap (◌*ᵛ◌ r) z ∙ ring (ValueR 1) (r ∷ []) (search reads depth 12) refl)

factorial_only : OnlyZeros (α ∷ [])
factorial_only = record { only_zero = only }
  where
    only : (es : List ℤ) → length es ≡ 1 → Holds (α ∷ []) es → AllZero es
    only [] l h = absurd (omega (arith, l))
    only (pos zero ∷ []) l h = (refl, tt)
    only (pos (suc n) ∷ []) l h = absurd (no_ratio n (inv_value h.0) (inverse h.0 h.1.some) (turned (pow (ValueR 1) α (suc n)) h.0 (inv_value h.0) (shift_value 0 h.0) (shift_value 0 (inv_value h.0)) h.1.is (value_mul-inv 1 h.0 h.1.some) moved))
      where
        moved : shift_value 0 h.0 *ᵛ shift_value 0 (inv_value h.0) ≡ one_value
        moved = sym ((shift_valueH 0).on-mul h.0 (inv_value h.0)) ∙ ap (shift_value 0) (value_mul-inv 1 h.0 h.1.some) ∙ (shift_valueH 0).on-one

        turned : (A r i s j : Value 1) → s ≡ (A *ᵛ one_value) *ᵛ r → r *ᵛ i ≡ one_value → s *ᵛ j ≡ one_value → A *ᵛ j ≡ i
        turned A r i s j e f g = by (ValueR 1) (A ∷ r ∷ i ∷ s ∷ j ∷ []) ((ValueR 1).add_cong (scale (ValueR 1) (i *ᵛ j) (sym e)) ((ValueR 1).add_cong (scale (ValueR 1) (neg_value (A *ᵛ j)) f) (scale (ValueR 1) i g))) (search reads depth 24 fits 6000) refl
    only (negsuc n ∷ []) l h = absurd (no_ratio n h.0 h.1.some (undone (suc n)))
      where
        inverse_powers : (x y : Value 1) (m : ℕ) → x *ᵛ y ≡ one_value → pow (ValueR 1) x m *ᵛ pow (ValueR 1) y m ≡ one_value
        inverse_powers x y zero e = ring (ValueR 1) [] (search reads depth 8) refl
        inverse_powers x y (suc m) e = by (ValueR 1) (x ∷ y ∷ pow (ValueR 1) x m ∷ pow (ValueR 1) y m ∷ []) ((ValueR 1).add_cong (scale (ValueR 1) (x *ᵛ y) (inverse_powers x y m e)) e) (search reads depth 20 fits 5000) refl

        cancel : (A B r s : Value 1) → A *ᵛ B ≡ one_value → s ≡ (B *ᵛ one_value) *ᵛ r → A *ᵛ s ≡ r
        cancel A B r s e f = by (ValueR 1) (A ∷ B ∷ r ∷ s ∷ []) ((ValueR 1).add_cong (scale (ValueR 1) A f) (scale (ValueR 1) r e)) (search reads depth 20 fits 5000) refl

        undone : (m : ℕ) → pow (ValueR 1) α (suc n) *ᵛ shift_value 0 h.0 ≡ h.0
        undone m = cancel (pow (ValueR 1) α (suc n)) (pow (ValueR 1) (inv_value α) (suc n)) h.0 (shift_value 0 h.0) (inverse_powers α (inv_value α) (suc n) (value_mul-inv 1 α α_some)) h.1.is
    only (e ∷ (f ∷ es)) l h = absurd (omega (arith, l))

-- ---- Formally none

iter-one : (m : ℕ) → iter (PolynomialR 0) (nextH 0) m one_polynomial ≡ one_polynomial
iter-one zero = refl
iter-one (suc m) = ap next (iter-one m) ∙ next-one

coprime_one : (m : ℕ) → Coprime (PolynomialR 0) a (iter (PolynomialR 0) (nextH 0) (suc m) one_polynomial)
coprime_one m = subst (λ (x : Polynomial 0). Coprime (PolynomialR 0) a x) (sym (iter-one (suc m))) (coprime_symm (PolynomialR 0) one_polynomial a (unit_coprime (PolynomialR 0) (nextH 0) one_polynomial a (dvd_refl (PolynomialR 0) one_polynomial)))

abbrev ones : List (List (Value 0))
ones = (one_value ∷ []) ∷ []

no_polynomial : (y : Polynomial 0) → ¬ (a *ᵖ next y -ᵖ one_polynomial *ᵖ y ≡ one_polynomial)
unfolding a
no_polynomial y e = clash (bounded_first 1 (one_value ∷ one_value ∷ []) (one_value ∷ []) (omega arith) (omega arith) 1 0 ones short (value_one_ne 0) (omega arith) (λ i. one_value) y (e ∙ weights))
  where
    short : (i : ℕ) → i < 1 → length (get_or ones i []) ≤ 1
    short zero l = omega arith
    short (suc i) l = absurd (omega (arith, l))

    weights : one_polynomial ≡ weighted (λ i. one_value) (map poly ones)
    weights = ring (PolynomialR 0) [] (search reads depth 16) refl

    clash : Below (ValueR 0) 0 (list_of y) → ⊥
    clash b = polynomial_one_ne (sym e ∙ ap (λ z. poly (one_value ∷ one_value ∷ []) *ᵖ next z -ᵖ one_polynomial *ᵖ z) nothing ∙ ap (λ z. poly (one_value ∷ one_value ∷ []) *ᵖ z -ᵖ one_polynomial *ᵖ zero_polynomial) next-zero ∙ ring (PolynomialR 0) (poly (one_value ∷ one_value ∷ []) ∷ []) (search reads depth 16) refl)
      where
        nothing : y ≡ zero_polynomial
        nothing = sym (poly-list_of y) ∙ poly_same (list_of y) [] (λ n. b.none_from n (omega arith))

no_solution : (h : Value 1) → ¬ (α *ᵛ shift_value 0 h +ᵛ neg_value h ≡ one_value)
no_solution h e = no_polynomial y (solves_below (PolynomialD 0) (nextH 0) (ValueF 1) (value_fractions 0) a one_polynomial one_polynomial y at_y)
  where
    solves : Solves (PolynomialD 0) (nextH 0) (ValueF 1) (value_fractions 0) a one_polynomial (whole one_polynomial) h
    solves = ap (λ x. x *ᵛ shift_value 0 h +ᵛ neg_value (whole one_polynomial *ᵛ h)) factor-is ∙ ap (λ x. α *ᵛ shift_value 0 h +ᵛ neg_value (x *ᵛ h)) whole-one ∙ ring (ValueR 1) (α ∷ shift_value 0 h ∷ h ∷ []) (search reads depth 16) refl ∙ e ∙ sym whole-one

    below : Divides (PolynomialR 0) ((value_fractions 0).q h) one_polynomial
    below = unit_denominator a one_polynomial ((value_fractions 0).q h) ((value_fractions 0).q_ne h) (solution_sides (PolynomialD 0) (nextH 0) (ValueF 1) (value_fractions 0) a one_polynomial one_polynomial h solves) coprime_one

    y : Polynomial 0
    y = (value_fractions 0).p h *ᵖ below.cofactor

    at_y : Solves (PolynomialD 0) (nextH 0) (ValueF 1) (value_fractions 0) a one_polynomial (whole one_polynomial) (whole y)
    at_y = subst (λ (x : Value 1). Solves (PolynomialD 0) (nextH 0) (ValueF 1) (value_fractions 0) a one_polynomial (whole one_polynomial) x) (whole_part (PolynomialD 0) (nextH 0) (ValueF 1) (value_fractions 0) h below) solves

-- ---- None over k!

abbrev factorial : Tree
factorial = prod_from (pos 1) here

some_values : (j : ℤ) → pos 1 ≤ℤ j → HasSome no_letter here j
some_values j l = (whole_value 0 j, refl, λ z. positive j l (whole_value_zero 0 j z))
  where
    positive : (j : ℤ) → pos 1 ≤ℤ j → j ≡ pos 0 → ⊥
    positive j l e = omega (arith, ints, l, e)

product : IsProductOf no_letter (pos 0) factorial α
unfolding function_at
product = own_product no_letter (pos 1) here some_values false tt (pos 0) (omega (arith, ints))

abbrev F : Formal 0
F = no_sums (α ∷ [])

own : Element F
own = unit_in (α ∷ []) 0 (pos 1 ∷ []) one_value

own-agrees : AgreesFrom no_letter (pos 0) (factorial ∷ []) [] F own factorial
unfolding own
own-agrees p l i v h = subst (HasElement F p (unit_in (α ∷ []) 0 (pos 1 ∷ []) one_value)) (first (p.products 0) ∙ worth_unique no_letter factorial p.variable (p.products 0) v i.0.0 h)
    (has-unit (α ∷ []) 0 p (pos 1 ∷ []) one_value one_value refl (quotients 0 p.variable).one_has)
  where
    first : (t : Value 0) → one_value *ᵛ units_value (λ i. t) (pos 1 ∷ []) ≡ t
    first t = ring (ValueR 0) (t ∷ []) (search reads depth 16) refl

abbrev once : Exponents 1
once = (pos 1, tt)

own-coefficient : coefficient_at (ValueF 1) 1 once own ≡ one_value
unfolding own
own-coefficient = ap (coefficient_at (ValueF 1) 1 once) (one_term-is (ValueF 1) 1 once one_value) ∙ monomial-at (ValueF 1) 1 once one_value

formally_none : (g : Element F) → ¬ ((elements F).◌≈◌ (delta (shifted F) g) own)
formally_none g e = no_solution h (sym difference ∙ coefficient_cong (ValueF 1) 1 once (delta (shifted F) g) own e ∙ own-coefficient)
  where
    h : Value 1
    h = coefficient_at (ValueF 1) 1 once g

    difference : coefficient_at (ValueF 1) 1 once (delta (shifted F) g) ≡ α *ᵛ shift_value 0 h +ᵛ neg_value h
    difference = coefficient-add (ValueF 1) 1 once ((shifted F).σ.on g) ((elements F).⊟ g)
        ∙ ap₂ ◌+ᵛ◌ (coefficient-shift (ValueF 1) (shift_valueH 0) (factors (α ∷ [])) (factors_some (α ∷ [])) once g ∙ ap (λ x. x *ᵛ shift_value 0 h) (power_one (repaired α) ∙ repaired_same α α_some)) (coefficient-neg (ValueF 1) 1 once g)
      where
        power_one : (x : Value 1) → powers (ValueF 1) (x ∷ []) (listed 1 once) ≡ x
        power_one x = ring (ValueR 1) (x ∷ []) (search reads depth 16) refl

nothing_only : OnlyZeros {d = 0} []
nothing_only = record { only_zero = λ es l h. none es l }
  where
    none : (es : List ℤ) → length es ≡ 0 → AllZero es
    none [] l = tt
    none (e ∷ es) l = absurd (omega (arith, l))

factorial_none : NoneOver (factorial ∷ []) factorial
factorial_none =
    none_over (pos 0) (factorial ∷ []) [] F (follow_products no_letter (pos 0) (factorial ∷ []) (α ∷ []) (product, tt)) (product_worth no_letter (pos 1) here some_values, tt) tt (to_factors (α ∷ []) (α_some, tt) factorial_only)
    (factorial ∷ []) factorial own own-agrees formally_none
    (λ g c. placed_own no_letter (pos 0) (factorial ∷ []) [] F [] [] (tower_of no_letter (pos 0) (factorial ∷ []) (α ∷ []) (product, tt)) g c) (λ g c. absurd (nothing c))

-- and k! is free
factorial_free : HasNoMatch false [] factorial
factorial_free = (free_exactly false over_fractions (pos 0) [] [] tt factorial α product nothing_only).0 factorial_only
