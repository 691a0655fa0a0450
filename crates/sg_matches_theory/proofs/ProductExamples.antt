-- The three answers about products, and `check`, worked at products that everyone knows.
--   six_expressed        pow(6,k) is expressed over pow(2,k) and pow(3,k)
--   sign_dependent       pow(-1,k) is neither free nor expressed over nothing
--   factorial_fails      fact(k) doesn't telescope fact(k): beyond every point it fails
--   factorial_steps      fact(k) telescopes k*fact(k), from 0 on
use Rattle.std.proofs.Common.{◌≡◌, ℕ, suc, ℤ, pos, ◌+ℤ◌, ◌-ℤ◌, ◌≤ℤ◌, refl, sym, ap, ◌∙◌, subst, List, [], ◌∷◌, length, false, arith}
use Rattle.std.proofs.lemmas.Int.{ints}
use Rattle.sg_algebra.proofs.Solver.{by, ring, scale, reads}
use Rattle.sg_algebra.proofs.Value.{Value, ◌+ᵛ◌, ◌-ᵛ◌, ◌*ᵛ◌, neg_value, zero_value, one_value}
use Rattle.sg_algebra.proofs.ValueField.{ValueR, ValueF, ValueD, value_one_ne}
use Rattle.sg_algebra.proofs.Embedding.{numeral_ne, whole_value_zero}
use Rattle.sg_algebra.proofs.Divides.{on-neg}
use Rattle.sg_algebra.proofs.Rational.{whole_value}
use Rattle.sg_spec.specs.Tree.{Tree, numeral, here, neg, mul, prod_from}
use Rattle.sg_spec.specs.Worth.{HasWorth}
use Rattle.sg_spec.specs.Telescoping.{Failing, Tele}
use Rattle.sg_worth_theory.proofs.Closes.{no_letter}
use Rattle.sg_worth_theory.proofs.Worths.{worth_unique}
use Rattle.sg_algebra.proofs.ShiftValue.{shift_value, shift_valueH, shift_value-one, shift_value-mul}
use Rattle.sg_tower_theory.specs.Powers.{powers}
use Rattle.sg_relations_theory.specs.Relations.{Expresses}
use Rattle.sg_relations_theory.proofs.SignLaw.{no_minus_one}
use Rattle.sg_value_theory.proofs.Elements.{IsQuotientAt}
use Rattle.sg_value_theory.proofs.Quotients.{quotients}
use Rattle.sg_value_theory.proofs.NextPlace.{quotient-moves, whole-next}
use Rattle.sg_value_theory.proofs.RationalPlaces.{variable, variable_at}
use Rattle.sg_answers_theory.specs.Matches.{IsMatch, IsExpressedOver, IsDependentOver}
use Rattle.sg_answers_theory.proofs.Answers.{IsProductOf, step_values, values_step}
use Rattle.sg_answers_theory.proofs.ZeroPast.{later}
use Rattle.sg_algebra.proofs.Field.{product_ne}
use Rattle.sg_answers_theory.proofs.OwnProducts.{own_product}
use Rattle.sg_answers_theory.proofs.Relating.{function_at}
use Rattle.sg_matches_theory.proofs.Exactly.{over_fractions, match_of_holds, expressed_exactly}

-- pow(c,k)
abbrev power_of_body : Tree → Tree
power_of_body b = prod_from (pos 1) b

abbrev two : Tree
two = power_of_body (numeral (pos 2))

abbrev three : Tree
three = power_of_body (numeral (pos 3))

abbrev six : Tree
six = power_of_body (numeral (pos 6))

abbrev sign : Tree
sign = power_of_body (neg (numeral (pos 1)))

abbrev factorial : Tree
factorial = prod_from (pos 1) here

least : (pos 1 -ℤ pos 1) ≤ℤ pos 0
least = omega (arith, ints)

number_product : (c : ℕ)
    → IsProductOf no_letter (pos 0) (power_of_body (numeral (pos (suc c)))) (shift_value 0 (function_at no_letter (numeral (pos (suc c)))))
number_product c = own_product no_letter (pos 1) (numeral (pos (suc c))) (λ j l. (whole_value 0 (pos (suc c)), refl, numeral_ne 0 (suc c) (omega arith))) false tt (pos 0) least

-- ---- pow(6,k) over pow(2,k) and pow(3,k)

abbrev factor : ℕ → Value 1
factor c = shift_value 0 (function_at no_letter (numeral (pos c)))

six_factor : factor 6 *ᵛ one_value ≡ powers (ValueF 1) (factor 2 ∷ factor 3 ∷ []) (pos 1 ∷ pos 1 ∷ []) *ᵛ shift_value 0 one_value
unfolding function_at
six_factor = ap (λ x. shift_value 0 x *ᵛ one_value) (ring (ValueR 1) [] (search reads depth 24 fits 6000) refl) ∙ ap (λ x. x *ᵛ one_value) (shift_value-mul 0 (whole_value 1 (pos 2)) (whole_value 1 (pos 3)))
    ∙ ring (ValueR 1) (shift_value 0 (whole_value 1 (pos 2)) ∷ shift_value 0 (whole_value 1 (pos 3)) ∷ []) (search reads depth 20) refl
    ∙ ap (λ x. powers (ValueF 1) (factor 2 ∷ factor 3 ∷ []) (pos 1 ∷ pos 1 ∷ []) *ᵛ x) (sym (shift_value-one 0))

six_expressed : IsExpressedOver false (two ∷ three ∷ []) six
six_expressed =
    (expressed_exactly false over_fractions (pos 0) (two ∷ three ∷ []) (factor 2 ∷ factor 3 ∷ []) (number_product 1, (number_product 2, tt)) six (factor 6) (number_product 5)).0
    (pos 1 ∷ pos 1 ∷ [], one_value, record { sized = refl; some = value_one_ne 1; is = six_factor })

-- ---- pow(-1,k) over nothing

abbrev minus : Value 1
minus = shift_value 0 (function_at no_letter (neg (numeral (pos 1))))

sign_product : IsProductOf no_letter (pos 0) sign minus
sign_product = own_product no_letter (pos 1) (neg (numeral (pos 1))) (λ j l. (neg_value (whole_value 0 (pos 1)), (whole_value 0 (pos 1), refl, refl), nonzero)) false tt (pos 0) least
  where
    nonzero : ¬ (neg_value (whole_value 0 (pos 1)) ≡ zero_value)
    nonzero z = numeral_ne 0 1 (omega arith) (ring (ValueR 0) [] (search reads depth 16) refl ∙ ap neg_value z ∙ ring (ValueR 0) [] (search reads depth 16) refl)

minus_is : minus ≡ neg_value one_value
unfolding function_at
minus_is = ap (shift_value 0) (ring (ValueR 1) [] (search reads depth 16) refl) ∙ on-minus ∙ ap neg_value (shift_value-one 0)
  where
    on-minus : shift_value 0 (neg_value one_value) ≡ neg_value (shift_value 0 one_value)
    on-minus = on-neg (ValueR 1) (ValueR 1) (shift_valueH 0) one_value

-- its square agrees with 1
sign_match : IsMatch false [] sign [] (pos 2)
sign_match = match_of_holds false over_fractions (pos 0) [] [] tt sign minus sign_product [] (pos 2) refl (λ z. omega (arith, ints, z))
    (one_value, record { some = value_one_ne 1; is = shift_value-one 0 ∙ square (ap (λ x. x *ᵛ x) minus_is) })
  where
    square : minus *ᵛ minus ≡ neg_value one_value *ᵛ neg_value one_value → one_value ≡ powers (ValueF 1) (minus ∷ []) (pos 2 ∷ []) *ᵛ one_value
    square h = by (ValueR 1) (minus ∷ []) (sym h) (search reads depth 20) refl

sign_dependent : IsDependentOver false [] sign
sign_dependent = (λ none. none [] (pos 2) sign_match, λ m. clash ((expressed_exactly false over_fractions (pos 0) [] [] tt sign minus sign_product).1 m))
  where
    clash : (es : List ℤ) × (r : Value 1) × Expresses [] minus es r → ⊥
    clash x = no_minus_one 0 (record { r = x.1; some = x.2.some; is = turned x.0 x.2.sized x.2.is })
      where
        turned : (es : List ℤ) → length es ≡ 0 → minus *ᵛ x.1 ≡ powers (ValueF 1) [] es *ᵛ shift_value 0 x.1
            → one_value *ᵛ shift_value 0 x.1 ≡ neg_value one_value *ᵛ x.1
        turned es l e = sym e ∙ ap (λ y. y *ᵛ x.1) minus_is

-- ---- fact(k)

factorial_product : IsProductOf no_letter (pos 0) factorial (shift_value 0 (function_at no_letter here))
factorial_product = own_product no_letter (pos 1) here (λ j l. (whole_value 0 j, refl, λ z. positive j l (whole_value_zero 0 j z))) false tt (pos 0) least
  where
    positive : (j : ℤ) → pos 1 ≤ℤ j → j ≡ pos 0 → ⊥
    positive j l e = omega (arith, ints, l, e)

factor-at : (k : ℤ) (a : Value 0) → IsQuotientAt k (shift_value 0 (function_at no_letter here)) a → a ≡ whole_value 0 (k +ℤ pos 1)
unfolding function_at
factor-at k a h = (quotients 0 k).unique (shift_value 0 (variable 0)) a (whole_value 0 (k +ℤ pos 1)) h (quotient-moves k (variable 0) (whole_value 0 (k +ℤ pos 1)) (variable_at 0 (k +ℤ pos 1)))

-- the value one place further is k + 1 times the value
factorial-next : (k : ℤ) → pos 0 ≤ℤ k
    → (v : Value 0) × HasWorth no_letter factorial k v × HasWorth no_letter factorial (k +ℤ pos 1) ((whole_value 0 k +ᵛ one_value) *ᵛ v) × ¬ (v ≡ zero_value)
factorial-next k l =
    let n = factorial_product.next k l in
    (n.1, n.4, subst (λ (z : Value 0). HasWorth no_letter factorial (k +ℤ pos 1) z) (n.6 ∙ ap (λ a. a *ᵛ n.1) (factor-at k n.0 n.3 ∙ whole-next k)) n.5, n.7)

factorial_steps : Tele factorial (mul here factorial)
factorial_steps = record {
  from = pos 0;
  steps = λ k l.
      let n = factorial-next k l in
      values_step factorial (mul here factorial) k ((whole_value 0 k +ᵛ one_value) *ᵛ n.0) n.0 (whole_value 0 k *ᵛ n.0) n.2 n.1 (whole_value 0 k, n.0, refl, n.1, refl) (ring (ValueR 0) (whole_value 0 k ∷ n.0 ∷ []) (search reads depth 16) refl);
}

factorial_fails : (K : ℤ) → Failing factorial factorial K
factorial_fails K = go (later (pos 2) K)
  where
    go : (k : ℤ) × (pos 2 ≤ℤ k) × (K ≤ℤ k) → Failing factorial factorial K
    go k = record { k = k.0; past = k.2; fails = λ h. clash (factorial-next k.0 (early k.0 k.1)) (step_values factorial factorial k.0 h) }
      where
        early : (k : ℤ) → pos 2 ≤ℤ k → pos 0 ≤ℤ k
        early k l = omega (arith, ints, l)

        before : (k : ℤ) → whole_value 0 k ≡ whole_value 0 (k -ℤ pos 1) +ᵛ one_value
        before k = ap (whole_value 0) (back k) ∙ whole-next (k -ℤ pos 1)
          where
            back : (k : ℤ) → k ≡ (k -ℤ pos 1) +ℤ pos 1
            back k = omega (arith, ints)

        some : (k : ℤ) → pos 2 ≤ℤ k → k -ℤ pos 1 ≡ pos 0 → ⊥
        some k l e = omega (arith, ints, l, e)

        clash : (v : Value 0) × HasWorth no_letter factorial k.0 v × HasWorth no_letter factorial (k.0 +ℤ pos 1) ((whole_value 0 k.0 +ᵛ one_value) *ᵛ v) × ¬ (v ≡ zero_value)
            → (u' u w : Value 0) × HasWorth no_letter factorial (k.0 +ℤ pos 1) u' × HasWorth no_letter factorial k.0 u × HasWorth no_letter factorial k.0 w × (u' -ᵛ u ≡ w) → ⊥
        clash n r =
            product_ne (ValueD 0) (λ z. some k.0 k.1 (whole_value_zero 0 (k.0 -ℤ pos 1) z)) n.3
            (left (whole_value 0 k.0) (whole_value 0 (k.0 -ℤ pos 1)) n.0 r.0 r.1 r.2 (before k.0) (worth_unique no_letter factorial (k.0 +ℤ pos 1) r.0 ((whole_value 0 k.0 +ᵛ one_value) *ᵛ n.0) r.3 n.2)
            (worth_unique no_letter factorial k.0 r.1 n.0 r.4 n.1) (worth_unique no_letter factorial k.0 r.2 n.0 r.5 n.1) r.6)
          where
            left : (a b v u' u w : Value 0) → a ≡ b +ᵛ one_value → u' ≡ (a +ᵛ one_value) *ᵛ v → u ≡ v → w ≡ v → u' -ᵛ u ≡ w → b *ᵛ v ≡ zero_value
            left a b v u' u w e f g h i = by (ValueR 0) (a ∷ b ∷ v ∷ u' ∷ u ∷ w ∷ [])
                ((ValueR 0).add_cong (scale (ValueR 0) (neg_value v) e) ((ValueR 0).add_cong (scale (ValueR 0) (neg_value one_value) f) ((ValueR 0).add_cong g ((ValueR 0).add_cong h i)))) (search reads depth 24 fits 6000) refl
