-- Texts without sums: the rational function of a text, its values, and none in values from none formally.
--   element_of          the rational function that the text is
--   worth_has           where the text has a value, the function has that value
--   rational_known      so the text is known from each place on from which it has values
--   rational_none       no rational antidifference of the element of f: no expression without sums telescopes f in values
--   text_none           the same of the rational function of a text that has values from some place on
--   none_of_text        and of any text
use Rattle.std.proofs.Common.{◌≡◌, ℕ, zero, suc, sym, ◌∙◌, subst, [], ℤ, pos, ◌+ℤ◌, ◌≤ℤ◌, Contains, arith}
use Rattle.std.proofs.lemmas.Int.{ints}
use Rattle.sg_algebra.proofs.Ring.{pow}
use Rattle.sg_algebra.proofs.Value.{Value, ◌+ᵛ◌, ◌*ᵛ◌, ◌/ᵛ◌, neg_value, zero_value}
use Rattle.sg_algebra.proofs.ValueField.{ValueR, ValueF, ValueD, value_quotient}
use Rattle.sg_algebra.proofs.Rational.{whole_value, fraction_value-whole}
use Rattle.sg_spec.specs.Tree.{Tree, numeral, here, param, add, neg, mul, div, power, sum_from, prod_from}
use Rattle.sg_spec.specs.Value.{val, both, sum_of, product_of, quotient_of}
use Rattle.sg_spec.specs.Generators.{Over}
use Rattle.sg_spec.proofs.Values.{val-proper}
use Rattle.sg_spec.proofs.Worth.{Worth, worth-sum, worth-product, worth-opposite, worth-power}
use Rattle.sg_spec.specs.Telescoping.{difference_of, Tele}
use Rattle.sg_tower_theory.proofs.Nested.{Telescopes}
use Rattle.sg_tower_theory.proofs.ShiftValue.{shift_valueH}
use Rattle.sg_value_theory.proofs.Elements.{IsQuotientAt}
use Rattle.sg_value_theory.proofs.Quotients.{quotients, quotient-over}
use Rattle.sg_value_theory.proofs.Integral.{integral_field}
use Rattle.sg_value_theory.proofs.NumberParts.{HasNumber, number_unique, both_parts, opposite_part, power_part, quotient_worth, right_number}
use Rattle.sg_value_theory.proofs.Express.{Known}
use Rattle.sg_value_theory.proofs.Joined.{none_in_values, tele_formal}
use Rattle.sg_value_theory.proofs.RationalPlaces.{point, whole_at, lawful_rational, variable, variable_at, rational_places}

nothing_listed : {X : Type 0} {t : X} → Contains [] t → ⊥
nothing_listed c = grind arith

module _ (k0 : ℤ) where
  pub variable_known : Known (ValueD 1) (shift_valueH 0) (rational_places 0 k0) k0 here (variable 0)
  variable_known k = (point 0 k0 k, variable_at 0 (k0 +ℤ pos k), fraction_value-whole (k0 +ℤ pos k))

  no_sums : (t : Tree) → Contains [] t → (h : Value 1) × Known (ValueD 1) (shift_valueH 0) (rational_places 0 k0) k0 t h
  no_sums t c = absurd (nothing_listed c)

  pub rational_formal : (e f : Tree) (x : Value 1) → Over [] e → Known (ValueD 1) (shift_valueH 0) (rational_places 0 k0) k0 f x → Tele e f → (g : Value 1) × Telescopes (ValueR 1) (shift_valueH 0) g x
  rational_formal = tele_formal (ValueD 1) (shift_valueH 0) (rational_places 0 k0) (lawful_rational 0) k0 (integral_field (ValueF 1) (shift_valueH 0)) [] no_sums (variable 0) variable_known

  pub rational_none : (f : Tree) (x : Value 1) → Known (ValueD 1) (shift_valueH 0) (rational_places 0 k0) k0 f x
      → ((g : Value 1) → ¬ Telescopes (ValueR 1) (shift_valueH 0) g x) → (e : Tree) → Over [] e → ¬ Tele e f
  rational_none = none_in_values (ValueD 1) (shift_valueH 0) (rational_places 0 k0) (lawful_rational 0) k0 (integral_field (ValueF 1) (shift_valueH 0)) [] no_sums (variable 0) variable_known

unfoldable pub element_of : Tree → Value 1
element_of (numeral c) = whole_value 1 c
element_of here = variable 0
element_of param = zero_value
element_of (add x y) = element_of x +ᵛ element_of y
element_of (neg x) = neg_value (element_of x)
element_of (mul x y) = element_of x *ᵛ element_of y
element_of (div x y) = element_of x /ᵛ element_of y
element_of (power x e) = pow (ValueR 1) (element_of x) e
element_of (sum_from a b) = zero_value
element_of (prod_from a b) = zero_value

module _ (k : ℤ) where
  abbrev Has : Value 1 → Value 0 → Type 0
  Has x v = IsQuotientAt {d = 0} k x v

  with_value : (x : Value 1) (v w : Value 0) → v ≡ w → Has x v → Has x w
  with_value x v w e h = subst (λ (z : Value 0). Has x z) e h

  at_pow : (x : Value 1) (v : Value 0) (e : ℕ) → Has x v → Has (pow (ValueR 1) x e) (pow (ValueR 0) v e)
  at_pow x v zero h = (quotients 0 k).one_has
  at_pow x v (suc e) h = (quotients 0 k).mul_has (pow (ValueR 1) x e) x (pow (ValueR 0) v e) v (at_pow x v e h) h

  pub worth_has : (f : Tree) → Over [] f → (v : Value 0) → Worth (val f (pos 0) k) v → Has (element_of f) v
  unfolding element_of
  worth_has (numeral c) o v h = with_value (whole_value 1 c) (whole_value 0 c) v (sym (fraction_value-whole c) ∙ h) (whole_at 0 k c)
  worth_has here o v h = with_value (variable 0) (whole_value 0 k) v (sym (fraction_value-whole k) ∙ h) (variable_at 0 k)
  worth_has param o v h = absurd o
  worth_has (add x y) o v h =
      let n = both_parts sum_of (val x (pos 0) k) (val y (pos 0) k) v h in
      with_value (element_of x +ᵛ element_of y) (n.0.0 +ᵛ n.1.0) v (number_unique (val (add x y) (pos 0) k) (n.0.0 +ᵛ n.1.0) v (worth-sum (val x (pos 0) k) (val y (pos 0) k) n.0.0 n.1.0 (val-proper x (pos 0) k) (val-proper y (pos 0) k) n.0.1 n.1.1) h)
      ((quotients 0 k).add_has (element_of x) (element_of y) n.0.0 n.1.0 (worth_has x o.0 n.0.0 n.0.1) (worth_has y o.1 n.1.0 n.1.1))
  worth_has (neg x) o v h =
      let n = opposite_part (val x (pos 0) k) v h in
      with_value (neg_value (element_of x)) (neg_value n.0) v (number_unique (val (neg x) (pos 0) k) (neg_value n.0) v (worth-opposite (val x (pos 0) k) n.0 (val-proper x (pos 0) k) n.1) h)
      ((quotients 0 k).neg_has (element_of x) n.0 (worth_has x o n.0 n.1))
  worth_has (mul x y) o v h =
      let n = both_parts product_of (val x (pos 0) k) (val y (pos 0) k) v h in
      with_value (element_of x *ᵛ element_of y) (n.0.0 *ᵛ n.1.0) v (number_unique (val (mul x y) (pos 0) k) (n.0.0 *ᵛ n.1.0) v (worth-product (val x (pos 0) k) (val y (pos 0) k) n.0.0 n.1.0 (val-proper x (pos 0) k) (val-proper y (pos 0) k) n.0.1 n.1.1) h)
      ((quotients 0 k).mul_has (element_of x) (element_of y) n.0.0 n.1.0 (worth_has x o.0 n.0.0 n.0.1) (worth_has y o.1 n.1.0 n.1.1))
  worth_has (div x y) o v h =
      let n = both_parts quotient_of (val x (pos 0) k) (val y (pos 0) k) v h in
      let q = quotient_worth (val x (pos 0) k) (val y (pos 0) k) v n.0.0 n.1.0 (val-proper x (pos 0) k) (val-proper y (pos 0) k) h n.0.1 n.1.1 in
      with_value (element_of x /ᵛ element_of y) (n.0.0 /ᵛ n.1.0) v (sym (value_quotient n.0.0 n.1.0 v q.0 q.1)) (quotient-over k (element_of x) (element_of y) n.0.0 n.1.0 (worth_has x o.0 n.0.0 n.0.1) (worth_has y o.1 n.1.0 n.1.1) q.0)
  worth_has (power x e) o v h =
      let n = power_part (val x (pos 0) k) e v h in
      with_value (pow (ValueR 1) (element_of x) e) (pow (ValueR 0) n.0 e) v (number_unique (val (power x e) (pos 0) k) (pow (ValueR 0) n.0 e) v (worth-power (val x (pos 0) k) n.0 e (val-proper x (pos 0) k) n.1) h)
      (at_pow (element_of x) n.0 e (worth_has x o n.0 n.1))
  worth_has (sum_from a b) o v h = absurd (nothing_listed o)
  worth_has (prod_from a b) o v h = absurd o

module _ (f : Tree) (o : Over [] f) (K : ℤ) (defined : (k : ℤ) → K ≤ℤ k → HasNumber (val f (pos 0) k)) where
  pub rational_known : Known (ValueD 1) (shift_valueH 0) (rational_places 0 K) K f (element_of f)
  rational_known k = let n = defined (K +ℤ pos k) (above K k) in (n.0, worth_has (K +ℤ pos k) f o n.0 n.1, n.1)
    where
      above : (K : ℤ) (k : ℕ) → K ≤ℤ (K +ℤ pos k)
      above K k = omega (arith, ints)

  -- none means none, for texts without sums
  pub text_none : ((g : Value 1) → ¬ Telescopes (ValueR 1) (shift_valueH 0) g (element_of f)) → (e : Tree) → Over [] e → ¬ Tele e f
  text_none none e q t = rational_none K f (element_of f) rational_known none e q t

-- where an expression telescopes the text, the text has values from some place on
pub none_of_text : (f : Tree) → Over [] f → ((g : Value 1) → ¬ Telescopes (ValueR 1) (shift_valueH 0) g (element_of f)) → (e : Tree) → Over [] e → ¬ Tele e f
none_of_text f o none e q t =
    text_none f o t.from (λ k l. right_number (both difference_of (val e (pos 0) (k +ℤ pos 1)) (val e (pos 0) k)) (val f (pos 0) k) (t.steps k l)) none e q t
