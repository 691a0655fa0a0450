-- Values in a field of values.
--   folded_unique, worth_unique     there is at most one
--   worth_number, number_worth      over the fractions it is the value of the expression
--   HasNumber u                     the value is there
use Rattle.std.proofs.Common.{◌≡◌, ◌≢◌, ℕ, zero, suc, ℤ, pos, negsuc, ◌+ℤ◌, refl, sym, ap, ap₂, ◌∙◌, Option, Some, None, arith}
use Rattle.sg_algebra.proofs.Ring.{pow}
use Rattle.sg_algebra.proofs.Value.{Value, ◌+ᵛ◌, ◌*ᵛ◌, ◌/ᵛ◌, neg_value, zero_value, one_value}
use Rattle.sg_algebra.proofs.ValueField.{ValueR}
use Rattle.sg_algebra.proofs.Rational.{whole_value, fraction_value-zero, fraction_value-one, fraction_value-over, fraction_value_zero, zero_fraction_value}
use Rattle.sg_spec.specs.Fraction.{Fraction, whole, over}
use Rattle.sg_spec.specs.Tree.{Tree, numeral, here, param, add, neg, mul, div, power, sum_from, prod_from}
use Rattle.sg_spec.specs.Value.{val, both, sum_of, product_of, quotient_of, unless_zero, opposite_of, power_of, folded, how_many}
use Rattle.sg_spec.proofs.Values.{IsProper, val-proper, sum_proper, product_positive}
use Rattle.sg_spec.proofs.Worth.{Worth, number_of, worth_cong, worth-sum, worth-product, worth-opposite, worth-whole, worth-power}
use Rattle.sg_spec.specs.Worth.{IsFolded, HasWorth}

pub folded_unique : {B : Type 0} (op : B → B → B) (start : B) (term : ℤ → B → Type 0) → ((j : ℤ) (u w : B) → term j u → term j w → u ≡ w)
    → (from : ℤ) (n : ℕ) (u w : B) → IsFolded op start term from n u → IsFolded op start term from n w → u ≡ w
folded_unique op start term one from zero u w h k = h ∙ sym k
folded_unique op start term one from (suc n) u w h k =
    h.4 ∙ ap₂ op (folded_unique op start term one from n h.0 k.0 h.2 k.2) (one (from +ℤ pos n) h.1 k.1 h.3 k.3) ∙ sym k.4

module _ {d : ℕ} (letter : Value d) where
  pub worth_unique : (t : Tree) (k : ℤ) (u w : Value d) → HasWorth letter t k u → HasWorth letter t k w → u ≡ w
  worth_unique (numeral c) k u w h i = h ∙ sym i
  worth_unique here k u w h i = h ∙ sym i
  worth_unique param k u w h i = h ∙ sym i
  worth_unique (add x y) k u w h i = h.4 ∙ ap₂ ◌+ᵛ◌ (worth_unique x k h.0 i.0 h.2 i.2) (worth_unique y k h.1 i.1 h.3 i.3) ∙ sym i.4
  worth_unique (neg x) k u w h i = h.2 ∙ ap neg_value (worth_unique x k h.0 i.0 h.1 i.1) ∙ sym i.2
  worth_unique (mul x y) k u w h i = h.4 ∙ ap₂ ◌*ᵛ◌ (worth_unique x k h.0 i.0 h.2 i.2) (worth_unique y k h.1 i.1 h.3 i.3) ∙ sym i.4
  worth_unique (div x y) k u w h i = h.5 ∙ ap₂ ◌/ᵛ◌ (worth_unique x k h.0 i.0 h.2 i.2) (worth_unique y k h.1 i.1 h.3 i.3) ∙ sym i.5
  worth_unique (power x e) k u w h i = h.2 ∙ ap (λ v. pow (ValueR d) v e) (worth_unique x k h.0 i.0 h.1 i.1) ∙ sym i.2
  worth_unique (sum_from from body) k u w h i = folded_unique ◌+ᵛ◌ zero_value (HasWorth letter body) (worth_unique body) from (how_many from k) u w h i
  worth_unique (prod_from from body) k u w h i = folded_unique ◌*ᵛ◌ one_value (HasWorth letter body) (worth_unique body) from (how_many from k) u w h i

-- ---- Over the fractions

unless : (x y : Fraction) (z : ℤ) (v t : Value 0) → y.num ≡ z → z ≢ pos 0 → number_of (over x y) ≡ v /ᵛ t → Worth (unless_zero z (over x y)) (v /ᵛ t)
unless x y (pos zero) v t e ne h = absurd (ne refl)
unless x y (pos (suc n)) v t e ne h = h
unless x y (negsuc n) v t e ne h = h

worth-quotient : (u w : Option Fraction) (v t : Value 0) → IsProper u → IsProper w → Worth u v → Worth w t → ¬ (t ≡ zero_value) → Worth (both quotient_of u w) (v /ᵛ t)
worth-quotient (Some x) (Some y) v t p q h k n =
    let ne : y.num ≢ pos 0 = λ z. n (sym k ∙ fraction_value_zero y.num y.den q z) in
    unless x y y.num v t refl ne (fraction_value-over x.num y.num x.den y.den p q ne ∙ ap₂ ◌/ᵛ◌ h k)
worth-quotient (Some x) None v t p q h k n = absurd k
worth-quotient None w v t p q h k n = absurd h

module _ (op : Fraction → Fraction → Option Fraction) (plus : Value 0 → Value 0 → Value 0) (start : Fraction) (unit : Value 0) (term : ℤ → Option Fraction) (Term : ℤ → Value 0 → Type 0)
    (joins : (u w : Option Fraction) (v t : Value 0) → IsProper u → IsProper w → Worth u v → Worth w t → Worth (both op u w) (plus v t))
    (proper : (n : ℕ) (from : ℤ) → IsProper (folded op start term from n)) (term-proper : (j : ℤ) → IsProper (term j))
    (first : number_of start ≡ unit) (terms : (j : ℤ) (v : Value 0) → Term j v → Worth (term j) v) where
  folded_worth : (from : ℤ) (n : ℕ) (v : Value 0) → IsFolded plus unit Term from n v → Worth (folded op start term from n) v
  folded_worth from zero v h = first ∙ sym h
  folded_worth from (suc n) v h =
      worth_cong (both op (folded op start term from n) (term (from +ℤ pos n))) (plus h.0 h.1) v (sym h.4)
      (joins (folded op start term from n) (term (from +ℤ pos n)) h.0 h.1 (proper n from) (term-proper (from +ℤ pos n)) (folded_worth from n h.0 h.2) (terms (from +ℤ pos n) h.1 h.3))

pub sums_proper : (term : ℤ → Option Fraction) → ((j : ℤ) → IsProper (term j)) → (n : ℕ) (from : ℤ) → IsProper (folded sum_of (whole (pos 0)) term from n)
sums_proper term h zero from = omega arith
sums_proper term h (suc n) from = sum_proper (folded sum_of (whole (pos 0)) term from n) (term (from +ℤ pos n)) (sums_proper term h n from) (h (from +ℤ pos n))

product_proper : (u v : Option Fraction) → IsProper u → IsProper v → IsProper (both product_of u v)
product_proper (Some x) (Some y) h k = product_positive x.den y.den h k
product_proper (Some x) None h k = tt
product_proper None v h k = tt

pub products_proper : (term : ℤ → Option Fraction) → ((j : ℤ) → IsProper (term j)) → (n : ℕ) (from : ℤ) → IsProper (folded product_of (whole (pos 1)) term from n)
products_proper term h zero from = omega arith
products_proper term h (suc n) from = product_proper (folded product_of (whole (pos 1)) term from n) (term (from +ℤ pos n)) (products_proper term h n from) (h (from +ℤ pos n))

module _ (n : ℤ) where
  pub worth_number : (t : Tree) (k : ℤ) (v : Value 0) → HasWorth (whole_value 0 n) t k v → Worth (val t n k) v
  worth_number (numeral c) k v h = worth_cong (Some (whole c)) (whole_value 0 c) v (sym h) (worth-whole c)
  worth_number here k v h = worth_cong (Some (whole k)) (whole_value 0 k) v (sym h) (worth-whole k)
  worth_number param k v h = worth_cong (Some (whole n)) (whole_value 0 n) v (sym h) (worth-whole n)
  worth_number (add x y) k v h =
      worth_cong (both sum_of (val x n k) (val y n k)) (h.0 +ᵛ h.1) v (sym h.4)
      (worth-sum (val x n k) (val y n k) h.0 h.1 (val-proper x n k) (val-proper y n k) (worth_number x k h.0 h.2) (worth_number y k h.1 h.3))
  worth_number (neg x) k v h = worth_cong (opposite_of (val x n k)) (neg_value h.0) v (sym h.2) (worth-opposite (val x n k) h.0 (val-proper x n k) (worth_number x k h.0 h.1))
  worth_number (mul x y) k v h =
      worth_cong (both product_of (val x n k) (val y n k)) (h.0 *ᵛ h.1) v (sym h.4)
      (worth-product (val x n k) (val y n k) h.0 h.1 (val-proper x n k) (val-proper y n k) (worth_number x k h.0 h.2) (worth_number y k h.1 h.3))
  worth_number (div x y) k v h =
      worth_cong (both quotient_of (val x n k) (val y n k)) (h.0 /ᵛ h.1) v (sym h.5)
      (worth-quotient (val x n k) (val y n k) h.0 h.1 (val-proper x n k) (val-proper y n k) (worth_number x k h.0 h.2) (worth_number y k h.1 h.3) h.4)
  worth_number (power x e) k v h =
      worth_cong (power_of (val x n k) e) (pow (ValueR 0) h.0 e) v (sym h.2) (worth-power (val x n k) h.0 e (val-proper x n k) (worth_number x k h.0 h.1))
  worth_number (sum_from from body) k v h =
      folded_worth sum_of ◌+ᵛ◌ (whole (pos 0)) zero_value (val body n) (HasWorth (whole_value 0 n) body) worth-sum (sums_proper (val body n) (val-proper body n)) (val-proper body n) fraction_value-zero
      (worth_number body) from (how_many from k) v h
  worth_number (prod_from from body) k v h =
      folded_worth product_of ◌*ᵛ◌ (whole (pos 1)) one_value (val body n) (HasWorth (whole_value 0 n) body) worth-product (products_proper (val body n) (val-proper body n)) (val-proper body n) fraction_value-one
      (worth_number body) from (how_many from k) v h

-- ---- Parts of values that are there

worth_one : (u : Option Fraction) (v w : Value 0) → Worth u v → Worth u w → v ≡ w
worth_one (Some x) v w h k = sym h ∙ k
worth_one None v w h k = absurd h

abbrev pub HasNumber : Option Fraction → Type 0
HasNumber u = (v : Value 0) × Worth u v

both_parts : (f : Fraction → Fraction → Option Fraction) (u v : Option Fraction) (x : Value 0) → Worth (both f u v) x → HasNumber u × HasNumber v
both_parts f (Some a) (Some b) x h = ((number_of a, refl), (number_of b, refl))
both_parts f (Some a) None x h = absurd h
both_parts f None v x h = absurd h

opposite_part : (u : Option Fraction) (x : Value 0) → Worth (opposite_of u) x → HasNumber u
opposite_part (Some a) x h = (number_of a, refl)
opposite_part None x h = absurd h

power_part : (u : Option Fraction) (e : ℕ) (x : Value 0) → Worth (power_of u e) x → HasNumber u
power_part (Some a) e x h = (number_of a, refl)
power_part None e x h = absurd h

-- a quotient has a value only where the divisor's isn't 0
divisor_some : (u w : Option Fraction) (v t : Value 0) → IsProper w → Worth (both quotient_of u w) v → Worth w t → ¬ (t ≡ zero_value)
divisor_some (Some x) (Some y) v t p h k z = cases y.num (zero_fraction_value y.num y.den p (k ∙ z)) h
  where
    cases : (n : ℤ) → n ≡ pos 0 → Worth (unless_zero n (over x y)) v → ⊥
    cases (pos zero) e h = h
    cases (pos (suc n)) e h = cc
    cases (negsuc n) e h = cc
divisor_some (Some x) None v t p h k z = h
divisor_some None w v t p h k z = h

module _ (op : Fraction → Fraction → Option Fraction) (plus : Value 0 → Value 0 → Value 0) (start : Fraction) (unit : Value 0) (term : ℤ → Option Fraction) (Term : ℤ → Value 0 → Type 0)
    (joins : (u w : Option Fraction) (v t : Value 0) → IsProper u → IsProper w → Worth u v → Worth w t → Worth (both op u w) (plus v t))
    (proper : (n : ℕ) (from : ℤ) → IsProper (folded op start term from n)) (term-proper : (j : ℤ) → IsProper (term j))
    (first : number_of start ≡ unit) (terms : (j : ℤ) (v : Value 0) → Worth (term j) v → Term j v) where
  worth_folded : (from : ℤ) (n : ℕ) (v : Value 0) → Worth (folded op start term from n) v → IsFolded plus unit Term from n v
  worth_folded from zero v h = sym h ∙ first
  worth_folded from (suc n) v h =
      let p = both_parts op (folded op start term from n) (term (from +ℤ pos n)) v h in (
        p.0.0,
        p.1.0,
        worth_folded from n p.0.0 p.0.1,
        terms (from +ℤ pos n) p.1.0 p.1.1,
        worth_one (both op (folded op start term from n) (term (from +ℤ pos n))) v (plus p.0.0 p.1.0) h
            (joins (folded op start term from n) (term (from +ℤ pos n)) p.0.0 p.1.0 (proper n from) (term-proper (from +ℤ pos n)) p.0.1 p.1.1),
      )

module _ (n : ℤ) where
  pub number_worth : (t : Tree) (k : ℤ) (v : Value 0) → Worth (val t n k) v → HasWorth (whole_value 0 n) t k v
  number_worth (numeral c) k v h = worth_one (Some (whole c)) v (whole_value 0 c) h (worth-whole c)
  number_worth here k v h = worth_one (Some (whole k)) v (whole_value 0 k) h (worth-whole k)
  number_worth param k v h = worth_one (Some (whole n)) v (whole_value 0 n) h (worth-whole n)
  number_worth (add x y) k v h =
      let p = both_parts sum_of (val x n k) (val y n k) v h in (
        p.0.0,
        p.1.0,
        number_worth x k p.0.0 p.0.1,
        number_worth y k p.1.0 p.1.1,
        worth_one (val (add x y) n k) v (p.0.0 +ᵛ p.1.0) h (worth-sum (val x n k) (val y n k) p.0.0 p.1.0 (val-proper x n k) (val-proper y n k) p.0.1 p.1.1),
      )
  number_worth (neg x) k v h =
      let p = opposite_part (val x n k) v h in
      (p.0, number_worth x k p.0 p.1, worth_one (val (neg x) n k) v (neg_value p.0) h (worth-opposite (val x n k) p.0 (val-proper x n k) p.1))
  number_worth (mul x y) k v h =
      let p = both_parts product_of (val x n k) (val y n k) v h in (
        p.0.0,
        p.1.0,
        number_worth x k p.0.0 p.0.1,
        number_worth y k p.1.0 p.1.1,
        worth_one (val (mul x y) n k) v (p.0.0 *ᵛ p.1.0) h (worth-product (val x n k) (val y n k) p.0.0 p.1.0 (val-proper x n k) (val-proper y n k) p.0.1 p.1.1),
      )
  number_worth (div x y) k v h =
      let p = both_parts quotient_of (val x n k) (val y n k) v h in
      let some = divisor_some (val x n k) (val y n k) v p.1.0 (val-proper y n k) h p.1.1 in (
        p.0.0,
        p.1.0,
        number_worth x k p.0.0 p.0.1,
        number_worth y k p.1.0 p.1.1,
        some,
        worth_one (val (div x y) n k) v (p.0.0 /ᵛ p.1.0) h (worth-quotient (val x n k) (val y n k) p.0.0 p.1.0 (val-proper x n k) (val-proper y n k) p.0.1 p.1.1 some),
      )
  number_worth (power x e) k v h =
      let p = power_part (val x n k) e v h in
      (p.0, number_worth x k p.0 p.1, worth_one (val (power x e) n k) v (pow (ValueR 0) p.0 e) h (worth-power (val x n k) p.0 e (val-proper x n k) p.1))
  number_worth (sum_from from body) k v h =
      worth_folded sum_of ◌+ᵛ◌ (whole (pos 0)) zero_value (val body n) (HasWorth (whole_value 0 n) body) worth-sum (sums_proper (val body n) (val-proper body n)) (val-proper body n) fraction_value-zero
      (number_worth body) from (how_many from k) v h
  number_worth (prod_from from body) k v h =
      worth_folded product_of ◌*ᵛ◌ (whole (pos 1)) one_value (val body n) (HasWorth (whole_value 0 n) body) worth-product (products_proper (val body n) (val-proper body n)) (val-proper body n) fraction_value-one
      (number_worth body) from (how_many from k) v h
