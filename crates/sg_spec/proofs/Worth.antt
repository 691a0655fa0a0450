-- Values of expressions as numbers of the field of fractions, in which equal values are one.
--   Worth u v            the value u is the number v
--   worth_same           values that are one number are equal, and the other way round
--   worth-sum, -product, -opposite, -power, -whole      the operations
--   total_worth          a plain sum from its steps: what is 0 before the first term and grows by each term
use Rattle.std.proofs.Common.{◌≡◌, ℕ, zero, suc, ◌*◌, ℤ, pos, ◌-ℤ◌, ◌*ℤ◌, ◌≤ℤ◌, Option, Some, None, refl, sym, ap₂, ◌∙◌, arith, [], ◌∷◌}
use Rattle.std.proofs.lemmas.Int.{ints}
use Rattle.sg_algebra.proofs.Ring.{pow}
use Rattle.sg_algebra.proofs.Solver.{ring, reads}
use Rattle.sg_algebra.proofs.Value.{Value, ◌+ᵛ◌, ◌-ᵛ◌, ◌*ᵛ◌, neg_value, zero_value, one_value, fraction_value}
use Rattle.sg_algebra.proofs.ValueField.{ValueR}
use Rattle.sg_algebra.proofs.Rational.{fraction_value-add, fraction_value-sub, fraction_value-mul, fraction_value_same, same_fraction_value, fraction_value-zero, fraction_value-one, fraction_value-whole, whole_value}
use Rattle.sg_spec.specs.Fraction.{Fraction, whole}
use Rattle.sg_spec.specs.Tree.{Tree}
use Rattle.sg_spec.specs.Value.{val, both, sum_of, product_of, opposite_of, power_of, SameValue, total}
use Rattle.sg_spec.proofs.Values.{IsProper, val-proper, sum_proper, power_proper}
use Rattle.sg_spec.proofs.Totals.{total-telescopes_from}

-- the number that a fraction is
abbrev pub number_of : Fraction → Value 0
number_of x = fraction_value x.num x.den

abbrev pub Worth : Option Fraction → Value 0 → Type 0
Worth (Some x) v = number_of x ≡ v
Worth None v = ⊥

pub worth_same : (u w : Option Fraction) (v : Value 0) → IsProper u → IsProper w → Worth u v → Worth w v → SameValue u w
worth_same (Some x) (Some y) v p q h k = same_fraction_value x.num y.num x.den y.den p q (h ∙ sym k)
worth_same (Some x) None v p q h k = absurd k
worth_same None w v p q h k = absurd h

pub same_worth : (u w : Option Fraction) (v : Value 0) → IsProper u → IsProper w → SameValue u w → Worth w v → Worth u v
same_worth (Some x) (Some y) v p q h k = fraction_value_same x.num y.num x.den y.den p q h ∙ k
same_worth (Some x) None v p q h k = absurd h
same_worth None w v p q h k = absurd h

pub worth_cong : (u : Option Fraction) (v w : Value 0) → v ≡ w → Worth u v → Worth u w
worth_cong (Some x) v w e h = h ∙ e
worth_cong None v w e h = absurd h

pub worth-sum : (u w : Option Fraction) (v t : Value 0) → IsProper u → IsProper w → Worth u v → Worth w t → Worth (both sum_of u w) (v +ᵛ t)
worth-sum (Some x) (Some y) v t p q h k = fraction_value-add x.num y.num x.den y.den p q ∙ ap₂ ◌+ᵛ◌ h k
worth-sum (Some x) None v t p q h k = absurd k
worth-sum None w v t p q h k = absurd h

pub worth-product : (u w : Option Fraction) (v t : Value 0) → IsProper u → IsProper w → Worth u v → Worth w t → Worth (both product_of u w) (v *ᵛ t)
worth-product (Some x) (Some y) v t p q h k = fraction_value-mul x.num y.num x.den y.den p q ∙ ap₂ ◌*ᵛ◌ h k
worth-product (Some x) None v t p q h k = absurd k
worth-product None w v t p q h k = absurd h

pub worth-opposite : (u : Option Fraction) (v : Value 0) → IsProper u → Worth u v → Worth (opposite_of u) (neg_value v)
worth-opposite (Some x) v p h =
    fraction_value-sub (pos 0) x.num 1 x.den (omega arith) p ∙ ap₂ ◌-ᵛ◌ fraction_value-zero h ∙ ring (ValueR 0) (v ∷ []) (search reads depth 16) refl
worth-opposite None v p h = absurd h

pub worth-whole : (n : ℤ) → Worth (Some (whole n)) (whole_value 0 n)
worth-whole n = fraction_value-whole n

pub worth-power : (u : Option Fraction) (v : Value 0) (e : ℕ) → IsProper u → Worth u v → Worth (power_of u e) (pow (ValueR 0) v e)
worth-power (Some x) v zero p h = fraction_value-one
worth-power (Some x) v (suc e) p h =
    worth_cong (both product_of (power_of (Some x) e) (Some x)) (pow (ValueR 0) v e *ᵛ v) (pow (ValueR 0) v (suc e)) refl
    (worth-product (power_of (Some x) e) (Some x) (pow (ValueR 0) v e) v (power_proper (Some x) e p) p (worth-power (Some x) v e p h) h)
worth-power None v e p h = absurd h

pub whole_value-before : (x : ℤ) → whole_value 0 (x -ℤ pos 1) ≡ whole_value 0 x -ᵛ one_value
whole_value-before x =
    sym (fraction_value-whole (x -ℤ pos 1))
    ∙ fraction_value_same (x -ℤ pos 1) (x *ℤ pos 1 -ℤ pos 1 *ℤ pos 1) 1 (1 * 1) (omega arith) (omega arith) (unit x)
    ∙ fraction_value-sub x (pos 1) 1 1 (omega arith) (omega arith)
    ∙ ap₂ ◌-ᵛ◌ (fraction_value-whole x) fraction_value-one
  where
    unit : (x : ℤ) → (x -ℤ pos 1) *ℤ pos (1 * 1) ≡ (x *ℤ pos 1 -ℤ pos 1 *ℤ pos 1) *ℤ pos 1
    unit x = omega (arith, ints)

pub total_worth : (f h : Tree) (F H : ℤ → Value 0) (a : ℤ) → ((k : ℤ) → Worth (val f (pos 0) k) (F k)) → ((k : ℤ) → Worth (val h (pos 0) k) (H k))
    → H (a -ℤ pos 1) ≡ zero_value → ((x : ℤ) → H x ≡ H (x -ℤ pos 1) +ᵛ F x) → (m : ℤ) → a ≤ℤ m → SameValue (val h (pos 0) m) (total f a m)
total_worth f h F H a worth-f worth-h start step =
    total-telescopes_from f h a
    (worth_same (val h (pos 0) (a -ℤ pos 1)) (Some (whole (pos 0))) (H (a -ℤ pos 1)) (val-proper h (pos 0) (a -ℤ pos 1)) (omega arith) (worth-h (a -ℤ pos 1)) (fraction_value-zero ∙ sym start))
    (λ x. worth_same (val h (pos 0) x) (both sum_of (val h (pos 0) (x -ℤ pos 1)) (val f (pos 0) x)) (H x) (val-proper h (pos 0) x)
    (sum_proper (val h (pos 0) (x -ℤ pos 1)) (val f (pos 0) x) (val-proper h (pos 0) (x -ℤ pos 1)) (val-proper f (pos 0) x))
    (worth-h x)
    (worth_cong (both sum_of (val h (pos 0) (x -ℤ pos 1)) (val f (pos 0) x)) (H (x -ℤ pos 1) +ᵛ F x) (H x) (sym (step x))
    (worth-sum (val h (pos 0) (x -ℤ pos 1)) (val f (pos 0) x) (H (x -ℤ pos 1)) (F x) (val-proper h (pos 0) (x -ℤ pos 1)) (val-proper f (pos 0) x) (worth-h (x -ℤ pos 1)) (worth-f x))))
