-- A closed form gives an expression that telescopes: h - f, since h(k + 1) - f(k + 1) is h(k).
--   sum_next         a plain sum with one more term
--   closed_tele      so where there is a closed form, some expression over the sums telescopes f in values
use Rattle.std.proofs.Common.{◌≡◌, ℕ, refl, sym, ◌∙◌, ap, ap₂, subst, [], ◌∷◌, ℤ, pos, ◌+ℤ◌, ◌-ℤ◌, ◌≤ℤ◌, Option, arith}
use Rattle.std.proofs.lemmas.Int.{ints}
use Rattle.sg_algebra.proofs.Solver.{ring, reads}
use Rattle.sg_algebra.proofs.Value.{Value, ◌+ᵛ◌, ◌-ᵛ◌, neg_value}
use Rattle.sg_algebra.proofs.ValueField.{ValueR}
use Rattle.sg_spec.specs.Fraction.{Fraction}
use Rattle.sg_spec.specs.Tree.{Tree, add, neg, sum_from}
use Rattle.sg_spec.specs.Generators.{Allowed, BuiltOver}
use Rattle.sg_spec.specs.Value.{val, both, sum_of, opposite_of, SameValue, total}
use Rattle.sg_spec.proofs.Totals.{from_on, total-step}
use Rattle.sg_spec.proofs.Values.{IsProper, val-proper}
use Rattle.sg_spec.proofs.Worth.{Worth, worth_same, same_worth, worth-sum, worth-opposite}
use Rattle.sg_value_theory.proofs.NumberParts.{right_number, HasNumber, number_unique, both_parts}
use Rattle.sg_spec.specs.Telescoping.{difference_of, Tele}
use Rattle.sg_value_theory.proofs.Joined.{worth-difference, difference_proper}

module _ (a : ℤ) (body : Tree) where
  abbrev sum_at : ℤ → Option Fraction
  sum_at k = val (sum_from a body) (pos 0) k

  -- from the lower limit less 1 on the next value is one term more
  pub sum_next : (k : ℤ) → (a -ℤ pos 1) ≤ℤ k → sum_at (k +ℤ pos 1) ≡ both sum_of (sum_at k) (val body (pos 0) (k +ℤ pos 1))
  sum_next k l = go (from_on (a -ℤ pos 1) k l)
    where
      here : (a : ℤ) (d : ℕ) (k : ℤ) → k ≡ (a -ℤ pos 1) +ℤ pos d → a +ℤ pos d ≡ k +ℤ pos 1
      here a d k e = omega (arith, ints)

      go : (d : ℕ) × (k ≡ (a -ℤ pos 1) +ℤ pos d) → sum_at (k +ℤ pos 1) ≡ both sum_of (sum_at k) (val body (pos 0) (k +ℤ pos 1))
      go r = ap sum_at (sym (here a r.0 k r.1)) ∙ total-step body a r.0 ∙ ap₂ (both sum_of) (ap sum_at (sym r.1)) (ap (val body (pos 0)) (here a r.0 k r.1))

-- from s on, which is at least the lower limit less 1, h is the plain sum of f from a on
module _ (f h : Tree) (a s : ℤ) (starts : (a -ℤ pos 1) ≤ℤ s) (same : (m : ℤ) → s ≤ℤ m → SameValue (val h (pos 0) m) (total f a m)) where
  abbrev e : Tree
  e = add h (neg f)

  proper : (t : Tree) (k : ℤ) → IsProper (val t (pos 0) k)
  proper t k = val-proper t (pos 0) k

  sum_number : (m : ℤ) → s ≤ℤ m → HasNumber (total f a m)
  sum_number m l = right_number (val h (pos 0) m) (total f a m) (same m l)

  h_worth : (m : ℤ) (l : s ≤ℤ m) → Worth (val h (pos 0) m) (sum_number m l).0
  h_worth m l = same_worth (val h (pos 0) m) (total f a m) (sum_number m l).0 (proper h m) (proper (sum_from a f) m) (same m l) (sum_number m l).1

  -- past s the summand has a value, since the sum one place on has
  term : (k : ℤ) → s ≤ℤ k → HasNumber (val f (pos 0) (k +ℤ pos 1))
  term k l = let n = sum_number (k +ℤ pos 1) (up s k l) in (both_parts sum_of (total f a k) (val f (pos 0) (k +ℤ pos 1)) n.0 (rw (sum_next a f k (low a s k starts l)) at n.1)).1
    where
      up : (s k : ℤ) → s ≤ℤ k → s ≤ℤ (k +ℤ pos 1)
      up s k l = omega (arith, ints)

      low : (a s k : ℤ) → (a -ℤ pos 1) ≤ℤ s → s ≤ℤ k → (a -ℤ pos 1) ≤ℤ k
      low a s k h l = omega (arith, ints)

  step : (k : ℤ) (l : s ≤ℤ k) (m : s ≤ℤ (k +ℤ pos 1)) (v : Value 0) → Worth (val f (pos 0) (k +ℤ pos 1)) v → (sum_number (k +ℤ pos 1) m).0 ≡ (sum_number k l).0 +ᵛ v
  step k l m v w = number_unique (total f a (k +ℤ pos 1)) (sum_number (k +ℤ pos 1) m).0 ((sum_number k l).0 +ᵛ v) (sum_number (k +ℤ pos 1) m).1
      (rw (sum_next a f k (low a s k starts l)) (worth-sum (total f a k) (val f (pos 0) (k +ℤ pos 1)) (sum_number k l).0 v (proper (sum_from a f) k) (proper f (k +ℤ pos 1)) (sum_number k l).1 w))
    where
      low : (a s k : ℤ) → (a -ℤ pos 1) ≤ℤ s → s ≤ℤ k → (a -ℤ pos 1) ≤ℤ k
      low a s k h l = omega (arith, ints)

  e_worth : (m : ℤ) (l : s ≤ℤ m) (v : Value 0) → Worth (val f (pos 0) m) v → Worth (val e (pos 0) m) ((sum_number m l).0 +ᵛ neg_value v)
  e_worth m l v w = worth-sum (val h (pos 0) m) (opposite_of (val f (pos 0) m)) (sum_number m l).0 (neg_value v) (proper h m) (proper (neg f) m) (h_worth m l) (worth-opposite (val f (pos 0) m) v (proper f m) w)

  pub closed_tele : Tele e f
  closed_tele = record { from = s +ℤ pos 1; steps = at }
    where
      down : (s k : ℤ) → (s +ℤ pos 1) ≤ℤ k → s ≤ℤ (k -ℤ pos 1)
      down s k l = omega (arith, ints)

      less : (s k : ℤ) → (s +ℤ pos 1) ≤ℤ k → s ≤ℤ k
      less s k l = omega (arith, ints)

      up : (s k : ℤ) → (s +ℤ pos 1) ≤ℤ k → s ≤ℤ (k +ℤ pos 1)
      up s k l = omega (arith, ints)

      back : (k : ℤ) → (k -ℤ pos 1) +ℤ pos 1 ≡ k
      back k = omega (arith, ints)

      numbers : (c v w : Value 0) → ((c +ᵛ w) +ᵛ neg_value w) -ᵛ (c +ᵛ neg_value v) ≡ v
      numbers c v w = ring (ValueR 0) (c ∷ v ∷ w ∷ []) (search reads depth 16) refl

      at : (k : ℤ) → (s +ℤ pos 1) ≤ℤ k → SameValue (both difference_of (val e (pos 0) (k +ℤ pos 1)) (val e (pos 0) k)) (val f (pos 0) k)
      at k l = go (subst (λ (z : ℤ). HasNumber (val f (pos 0) z)) (back k) (term (k -ℤ pos 1) (down s k l))) (term k (less s k l))
        where
          go : HasNumber (val f (pos 0) k) → HasNumber (val f (pos 0) (k +ℤ pos 1)) → SameValue (both difference_of (val e (pos 0) (k +ℤ pos 1)) (val e (pos 0) k)) (val f (pos 0) k)
          go v w = worth_same (both difference_of (val e (pos 0) (k +ℤ pos 1)) (val e (pos 0) k)) (val f (pos 0) k) v.0 (difference_proper (val e (pos 0) (k +ℤ pos 1)) (val e (pos 0) k) (proper e (k +ℤ pos 1)) (proper e k)) (proper f k)
              (subst (λ (z : Value 0). Worth (both difference_of (val e (pos 0) (k +ℤ pos 1)) (val e (pos 0) k)) z)
              (ap (λ z. (z +ᵛ neg_value w.0) -ᵛ ((sum_number k (less s k l)).0 +ᵛ neg_value v.0)) (step k (less s k l) (up s k l) w.0 w.1) ∙ numbers (sum_number k (less s k l)).0 v.0 w.0)
              (worth-difference (val e (pos 0) (k +ℤ pos 1)) (val e (pos 0) k) ((sum_number (k +ℤ pos 1) (up s k l)).0 +ᵛ neg_value w.0) ((sum_number k (less s k l)).0 +ᵛ neg_value v.0) (proper e (k +ℤ pos 1)) (proper e k)
              (e_worth (k +ℤ pos 1) (up s k l) w.0 w.1) (e_worth k (less s k l) v.0 v.1)))
              v.1

-- with products: the expression is built as the text and the closed form are
pub closed_with_products : (allowed : Allowed) (f h : Tree) (a s : ℤ) → BuiltOver allowed f → BuiltOver allowed h → (a -ℤ pos 1) ≤ℤ s → ((m : ℤ) → s ≤ℤ m → SameValue (val h (pos 0) m) (total f a m))
    → (e : Tree) × BuiltOver allowed e × Tele e f
closed_with_products allowed f h a s o c starts same = (add h (neg f), (c, o), closed_tele f h a s starts same)
