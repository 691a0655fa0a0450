-- A polynomial over the fractions that isn't zero has, from some place on, no whole root.
--   ApartPast      past some place no root among the points
--   Cleared        its values at the places, times one number, are whole numbers
--   rational_bound the place from which none is 0
use Rattle.std.proofs.Common.{◌≡◌, ℕ, suc, ◌+◌, ◌*◌, ◌≤◌, ◌<◌, refl, sym, ◌∙◌, ap, ap₂, List, [], ◌∷◌, ℤ, pos, ◌+ℤ◌, ◌*ℤ◌, neg_ℤ, unsigned_abs, arith}
use Rattle.std.proofs.lemmas.Int.{ints, unsigned_abs-mul}
use Rattle.sg_algebra.specs.Ring.{Ring}
use Rattle.sg_algebra.specs.Coefficients.{eval}
use Rattle.sg_algebra.proofs.Solver.{ring, by, scale, reads}
use Rattle.sg_algebra.proofs.Whole.{ℤR, readsℤ, ℤD}
use Rattle.sg_algebra.proofs.Field.{product_ne}
use Rattle.sg_algebra.proofs.PolynomialRing.{PolyR, no_coefficient, cons_cong}
use Rattle.sg_algebra.proofs.Degree.{poly_zero}
use Rattle.sg_algebra.proofs.Evaluation.{eval_cong}
use Rattle.sg_algebra.proofs.Value.{Value, ◌+ᵛ◌, ◌*ᵛ◌, zero_value, fraction_value}
use Rattle.sg_algebra.proofs.ValueField.{ValueR, value_is_zero}
use Rattle.sg_algebra.proofs.Rational.{whole_value, fraction_value-add, fraction_value-mul, fraction_value-whole, fraction_value_same, fraction_value-zero, zero_fraction_value, fraction_value_zero}
use Rattle.sg_value_theory.proofs.Parts.{numer, denom, denom_positive, value_is_fraction}

pub record ApartPast (R : Ring) (point : ℕ → R.A) (q : List R.A) : Type 0 where
  pub bound : ℕ
  pub apart : (k : ℕ) → bound ≤ k → ¬ (R.◌≈◌ (eval R q (point k)) R.O)

-- a whole number as a fraction
abbrev whole : ℤ → Value 0
whole n = fraction_value n 1

whole-add : (a b : ℤ) → whole (a +ℤ b) ≡ whole a +ᵛ whole b
whole-add a b = fraction_value_same (a +ℤ b) (a *ℤ pos 1 +ℤ b *ℤ pos 1) 1 (1 * 1) (omega arith) (omega arith) (omega (arith, ints)) ∙ fraction_value-add a b 1 1 (omega arith) (omega arith)

whole-mul : (a b : ℤ) → whole (a *ℤ b) ≡ whole a *ᵛ whole b
whole-mul a b = fraction_value-mul a b 1 1 (omega arith) (omega arith)

-- a fraction times its denominator
cleared_one : (x : Value 0) → x *ᵛ whole (pos (denom x)) ≡ whole (numer x)
cleared_one x = ap (λ y. y *ᵛ whole (pos (denom x))) (value_is_fraction x) ∙ sym (fraction_value-mul (numer x) (pos (denom x)) (denom x) 1 (denom_positive x) (omega arith))
    ∙ fraction_value_same (numer x *ℤ pos (denom x)) (numer x) (denom x * 1) 1 (product (denom x) (denom_positive x)) (omega arith) (times (numer x) (denom x))
  where
    product : (d : ℕ) → 0 < d → 0 < d * 1
    product d h = omega arith

    times : (n : ℤ) (d : ℕ) → (n *ℤ pos d) *ℤ pos 1 ≡ n *ℤ pos (d * 1)
    times n d = omega (arith, ints)

module _ (k0 : ℤ) where
  abbrev pub place : ℕ → ℤ
  place k = k0 +ℤ pos k

  abbrev pub point : ℕ → Value 0
  point k = whole_value 0 (place k)

  record Cleared (q : List (Value 0)) : Type 0 where
    m : ℕ
    m_positive : 0 < m
    n : ℕ → ℤ
    is : (k : ℕ) → eval (ValueR 0) q (point k) *ᵛ whole (pos m) ≡ whole (n k)

  abbrev next_n : (a : Value 0) (q : List (Value 0)) → Cleared q → ℕ → ℤ
  next_n a q c k = numer a *ℤ pos c.m +ℤ (place k *ℤ c.n k) *ℤ pos (denom a)

  next_cleared : (a : Value 0) (q : List (Value 0)) → Cleared q → Cleared (a ∷ q)
  next_cleared a q c = record {
    m = denom a * c.m;
    m_positive = positive (denom a) c.m (denom_positive a) c.m_positive;
    n = next_n a q c;
    is = λ k. ap (◌*ᵛ◌ (a +ᵛ point k *ᵛ eval (ValueR 0) q (point k))) (whole-mul (pos (denom a)) (pos c.m))
        ∙ joined a (point k) (eval (ValueR 0) q (point k)) (whole (pos (denom a))) (whole (pos c.m)) (whole (numer a)) (whole (c.n k)) (cleared_one a) (c.is k)
        ∙ sym (whole-add (numer a *ℤ pos c.m) ((place k *ℤ c.n k) *ℤ pos (denom a)) ∙ ap₂ ◌+ᵛ◌ (whole-mul (numer a) (pos c.m))
        (whole-mul (place k *ℤ c.n k) (pos (denom a)) ∙ ap (λ x. x *ᵛ whole (pos (denom a))) (whole-mul (place k) (c.n k) ∙ ap (λ x. x *ᵛ whole (c.n k)) (fraction_value-whole (place k)))));
  }
    where
      positive : (m n : ℕ) → 0 < m → 0 < n → 0 < m * n
      positive m n h k = grind arith

      joined : (a x e d m n r : Value 0) → a *ᵛ d ≡ n → e *ᵛ m ≡ r → (a +ᵛ x *ᵛ e) *ᵛ (d *ᵛ m) ≡ n *ᵛ m +ᵛ (x *ᵛ r) *ᵛ d
      joined a x e d m n r h j = by (ValueR 0) (a ∷ x ∷ e ∷ d ∷ m ∷ n ∷ r ∷ []) ((ValueR 0).add_cong (scale (ValueR 0) m h) (scale (ValueR 0) (x *ᵛ d) j)) (search reads depth 20 fits 4000) refl

  cleared : (q : List (Value 0)) → Cleared q
  cleared [] = record { m = 1; m_positive = omega arith; n = λ k. pos 0; is = λ k. ap (λ x. x *ᵛ whole (pos 1)) (sym fraction_value-zero) ∙ sym (whole-mul (pos 0) (pos 1)) }
  cleared (a ∷ q) = next_cleared a q (cleared q)

  -- ---- From some place on the whole numbers aren't 0

  record ApartFrom (n : ℕ → ℤ) : Type 0 where
    bound : ℕ
    apart : (k : ℕ) → bound ≤ k → ¬ (n k ≡ pos 0)

  whole_ne : (n : ℤ) → whole n ≡ zero_value → n ≡ pos 0
  whole_ne n e = zero_fraction_value n 1 (omega arith) e

  -- all zero: so are the values
  zero_n : (q : List (Value 0)) → (PolyR (ValueR 0)).◌≈◌ q [] → (c : Cleared q) → (k : ℕ) → c.n k ≡ pos 0
  zero_n q z c k = whole_ne (c.n k) (sym (c.is k) ∙ ap (λ x. x *ᵛ whole (pos c.m)) (eval_cong (ValueR 0) q [] (point k) (point k) z refl) ∙ ring (ValueR 0) (whole (pos c.m) ∷ []) (search reads depth 12) refl)

  numer_ne : (a : Value 0) → ¬ (a ≡ zero_value) → ¬ (numer a ≡ pos 0)
  numer_ne a h e = h (value_is_fraction a ∙ fraction_value_zero (numer a) (denom a) (denom_positive a) e)

  left_zero : (x p r d : ℤ) → x +ℤ (p *ℤ r) *ℤ d ≡ pos 0 → r ≡ pos 0 → x ≡ pos 0
  left_zero x p r d e z = by ℤR (x ∷ p ∷ r ∷ d ∷ []) (ℤR.add_cong e (scale ℤR (neg_ℤ (p *ℤ d)) z)) (search readsℤ depth 16) refl

  -- a product of natural numbers of at least 1 with a large one is large
  large : (p n d b : ℕ) → 0 < n → 0 < d → b < p → b < (p * n) * d
  large p n d b h k l = let e : p ≤ p * n = times p n h in let f : p * n ≤ (p * n) * d = times (p * n) d k in omega arith
    where
      times : (p n : ℕ) → 0 < n → p ≤ p * n
      times p n h = grind arith

  opposite : (x y : ℤ) → x +ℤ y ≡ pos 0 → unsigned_abs x ≡ unsigned_abs y
  opposite x y e = grind (arith, ints)

  abs_ne : (x : ℤ) → ¬ (x ≡ pos 0) → 0 < unsigned_abs x
  abs_ne x h = grind (arith, ints)

  far : (k : ℕ) (b : ℕ) → unsigned_abs k0 + suc b ≤ k → b < unsigned_abs (place k)
  far k b l = grind (arith, ints)

  apart_from : (q : List (Value 0)) → ¬ ((PolyR (ValueR 0)).◌≈◌ q []) → ApartFrom (cleared q).n
  unfolding cleared next_cleared
  apart_from [] h = absurd (h (PolyR (ValueR 0)).rfl)
  apart_from (a ∷ q) h = go (poly_zero (ValueR 0) (value_is_zero 0) q) (apart_from q)
    where
      c : Cleared q
      c = cleared q

      go : Dec ((PolyR (ValueR 0)).◌≈◌ q []) → (¬ ((PolyR (ValueR 0)).◌≈◌ q []) → ApartFrom (cleared q).n) → ApartFrom (next_n a q (cleared q))
      go (yes z) again = record { bound = 0; apart = λ k l e. small (numer a) c.m (place k) (c.n k) (denom a) c.m_positive (numer_ne a a_ne) (zero_n q z c k) e }
        where
          a_ne : ¬ (a ≡ zero_value)
          a_ne e = h ((PolyR (ValueR 0)).trans (cons_cong (ValueR 0) a zero_value q [] e z) (no_coefficient (ValueR 0)))

          vanish : (n m : ℤ) → n *ℤ m ≡ pos 0 → ¬ (n ≡ pos 0) → ¬ (m ≡ pos 0) → ⊥
          vanish n m e h k = product_ne ℤD h k e

          small : (n : ℤ) (m : ℕ) (p r : ℤ) (d : ℕ) → 0 < m → ¬ (n ≡ pos 0) → r ≡ pos 0 → n *ℤ pos m +ℤ (p *ℤ r) *ℤ pos d ≡ pos 0 → ⊥
          small n m p r d h k z e = vanish n (pos m) (left_zero (n *ℤ pos m) p r (pos d) e z) k (λ i. positive m h i)
            where
              positive : (m : ℕ) → 0 < m → pos m ≡ pos 0 → ⊥
              positive m h i = omega (arith, ints)
      go (no n) again = far_off (again n)
        where
          far_off : ApartFrom (cleared q).n → ApartFrom (next_n a q (cleared q))
          far_off r = record { bound = r.bound + (unsigned_abs k0 + suc (unsigned_abs (numer a *ℤ pos c.m))); apart = λ k l e. clash k (first r.bound (unsigned_abs k0 + suc (unsigned_abs (numer a *ℤ pos c.m))) k l) (second r.bound (unsigned_abs k0 + suc (unsigned_abs (numer a *ℤ pos c.m))) k l) e }
            where
              first : (m n k : ℕ) → m + n ≤ k → m ≤ k
              first m n k l = omega arith

              second : (m n k : ℕ) → m + n ≤ k → n ≤ k
              second m n k l = omega arith

              clash : (k : ℕ) → r.bound ≤ k → unsigned_abs k0 + suc (unsigned_abs (numer a *ℤ pos c.m)) ≤ k → next_n a q (cleared q) k ≡ pos 0 → ⊥
              clash k l j e =
                  let s : unsigned_abs (numer a *ℤ pos c.m) ≡ unsigned_abs ((place k *ℤ c.n k) *ℤ pos (denom a)) = opposite (numer a *ℤ pos c.m) ((place k *ℤ c.n k) *ℤ pos (denom a)) e in
                  let t : unsigned_abs ((place k *ℤ c.n k) *ℤ pos (denom a)) ≡ (unsigned_abs (place k) * unsigned_abs (c.n k)) * denom a =
                  unsigned_abs-mul (place k *ℤ c.n k) (pos (denom a)) ∙ ap (λ x. x * denom a) (unsigned_abs-mul (place k) (c.n k)) in
                  let u : unsigned_abs (numer a *ℤ pos c.m) < (unsigned_abs (place k) * unsigned_abs (c.n k)) * denom a =
                  large (unsigned_abs (place k)) (unsigned_abs (c.n k)) (denom a) (unsigned_abs (numer a *ℤ pos c.m)) (abs_ne (c.n k) (r.apart k l)) (denom_positive a) (far k (unsigned_abs (numer a *ℤ pos c.m)) j) in
                  not_less (unsigned_abs (numer a *ℤ pos c.m)) ((unsigned_abs (place k) * unsigned_abs (c.n k)) * denom a) (s ∙ t) u
                where
                  not_less : (x y : ℕ) → x ≡ y → x < y → ⊥
                  not_less x y e l = omega arith

  pub rational_bound : (q : List (Value 0)) → ¬ ((PolyR (ValueR 0)).◌≈◌ q []) → ApartPast (ValueR 0) point q
  rational_bound q h = let r = apart_from q h in record {
    bound = r.bound;
    apart = λ k l z. r.apart k l (whole_ne ((cleared q).n k) (sym ((cleared q).is k) ∙ ap (λ x. x *ᵛ whole (pos (cleared q).m)) z ∙ ring (ValueR 0) (whole (pos (cleared q).m) ∷ []) (search reads depth 12) refl));
  }
