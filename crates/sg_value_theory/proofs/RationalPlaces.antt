-- The values of rational functions of k at k0, k0 + 1, .., over the constants of any depth.
--   point d k0 k       k0 + k as a value
--   root_free          past some place a polynomial that isn't zero has no root there
--   rational_places    so the values are places
--   variable d         the rational function k; `variable_at`
use Rattle.std.proofs.Common.{◌≡◌, ℕ, zero, suc, ◌≤◌, refl, subst, List, [], ◌∷◌, ℤ, pos, negsuc, ◌+ℤ◌, arith}
use Rattle.std.proofs.lemmas.Int.{ints}
use Rattle.sg_algebra.specs.Coefficients.{eval}
use Rattle.sg_algebra.proofs.Ring.{nat}
use Rattle.sg_algebra.proofs.Solver.{ring, reads}
use Rattle.sg_algebra.proofs.PolynomialRing.{PolyR}
use Rattle.sg_algebra.proofs.Value.{Value, ◌/ᵛ◌, zero_value, one_value, over_value}
use Rattle.sg_algebra.proofs.ValueField.{ValueR, ValueF, ValueD}
use Rattle.sg_algebra.proofs.Embedding.{numeral_ne}
use Rattle.sg_algebra.proofs.Rational.{whole_value}
use Rattle.sg_tower_theory.proofs.Lawful.{Lawful, lawful_field}
use Rattle.sg_tower_theory.proofs.ShiftValue.{shift_value, shift_valueH}
use Rattle.sg_value_theory.proofs.Elements.{IsQuotientAt}
use Rattle.sg_value_theory.proofs.Quotients.{quotients, quotient-polynomial}
use Rattle.sg_value_theory.proofs.NextPlace.{quotient-moves}
use Rattle.sg_value_theory.proofs.Places.{Places}
use Rattle.sg_value_theory.proofs.Parts.{Parts, parts_of}
use Rattle.sg_value_theory.proofs.Bound.{ApartPast, rational_bound}
use Rattle.sg_value_theory.proofs.RootFree.{bound_up}

abbrev pub point : (d : ℕ) → ℤ → ℕ → Value d
point d k0 k = whole_value d (k0 +ℤ pos k)

module _ (d : ℕ) where
  -- whole numbers have themselves as values
  pub nat_at : (k : ℤ) (n : ℕ) → IsQuotientAt {d = d} k (nat (ValueR (suc d)) n) (nat (ValueR d) n)
  nat_at k zero = (quotients d k).zero_has
  nat_at k (suc n) = (quotients d k).add_has (nat (ValueR (suc d)) n) one_value (nat (ValueR d) n) one_value (nat_at k n) (quotients d k).one_has

  pub whole_at : (k c : ℤ) → IsQuotientAt {d = d} k (whole_value (suc d) c) (whole_value d c)
  whole_at k (pos n) = nat_at k n
  whole_at k (negsuc n) = (quotients d k).neg_has (nat (ValueR (suc d)) (suc n)) (nat (ValueR d) (suc n)) (nat_at k (suc n))

  pub char : (n : ℕ) → ¬ (nat (ValueR (suc d)) (suc n) ≡ zero_value)
  char n = numeral_ne (suc d) (suc n) (omega arith)

  pub lawful_rational : Lawful (ValueD (suc d)) (shift_valueH d)
  lawful_rational = lawful_field (ValueF (suc d)) (shift_valueH d) char

  -- k itself
  abbrev pub variable : Value (suc d)
  variable = over_value (zero_value ∷ one_value ∷ []) (one_value ∷ [])

  pub variable_at : (k : ℤ) → IsQuotientAt {d = d} k variable (whole_value d k)
  variable_at k = subst (IsQuotientAt k variable) (ring (ValueR d) (whole_value d k ∷ []) (search reads depth 20) refl) (quotient-polynomial k (zero_value ∷ one_value ∷ []))

  module _ (free : (k0 : ℤ) (q : List (Value d)) → ¬ ((PolyR (ValueR d)).◌≈◌ q []) → ApartPast (ValueR d) (point d k0) q) (k0 : ℤ) where
    pub past_root : (x : Value (suc d)) (r : Parts d x) (k : ℕ) → (free k0 r.q r.q_ne).bound ≤ k → (v : Value d) × IsQuotientAt (k0 +ℤ pos k) x v
    past_root x r k l = (eval (ValueR d) r.p (point d k0 k) /ᵛ eval (ValueR d) r.q (point d k0 k), record { upper = r.p; lower = r.q; quotient = r.is; defined = (free k0 r.q r.q_ne).apart k l; value = refl })

    next : (k : ℕ) → k0 +ℤ pos (suc k) ≡ (k0 +ℤ pos k) +ℤ pos 1
    next k = omega (arith, ints)

    pub has_same : (x y : Value (suc d)) (k : ℕ) (u v : Value d) → x ≡ y → u ≡ v → IsQuotientAt (k0 +ℤ pos k) x u → IsQuotientAt (k0 +ℤ pos k) y v
    has_same x y k u v e f h = subst (IsQuotientAt (k0 +ℤ pos k) y) f ((quotients d (k0 +ℤ pos k)).same x y u e h)

    pub has_shift : (x : Value (suc d)) (k : ℕ) (u : Value d) → IsQuotientAt (k0 +ℤ pos (suc k)) x u → IsQuotientAt (k0 +ℤ pos k) (shift_value d x) u
    has_shift x k u h = quotient-moves (k0 +ℤ pos k) x u (subst (λ (z : ℤ). IsQuotientAt z x u) (next k) h)

    abbrev pub places_of : Places (ValueR (suc d)) (ValueR d) (shift_valueH d)
    places_of = record {
      Has = λ x k v. IsQuotientAt (k0 +ℤ pos k) x v;
      has_same = has_same;
      has_unique = λ x k u v. (quotients d (k0 +ℤ pos k)).unique x u v;
      has_zero = λ k. (quotients d (k0 +ℤ pos k)).zero_has;
      has_one = λ k. (quotients d (k0 +ℤ pos k)).one_has;
      has_add = λ x y k u v. (quotients d (k0 +ℤ pos k)).add_has x y u v;
      has_mul = λ x y k u v. (quotients d (k0 +ℤ pos k)).mul_has x y u v;
      has_neg = λ x k u. (quotients d (k0 +ℤ pos k)).neg_has x u;
      has_shift = has_shift;
      from = λ x. (free k0 (parts_of d x).q (parts_of d x).q_ne).bound;
      has_past = λ x. past_root x (parts_of d x);
    }

-- from one depth to the next by the values at one argument
pub root_free : (d : ℕ) (k0 : ℤ) (q : List (Value d)) → ¬ ((PolyR (ValueR d)).◌≈◌ q []) → ApartPast (ValueR d) (point d k0) q
root_free zero k0 q h = rational_bound k0 q h
root_free (suc d) k0 q h = bound_up (ValueD (suc d)) (ValueD d) (shift_valueH d) (places_of d (root_free d) (pos 0)) (lawful_rational d) (point (suc d) k0) (point d k0)
    (λ k n. whole_at d (pos 0 +ℤ pos n) (k0 +ℤ pos k)) (root_free d k0) q h

abbrev pub rational_places : (d : ℕ) → ℤ → Places (ValueR (suc d)) (ValueR d) (shift_valueH d)
rational_places d k0 = places_of d (root_free d) k0
