-- What is done with a share over w, from where w meets itself and others.
--   not_meeting           where w and v don't meet at m, w is coprime to v at k + m
--   own_cut               w meets itself at a greatest positive shift: it is cut
--   other_cut, other_joint    w meets v at m, and is cut, or all of it divides a power of v at k - m
--   is_free               w meets itself nowhere at a positive shift, and no other one
use Rattle.std.proofs.Common.{◌≡◌, Option, Some, None, IfNone, ℕ, zero, suc, ◌-◌, ◌≤◌, ◌<◌, refl, sym, ◌∙◌, ap, subst, List, [], ◌∷◌, ◌⊎◌, inl, inr, length, map, get_or, ℤ, pos, negsuc, neg_ℤ, ◌≤ℤ◌, ◌<ℤ◌, AllPairs, Contains, arith}
use Rattle.std.proofs.lemmas.Int.{ints}
use Rattle.std.proofs.lemmas.List.{get_or_default}
use Rattle.std.proofs.lemmas.List.Elements.{Contains-get_or}
use Rattle.sg_algebra.specs.Coefficients.{Each}
use Rattle.sg_algebra.proofs.Ring.{pow}
use Rattle.sg_algebra.proofs.Rows.{at_past}
use Rattle.sg_algebra.proofs.Solver.{ring, reads}
use Rattle.sg_algebra.proofs.Divides.{Divides, dvd_refl, dvd_same, dvd_trans, dvd_on, iter}
use Rattle.sg_algebra.proofs.Coprime.{Coprime, coprime_symm, coprime_dvd_both, coprime-pow}
use Rattle.sg_algebra.proofs.Euclid.{Bezout, bezout_dvd, coprime_of_unit}
use Rattle.sg_algebra.proofs.Degree.{Degree}
use Rattle.sg_algebra.proofs.Shift.{moved}
use Rattle.sg_algebra.proofs.Value.{Value, zero_value, one_value, inv_value}
use Rattle.sg_algebra.proofs.ValueField.{ValueR, ValueD, value_is_zero, value_mul-inv}
use Rattle.sg_algebra.proofs.Rational.{whole_value}
use Rattle.sg_algebra.proofs.Polynomial.{Polynomial, PolynomialR, poly, poly_same, same_list, coefficient, constant, EndsNonzero, zero_polynomial, one_polynomial, ◌*ᵖ◌}
use Rattle.sg_dispersion_theory.proofs.Listed.{list_of, poly-list_of, poly_degree}
use Rattle.sg_poly.specs.Divisors.{IsMonic, IsGcd}
use Rattle.sg_poly.proofs.Dividers.{constants}
use Rattle.sg_poly.proofs.Exact.{degree_of_ends}
use Rattle.sg_spread.specs.Shifts.{Meets}
use Rattle.sg_spread.proofs.Meeting.{constant_divisor}
use Rattle.sg_first_order_theory.proofs.Next.{nextH, bezout_polynomial, moved_polynomial, moved_polynomial-poly}
use Rattle.sg_reduction_theory.proofs.Apart.{Apart}
use Rattle.sg_reduction_theory.proofs.Answer.{bottoms}
use Rattle.sg_reduction_theory.proofs.Images.{moved_undone, moved_polynomialH}
use Rattle.sg_reduction_theory.proofs.Everywhere.{apart_everywhere, free_later, forward_is}
use Rattle.sg_reduction_theory.proofs.Settling.{IsPart, left_part, right_part, both_parts, radical_on}
use Rattle.sg_constant.specs.Shares.{size, shares, lower_at, HasLowers, IsCut, IsFree, IsJoint, IsMeeting, IsGreatest}
use Rattle.sg_constant.specs.declared.shares.Share.{Share as Given}
use Rattle.sg_constant.proofs.Taken.{size_less, long_of, short_of}

natural : (m : ℤ) → pos 0 <ℤ m → (h : ℕ) × ((m ≡ pos h) × (0 < h))
natural (pos h) l = (h, (refl, omega (arith, ints, l)))
natural (negsuc h) l = absurd (omega (arith, ints, l))

module _ {d : ℕ} where
  -- ---- Constants

  constant_or : (x : Polynomial d) → ¬ (x ≡ zero_polynomial) → ((c : Value d) × ((x ≡ constant c) × (¬ (c ≡ zero_value)))) ⊎ ((c : Value d) → ¬ (x ≡ constant c))
  constant_or x ne = at (poly_degree (list_of x) (λ z. ne (sym (poly-list_of x) ∙ z)))
    where
      p : List (Value d)
      p = list_of x

      at : (n : ℕ) × Degree (ValueR d) n p → ((c : Value d) × ((x ≡ constant c) × (¬ (c ≡ zero_value)))) ⊎ ((c : Value d) → ¬ (x ≡ constant c))
      at n = by_degree n.0 n.1
        where
          by_degree : (n : ℕ) → Degree (ValueR d) n p → ((c : Value d) × ((x ≡ constant c) × (¬ (c ≡ zero_value)))) ⊎ ((c : Value d) → ¬ (x ≡ constant c))
          by_degree zero g = inl (coefficient p 0, (sym (poly-list_of x) ∙ poly_same p (coefficient p 0 ∷ []) (λ i. low i), g.lead))
            where
              low : (i : ℕ) → coefficient p i ≡ coefficient (coefficient p 0 ∷ []) i
              low zero = refl
              low (suc i) = g.ends (suc i) (omega arith)
          by_degree (suc n) g = inr (λ c e. g.lead ((same_list p (c ∷ []) (poly-list_of x ∙ e)).image.at (suc n)))

  pub constant_none : (c : Value d) → c ≡ zero_value → constant c ≡ zero_polynomial
  constant_none c e = poly_same (c ∷ []) [] (λ i. at i)
    where
      at : (i : ℕ) → coefficient (c ∷ []) i ≡ coefficient [] i
      at zero = e
      at (suc i) = refl

  unit_of : (c : Value d) → ¬ (c ≡ zero_value) → Divides (PolynomialR d) (constant c) one_polynomial
  unit_of c ne = record { cofactor = constant (inv_value c); is = sym (constants c (inv_value c) (value_mul-inv d c ne)) }

  pub not_meeting : (a b : List (Value d)) (m : ℤ) → ¬ (poly a ≡ zero_polynomial) → ¬ Meets a b m → Coprime (PolynomialR d) (poly a) (moved_polynomial m (poly b))
  not_meeting a b m some apart = at (constant_or g.g g_some)
    where
      y : Polynomial d
      y = moved_polynomial m (poly b)

      g : Bezout (PolynomialR d) (poly a) y
      g = bezout_polynomial (poly a) y

      both : Divides (PolynomialR d) g.g (poly a) × Divides (PolynomialR d) g.g y
      both = bezout_dvd (PolynomialR d) (poly a) y g

      g_some : ¬ (g.g ≡ zero_polynomial)
      g_some z = some (both.0.is ∙ ap (λ q. q *ᵖ both.0.cofactor) z ∙ ring (PolynomialR d) (both.0.cofactor ∷ []) (search reads depth 12) refl)

      at : ((c : Value d) × ((g.g ≡ constant c) × (¬ (c ≡ zero_value)))) ⊎ ((c : Value d) → ¬ (g.g ≡ constant c)) → Coprime (PolynomialR d) (poly a) y
      at (inl k) = coprime_of_unit (PolynomialR d) (poly a) y g (dvd_same (PolynomialR d) (constant k.0) one_polynomial g.g one_polynomial (sym k.1.0) refl (unit_of k.0 k.1.1))
      at (inr k) = absurd (apart (record { common = g.g; left = both.0; right = dvd_same (PolynomialR d) g.g y g.g (poly (moved (ValueR d) (whole_value d m) b)) refl (moved_polynomial-poly m b) both.1; positive = k }))

  -- a unit is a constant
  unit_is : (x : Polynomial d) → Divides (PolynomialR d) x one_polynomial → (c : Value d) × (x ≡ constant c)
  unit_is x h = constant_divisor x one_value (Rattle.sg_algebra.proofs.ValueField.value_one_ne d) h

  -- what is common where two meet is no unit
  common_no_unit : (a b : List (Value d)) (m : ℤ) (e : Polynomial d) → Meets a b m → IsGcd e (poly a) (moved_polynomial m (poly b)) → Divides (PolynomialR d) e one_polynomial → ⊥
  common_no_unit a b m e k g u =
      let c = unit_is k.common (dvd_trans (PolynomialR d) k.common e one_polynomial (g.greatest k.common k.left
      (dvd_same (PolynomialR d) k.common (poly (moved (ValueR d) (whole_value d m) b)) k.common (moved_polynomial m (poly b)) refl (sym (moved_polynomial-poly m b)) k.right)) u) in
      k.positive c.0 c.1

  -- ---- Both parts are smaller

  pub part_some : (w u v : Polynomial d) → w ≡ u *ᵖ v → ¬ (w ≡ zero_polynomial) → (¬ (u ≡ zero_polynomial)) × (¬ (v ≡ zero_polynomial))
  part_some w u v e h = (
    λ z. h (e ∙ ap (λ q. q *ᵖ v) z ∙ ring (PolynomialR d) (v ∷ []) (search reads depth 12) refl),
    λ z. h (e ∙ ap (λ q. u *ᵖ q) z ∙ ring (PolynomialR d) (u ∷ []) (search reads depth 12) refl),
  )

  -- a factor of a product is smaller where the other one is no unit
  pub smaller : (w u v : List (Value d)) → poly w ≡ poly u *ᵖ poly v → ¬ (poly w ≡ zero_polynomial) → (Divides (PolynomialR d) (poly v) one_polynomial → ⊥) → size u < size w
  smaller w u v e h never = at (poly_degree v both.1)
    where
      both : (¬ (poly u ≡ zero_polynomial)) × (¬ (poly v ≡ zero_polynomial))
      both = part_some (poly w) (poly u) (poly v) e h

      at : (n : ℕ) × Degree (ValueR d) n v → size u < size w
      at n = by_degree n.0 n.1
        where
          by_degree : (n : ℕ) → Degree (ValueR d) n v → size u < size w
          by_degree zero g = absurd (never (dvd_same (PolynomialR d) (constant (coefficient v 0)) one_polynomial (poly v) one_polynomial (sym (poly_same v (coefficient v 0 ∷ []) (λ i. low i))) refl (unit_of (coefficient v 0) g.lead)))
            where
              low : (i : ℕ) → coefficient v i ≡ coefficient (coefficient v 0 ∷ []) i
              low zero = refl
              low (suc i) = g.ends (suc i) (omega arith)
          by_degree (suc n) g = size_less (suc n) w u v e both.0 g (omega arith)

  -- ---- Where a denominator is cut

  pub parts_apart : (w u r e : Polynomial d) → IsPart (PolynomialR d) (nextH d) w u r e → Coprime (PolynomialR d) u r
  parts_apart w u r e p = coprime_symm (PolynomialR d) r u (coprime_dvd_both (PolynomialR d) r (pow (PolynomialR d) e p.n) r u (dvd_refl (PolynomialR d) r) p.radical (coprime-pow (PolynomialR d) r e p.n p.rest))

  swapped : (w u r : Polynomial d) → w ≡ u *ᵖ r → w ≡ r *ᵖ u
  swapped w u r e = e ∙ (PolynomialR d).mul_comm {x = u} {y = r}

module _ {K : Type 0} {d : ℕ} (v : K → Value d) where
  pub own_cut : (w u r : List K) (shifts : List ℤ) (m : ℤ) → ¬ (poly (map v w) ≡ zero_polynomial) → ((k : ℤ) → Meets (map v w) (map v w) k → Contains shifts k) → Meets (map v w) (map v w) m → IsGreatest shifts m
      → IsMeeting (poly (map v w)) (moved_polynomial m (poly (map v w))) (poly (map v u)) (poly (map v r)) → IsMonic (map v u) → IsCut v w u r
  own_cut w u r shifts m some all meets g k monic = at (natural m g.positive)
    where
      x : Polynomial d
      x = poly (map v w)

      at : (h : ℕ) × ((m ≡ pos h) × (0 < h)) → IsCut v w u r
      at h = record {
        is = k.part.is;
        monic = monic;
        apart = parts_apart x (poly (map v u)) (poly (map v r)) k.e k.part;
        left = smaller (map v w) (map v u) (map v r) k.part.is some
            (λ unit. never (both_parts (PolynomialR d) (nextH d) x (poly (map v u)) (poly (map v r)) k.e h.0 far h.1.1 k.common.left later k.part unit));
        right = smaller (map v w) (map v r) (map v u) (swapped x (poly (map v u)) (poly (map v r)) k.part.is) some
            (λ unit. never (left_part (PolynomialR d) (nextH d) x (poly (map v u)) (poly (map v r)) k.e k.part k.common.left unit));
      }
        where
          never : Divides (PolynomialR d) k.e one_polynomial → ⊥
          never = common_no_unit (map v w) (map v w) m k.e meets k.common

          later : Divides (PolynomialR d) k.e (iter (PolynomialR d) (nextH d) h.0 x)
          later = dvd_same (PolynomialR d) k.e (moved_polynomial m x) k.e (iter (PolynomialR d) (nextH d) h.0 x) refl (ap (λ (i : ℤ). moved_polynomial i x) h.1.0 ∙ forward_is h.0 x) k.common.right

          far : (n : ℕ) → h.0 < n → Coprime (PolynomialR d) x (iter (PolynomialR d) (nextH d) n x)
          far n l = subst (λ y. Coprime (PolynomialR d) x y) (forward_is n x) (not_meeting (map v w) (map v w) (pos n) some (λ z. beyond n l (subst (λ (i : ℤ). pos n ≤ℤ i) h.1.0 (g.largest (pos n) (all (pos n) z)))))
            where
              beyond : (n : ℕ) → h.0 < n → pos n ≤ℤ pos h.0 → ⊥
              beyond n l q = omega (arith, ints, l, q)

  pub other_cut : (w p u r l : List K) (m : ℤ) → ¬ (poly (map v w) ≡ zero_polynomial) → Meets (map v w) (map v p) m → IsMeeting (poly (map v w)) (moved_polynomial m (poly (map v p))) (poly (map v u)) (poly (map v r)) → IsMonic (map v u)
      → EndsNonzero (map v r) → l ≡ r → 1 < length l → IsCut v w u r
  other_cut w p u r l m some meets k monic ends e long = record {
    is = k.part.is;
    monic = monic;
    apart = parts_apart (poly (map v w)) (poly (map v u)) (poly (map v r)) k.e k.part;
    left = size_less (length (map v r) - 1) (map v w) (map v u) (map v r) k.part.is (part_some (poly (map v w)) (poly (map v u)) (poly (map v r)) k.part.is some).0
        (degree_of_ends (map v r) ends (longer (length (map v r)) wide)) (positive (length (map v r)) wide);
    right = smaller (map v w) (map v r) (map v u) (swapped (poly (map v w)) (poly (map v u)) (poly (map v r)) k.part.is) some
        (λ unit. common_no_unit (map v w) (map v p) m k.e meets k.common (left_part (PolynomialR d) (nextH d) (poly (map v w)) (poly (map v u)) (poly (map v r)) k.e k.part k.common.left unit));
  }
    where
      wide : 1 < length (map v r)
      wide = long_of v r l e long

      longer : (n : ℕ) → 1 < n → 0 < n
      longer n h = omega (arith, h)

      positive : (n : ℕ) → 1 < n → 0 < n - 1
      positive n h = omega (arith, h)

  pub other_joint : (w p u r l : List K) (m : ℤ) → ¬ (poly (map v w) ≡ zero_polynomial) → IsMeeting (poly (map v w)) (moved_polynomial m (poly (map v p))) (poly (map v u)) (poly (map v r)) → l ≡ r → length l ≤ 1 → IsJoint (poly (map v w)) (poly (map v p)) m
  other_joint w p u r l m some k e short = record {
    n = k.part.n;
    is = radical_on (PolynomialR d) (PolynomialR d) (moved_polynomialH (neg_ℤ m)) (poly (map v w)) k.e (poly (map v p)) k.part.n (right_part (PolynomialR d) (nextH d) (poly (map v w)) (poly (map v u)) (poly (map v r)) k.e k.part unit) back;
  }
    where
      back : Divides (PolynomialR d) (moved_polynomial (neg_ℤ m) k.e) (poly (map v p))
      back = dvd_same (PolynomialR d) (moved_polynomial (neg_ℤ m) k.e) (moved_polynomial (neg_ℤ m) (moved_polynomial m (poly (map v p)))) (moved_polynomial (neg_ℤ m) k.e) (poly (map v p)) refl (moved_undone m (poly (map v p)))
          (dvd_on (PolynomialR d) (PolynomialR d) (moved_polynomialH (neg_ℤ m)) k.e (moved_polynomial m (poly (map v p))) k.common.right)

      c : Value d
      c = coefficient (map v r) 0

      is_constant : poly (map v r) ≡ constant c
      is_constant = poly_same (map v r) (c ∷ []) (λ i. at i)
        where
          at : (i : ℕ) → coefficient (map v r) i ≡ coefficient (c ∷ []) i
          at zero = refl
          at (suc i) = at_past (map v r) (suc i) (low (length (map v r)) i (short_of v r l e short))
            where
              low : (n i : ℕ) → n ≤ 1 → n ≤ suc i
              low n i h = omega (arith, h)

      c_some : ¬ (c ≡ zero_value)
      c_some z = (part_some (poly (map v w)) (poly (map v u)) (poly (map v r)) k.part.is some).1 (is_constant ∙ constant_none c z)

      unit : Divides (PolynomialR d) (poly (map v r)) one_polynomial
      unit = dvd_same (PolynomialR d) (constant c) one_polynomial (poly (map v r)) one_polynomial (sym is_constant) refl (unit_of c c_some)

  pub is_free : (w : List K) (shifts : List ℤ) (list : List (Given K)) → ¬ (poly (map v w) ≡ zero_polynomial) → ((k : ℤ) → Meets (map v w) (map v w) k → Contains shifts k) → ((k : ℤ) → Contains shifts k → k ≤ℤ pos 0)
      → Each (λ t. (m : ℤ) → ¬ Meets (map v w) (map v t.lower) m) list → IsFree (poly (map v w)) (shares v list)
  is_free w shifts list some all low h = record {
    own = free_later (poly (map v w)) (λ m. not_meeting (map v w) (map v w) (pos (suc m)) some (λ z. beyond m (low (pos (suc m)) (all (pos (suc m)) z))));
    others = go list h;
  }
    where
      beyond : (m : ℕ) → pos (suc m) ≤ℤ pos 0 → ⊥
      beyond m q = omega (arith, ints, q)

      go : (list : List (Given K)) → Each (λ t. (m : ℤ) → ¬ Meets (map v w) (map v t.lower) m) list → Each (Apart (PolynomialR d) (nextH d) (poly (map v w))) (bottoms (shares v list))
      go [] h = tt
      go (t ∷ list) h = (apart_everywhere (poly (map v w)) (poly (map v t.lower)) (λ m. not_meeting (map v w) (map v t.lower) m some (h.0 m)), go list h.1)

-- ---- Ascending numbers

pub last_largest : (all : List ℤ) (i : ℕ) (m : ℤ) → AllPairs ◌<ℤ◌ all → length all ≡ suc i → m ≡ get_or all i m → (k : ℤ) → Contains all k → k ≤ℤ m
last_largest all i m up size is k h =
    let (j, inside, at) = h in
    let last : i < length all = omega (arith, size) in
    let top : get_or all i k ≡ m = get_or_default all i k m last ∙ sym is in
    elim (side j i (omega (arith, size, inside))) [
      | inl l ↦ below k m (rw (at, top) at (up j i k l last))
      | inr e ↦ same k m (sym at ∙ ap (λ (n : ℕ). get_or all n k) e ∙ top)
    ]
  where
    side : (j i : ℕ) → j < suc i → (j < i) ⊎ (j ≡ i)
    side j i l = grind arith

    below : (k m : ℤ) → k <ℤ m → k ≤ℤ m
    below k m l = omega (arith, ints, l)

    same : (k m : ℤ) → k ≡ m → k ≤ℤ m
    same k m e = omega (arith, ints, e)

pub last_inside : (all : List ℤ) (i : ℕ) (m : ℤ) → i < length all → m ≡ get_or all i m → Contains all m
last_inside all i m l is = subst (λ (x : ℤ). Contains all x) (sym is) (Contains-get_or all i m l)

pub not_positive : (m : ℤ) → m ≤ℤ pos 0 → (k : ℤ) → k ≤ℤ m → k ≤ℤ pos 0
not_positive m h k l = omega (arith, ints, h, l)

pub nothing_inside : (k : ℤ) → Contains [] k → ⊥
nothing_inside k h = let inside = h.1 in omega arith

pub is_greatest : (all : List ℤ) (i : ℕ) (m : ℤ) → AllPairs ◌<ℤ◌ all → length all ≡ suc i → m ≡ get_or all i m → pos 0 <ℤ m → IsGreatest all m
is_greatest all i m up size is p = record { positive = p; inside = last_inside all i m (omega (arith, size)) is; largest = last_largest all i m up size is }

pub none_greatest : (all : List ℤ) (i : ℕ) (m : ℤ) → AllPairs ◌<ℤ◌ all → length all ≡ suc i → m ≡ get_or all i m → m ≤ℤ pos 0 → (k : ℤ) → Contains all k → k ≤ℤ pos 0
none_greatest all i m up size is p k h = not_positive m p k (last_largest all i m up size is k h)

pub length_nothing : (all : List ℤ) → length all ≡ 0 → all ≡ []
length_nothing [] h = refl
length_nothing (x ∷ all) h = absurd (omega (arith, h))

module _ {K : Type 0} {d : ℕ} (v : K → Value d) where
  pub lowers_at : (list : List (Given K)) (i : ℕ) (u : Given K) → i < length list → HasLowers (shares v list) → ¬ (poly (map v (get_or list i u).lower) ≡ zero_polynomial)
  lowers_at [] i u l h = absurd (omega arith)
  lowers_at (t ∷ list) zero u l h = h.0
  lowers_at (t ∷ list) (suc i) u l h = lowers_at list i u (omega arith) h.1

pub lower_get : {K : Type 0} (list : List (Given K)) (i : ℕ) (u : Given K) → i < length list → lower_at list i ≡ (get_or list i u).lower
lower_get [] i u l = absurd (omega arith)
lower_get (t ∷ list) zero u l = refl
lower_get (t ∷ list) (suc i) u l = lower_get list i u (omega arith)

module _ {K : Type 0} {d : ℕ} (v : K → Value d) where
  pub plan_free : {A B : Type 0} (w : List K) (shifts : List ℤ) (list : List (Given K)) (cut : Option A) (at : Option B) → ¬ (poly (map v w) ≡ zero_polynomial) → ((k : ℤ) → Meets (map v w) (map v w) k → Contains shifts k) → ((k : ℤ) → Contains shifts k → k ≤ℤ pos 0)
      → IfNone cut (IfNone at (Each (λ t. (m : ℤ) → ¬ Meets (map v w) (map v t.lower) m) list)) → IfNone cut (IfNone at (IsFree (poly (map v w)) (shares v list)))
  plan_free w shifts list None None some all low h = is_free v w shifts list some all low h
  plan_free w shifts list None (Some b) some all low h = tt
  plan_free w shifts list (Some a) at some all low h = tt
