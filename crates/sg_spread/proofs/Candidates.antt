-- The candidates for the shifts at which two polynomials meet.
--   probe_longer       the values of both lists are as many as their items
--   monic_ends         the degree of a monic polynomial without zeros at its end
--   some_values, other_values    the values are no zero polynomials
--   in_values          a number that is found wherever the values meet is found where the two aren't coprime
--   exact_values       without variables the values are the coefficients
--   coprime_divisors   divisors of both
--   candidate_root     where two monic polynomials aren't coprime, a polynomial made of the values of their coefficients is 0
use Rattle.std.proofs.Common.{◌≡◌, ℕ, zero, suc, ◌+◌, ◌-◌, ◌<◌, ◌≤◌, List, [], ◌∷◌, ℤ, ◌++◌, length, map, take, drop, refl, sym, ◌∙◌, ap, ap₂, subst, inl, inr, ◌↔◌, Contains, arith}
use Rattle.std.proofs.lemmas.List.{take_at, drop_at, take-map, drop-map}
use Rattle.sg_algebra.proofs.Divides.{Divides, dvd_on}
use Rattle.sg_algebra.proofs.PolynomialRing.{PolyR}
use Rattle.sg_algebra.proofs.Place.{Pairwise, HasValue}
use Rattle.sg_algebra.proofs.Coprime.{Coprime, coprime_dvd_both}
use Rattle.sg_algebra.proofs.Degree.{Monic}
use Rattle.sg_algebra.proofs.Polynomial.{PolynomialR, poly, zero_polynomial, same_poly, EndsNonzero}
use Rattle.sg_algebra.proofs.Rational.{whole_value}
use Rattle.sg_algebra.proofs.Shift.{moved, movedH}
use Rattle.sg_algebra.proofs.Value.{Value}
use Rattle.sg_algebra.proofs.ValueField.{ValueR, value_one_ne}
use Rattle.sg_num.specs.Probe.{IsProbe}
use Rattle.sg_num.specs.Value.{number}
use Rattle.sg_num.specs.declared.rat.Rat.{Rat}
use Rattle.sg_poly.specs.Divisors.{IsMonic}
use Rattle.sg_dispersion_theory.proofs.Probed.{ProbedPair, probed}
use Rattle.sg_dispersion_theory.proofs.ValueCertificate.{monic_length}
use Rattle.sg_dispersion_theory.proofs.Listed.{coprime_poly, poly_coprime, poly_dvd}
use Rattle.sg_num.specs.Roots.{IsRoot}
use Rattle.sg_spread.specs.Shifts.{Meets}
use Rattle.sg_spread.proofs.Apart.{meets_or_coprime}

pub monic_ends : {d : ℕ} (p : List (Value d)) → IsMonic p → EndsNonzero p → Monic (ValueR d) (length p - 1) p
monic_ends {d} p m e = let size = monic_length m.0 p m.1 e in subst (λ n. Monic (ValueR d) n p) (omega arith) m.1

module _ {E : Type 0} (d : ℕ) (val : E → Value d) (list : List E) (args : List ℤ) (values : List Rat) (a b : List (Value d)) (n : ℕ)
    (p : IsProbe d val list args values) (e : map val list ≡ a ++ b) (left : Monic (ValueR d) (length a - 1) a) (right : Monic (ValueR d) (length b - 1) b) (size : n ≡ length a) where
  pair : ProbedPair d val args values a b
  pair = probed {E = E} d val list args values a b p e left right

  pub probe_longer : 1 < length b → n + 1 < length values
  probe_longer l = omega (arith, pair.size, size)

  pub candidate_root : (r : List Rat)
      → (Monic (ValueR 0) (n - 1) (map number (take n values)) → Monic (ValueR 0) (length values - n - 1) (map number (drop n values)) → (m : ℤ)
      → ¬ Coprime (PolynomialR 0) (poly (map number (take n values))) (poly (moved (ValueR 0) (whole_value 0 m) (map number (drop n values)))) → IsRoot (map number r) m)
      → (m : ℤ) → ¬ Coprime (PolynomialR d) (poly a) (poly (moved (ValueR d) (whole_value d m) b)) → IsRoot (map number r) m
  candidate_root r roots m apart = roots
      (subst (λ k. Monic (ValueR 0) (k - 1) (map number (take k values))) (sym size) pair.left)
      (subst (λ k. Monic (ValueR 0) k (map number (drop n values))) less (subst (λ k. Monic (ValueR 0) (length b - 1) (map number (drop k values))) (sym size) pair.right)) m
      (λ c. apart (pair.coprime m (subst (λ k. Coprime (PolynomialR 0) (poly (map number (take k values))) (poly (moved (ValueR 0) (whole_value 0 m) (map number (drop k values))))) size c)))
    where
      less : length b - 1 ≡ length values - n - 1
      less = omega (arith, pair.size, size)

  nonzero : (k : ℕ) (q : List (Value 0)) → Monic (ValueR 0) k q → ¬ (poly q ≡ zero_polynomial)
  nonzero k q m z = value_one_ne 0 (sym m.top ∙ same_poly q [] z k)

  pub inside_values : n ≤ length values
  inside_values = omega (arith, pair.size, size)

  pub some_values : ¬ (poly (map number (take n values)) ≡ zero_polynomial)
  some_values = subst (λ k. ¬ (poly (map number (take k values)) ≡ zero_polynomial)) (sym size) (nonzero (length a - 1) (map number (take (length a) values)) pair.left)

  pub other_values : ¬ (poly (map number (drop n values)) ≡ zero_polynomial)
  other_values = subst (λ k. ¬ (poly (map number (drop k values)) ≡ zero_polynomial)) (sym size) (nonzero (length b - 1) (map number (drop (length a) values)) pair.right)

  module _ (all : List ℤ) (m : ℤ) (f : Contains all m ↔ Meets (map number (take n values)) (map number (drop n values)) m) where
    pub in_values : ¬ Coprime (PolynomialR d) (poly a) (poly (moved (ValueR d) (whole_value d m) b)) → Contains all m
    in_values apart = elim (meets_or_coprime (map number (take n values)) (map number (drop n values)) m some_values) [
      | inl k ↦ f.1 k
      | inr c ↦ absurd (apart (pair.coprime m (subst (λ k. Coprime (PolynomialR 0) (poly (map number (take k values))) (poly (moved (ValueR 0) (whole_value 0 m) (map number (drop k values))))) size c)))
    ]

-- ---- Without variables

same_values : {E : Type 0} (val : E → Value 0) (args : List ℤ) (list : List E) (values : List Rat) → Pairwise (λ x r. HasValue 0 (val x) args (number r)) list values → map number values ≡ map val list
same_values val args [] [] h = refl
same_values val args [] (r ∷ u) h = absurd h
same_values val args (x ∷ p) [] h = absurd h
same_values val args (x ∷ p) (r ∷ u) h = ap₂ ◌∷◌ h.0.1 (same_values val args p u h.1)

at_zero : {E : Type 0} (val : E → Value 0) (list : List E) (args : List ℤ) (values : List Rat) (a b : List (Value 0)) (n : ℕ)
    → Pairwise (λ x r. HasValue 0 (val x) args (number r)) list values → map val list ≡ a ++ b → n ≡ length a → (map number (take n values) ≡ a) × (map number (drop n values) ≡ b)
at_zero val list args values a b n h e s =
    let is : map number values ≡ a ++ b = same_values val args list values h ∙ e in
    (sym (take-map number n values) ∙ ap (take n) is ∙ take_at a b n (sym s), sym (drop-map number n values) ∙ ap (drop n) is ∙ drop_at a b n (sym s))

pub exact_values : {E : Type 0} (d : ℕ) (val : E → Value d) (list : List E) (args : List ℤ) (values : List Rat) (a b : List (Value d)) (n : ℕ) (m : ℤ)
    → IsProbe d val list args values → length args ≡ 0 → map val list ≡ a ++ b → n ≡ length a
    → Coprime (PolynomialR d) (poly a) (poly (moved (ValueR d) (whole_value d m) b)) → Coprime (PolynomialR 0) (poly (map number (take n values))) (poly (moved (ValueR 0) (whole_value 0 m) (map number (drop n values))))
exact_values zero val list args values a b n m p none e s c =
    let (left, right) = at_zero val list args values a b n p.each e s in
    rw (left, right) c
exact_values (suc d) val list args values a b n m p none e s c = absurd (let size : length args ≡ suc d = p.count in omega arith)

pub coprime_divisors : {d : ℕ} (a b a' b' : List (Value d)) (m : ℤ) → Divides (PolynomialR d) (poly a') (poly a) → Divides (PolynomialR d) (poly b') (poly b)
    → Coprime (PolynomialR d) (poly a) (poly (moved (ValueR d) (whole_value d m) b)) → Coprime (PolynomialR d) (poly a') (poly (moved (ValueR d) (whole_value d m) b'))
coprime_divisors {d} a b a' b' m h k c = coprime_poly a' (moved (ValueR d) (whole_value d m) b')
    (coprime_dvd_both (PolyR (ValueR d)) a (moved (ValueR d) (whole_value d m) b) a' (moved (ValueR d) (whole_value d m) b') (poly_dvd a' a h)
    (dvd_on (PolyR (ValueR d)) (PolyR (ValueR d)) (movedH (ValueR d) (whole_value d m)) b' b (poly_dvd b' b k)) (poly_coprime a (moved (ValueR d) (whole_value d m) b) c))
