-- What one probe of the coefficients of two monic polynomials in a row answers.
--   ProbedPair    for the polynomials a and b: there are as many values as coefficients; the first length a of them are a monic polynomial of a's degree,
--                 the others one of b's; where the first is coprime to the second moved by a whole number m, a is coprime to b moved by m
--   probed        a probe of elements that stand for the coefficients of a and b answers that
use Rattle.std.proofs.Common.{◌≡◌, ℕ, suc, ◌+◌, ◌-◌, refl, sym, ◌∙◌, ap, subst, List, [], ◌∷◌, ◌++◌, map, take, drop, length, ℤ}
use Rattle.std.proofs.lemmas.List.{length-append}
use Rattle.sg_algebra.proofs.Coprime.{Coprime}
use Rattle.sg_algebra.proofs.Degree.{Monic}
use Rattle.sg_algebra.proofs.Shift.{moved}
use Rattle.sg_algebra.proofs.Value.{Value}
use Rattle.sg_algebra.proofs.ValueField.{ValueR, value_one_ne}
use Rattle.sg_algebra.proofs.Rational.{whole_value}
use Rattle.sg_algebra.proofs.Polynomial.{PolynomialR, poly}
use Rattle.sg_algebra.proofs.Place.{Pairwise, HasValue}
use Rattle.sg_algebra.proofs.Places.{pairwise_left, pairwise_right}
use Rattle.sg_num.specs.Probe.{IsProbe}
use Rattle.sg_num.specs.Value.{number}
use Rattle.sg_num.specs.declared.rat.Rat.{Rat}
use Rattle.sg_dispersion_theory.proofs.Embedded.{Valued, monic_values}
use Rattle.sg_dispersion_theory.proofs.Specialised.{specialised_poly}

module _ {E : Type 0} (d : ℕ) (val : E → Value d) where
  -- what a probe of the coefficients of two monic polynomials in a row answers
  pub record ProbedPair (args : List ℤ) (values : List Rat) (a b : List (Value d)) : Type 0 where
    pub size : length values ≡ length a + length b
    pub left : Monic (ValueR 0) (length a - 1) (map number (take (length a) values))
    pub right : Monic (ValueR 0) (length b - 1) (map number (drop (length a) values))
    pub coprime : (m : ℤ) → Coprime (PolynomialR 0) (poly (map number (take (length a) values))) (poly (moved (ValueR 0) (whole_value 0 m) (map number (drop (length a) values))))
        → Coprime (PolynomialR d) (poly a) (poly (moved (ValueR d) (whole_value d m) b))

  module _ (args : List ℤ) where
    abbrev Has : Value d → Value 0 → Type 0
    Has x v = HasValue d x args v

    abbrev HasRat : Value d → Rat → Type 0
    HasRat x r = HasValue d x args (number r)

    of_elements : (list : List E) (values : List Rat) → Pairwise (λ x r. HasValue d (val x) args (number r)) list values → Pairwise HasRat (map val list) values
    of_elements [] [] h = tt
    of_elements [] (r ∷ u) h = absurd h
    of_elements (x ∷ p) [] h = absurd h
    of_elements (x ∷ p) (r ∷ u) h = (h.0, of_elements p u h.1)

    numbers : (p : List (Value d)) (u : List Rat) → Pairwise HasRat p u → Pairwise Has p (map number u)
    numbers [] [] h = tt
    numbers [] (r ∷ u) h = absurd h
    numbers (x ∷ p) [] h = absurd h
    numbers (x ∷ p) (r ∷ u) h = (h.0, numbers p u h.1)

    as_many : (p : List (Value d)) (u : List Rat) → Pairwise HasRat p u → length u ≡ length p
    as_many [] [] h = refl
    as_many [] (r ∷ u) h = absurd h
    as_many (x ∷ p) [] h = absurd h
    as_many (x ∷ p) (r ∷ u) h = ap suc (as_many p u h.1)

    -- a monic polynomial has a coefficient
    valued_of : (n : ℕ) (p : List (Value d)) (u : List (Value 0)) → Pairwise Has p u → Monic (ValueR d) n p → Valued d args
    valued_of n [] u h m = absurd (value_one_ne d (sym m.top))
    valued_of n (x ∷ p) [] h m = absurd h
    valued_of n (x ∷ p) (v ∷ u) h m = record { item = x; value = v; has = h.0 }

    monic_of : (n : ℕ) (p : List (Value d)) (u : List (Value 0)) → Pairwise Has p u → Monic (ValueR d) n p → Monic (ValueR 0) n u
    monic_of n p u h m = monic_values d args (valued_of n p u h m) n p u h m

    of_row : (values : List Rat) (a b : List (Value d)) → Pairwise HasRat (a ++ b) values → Monic (ValueR d) (length a - 1) a → Monic (ValueR d) (length b - 1) b → ProbedPair args values a b
    of_row values a b h e f =
        let k = numbers a (take (length a) values) (pairwise_left HasRat a b values h) in
        let l = numbers b (drop (length a) values) (pairwise_right HasRat a b values h) in
        record {
          size = as_many (a ++ b) values h ∙ length-append a b;
          left = monic_of (length a - 1) a (map number (take (length a) values)) k e;
          right = monic_of (length b - 1) b (map number (drop (length a) values)) l f;
          coprime = λ m c. specialised_poly d args m (length a - 1) a b (map number (take (length a) values)) (map number (drop (length a) values)) k l e c;
        }

  pub probed : (list : List E) (args : List ℤ) (values : List Rat) (a b : List (Value d)) → IsProbe d val list args values → map val list ≡ a ++ b
      → Monic (ValueR d) (length a - 1) a → Monic (ValueR d) (length b - 1) b → ProbedPair args values a b
  probed list args values a b p e h k = of_row args values a b (subst (λ (z : List (Value d)). Pairwise (HasRat args) z values) e (of_elements args list values p.each)) h k
