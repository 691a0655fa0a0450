-- Polynomials whose values at whole numbers are coprime are coprime themselves: coprimality is found over the fractions, whatever the field is.
--   values_coprime       where the values of a monic a and of b are coprime, a and b are: with u a₀ + w b₀ = 1 over the fractions, u a + w b has the value 1,
--                        so a is coprime to it
--   specialised          so for a and b moved by a whole number m; of lists
--   specialised_poly     the same of polynomials
--   Probed val p u       u has the values of the elements p
--   specialised_elements the same of a field's elements, whose values are fractions of the program
--   specialised_radicals the same where radicals of the values are coprime
use Rattle.std.proofs.Common.{◌≡◌, ℕ, refl, sym, ◌∙◌, subst, List, [], ◌∷◌, map, ℤ}
use Rattle.sg_algebra.specs.Ring.{Ring}
use Rattle.sg_algebra.specs.Coefficients.{coef}
use Rattle.sg_algebra.proofs.Solver.{by, reads}
use Rattle.sg_algebra.proofs.Coprime.{Coprime}
use Rattle.sg_algebra.proofs.PolynomialRing.{PolyR}
use Rattle.sg_algebra.proofs.Degree.{Monic}
use Rattle.sg_algebra.proofs.Shift.{moved}
use Rattle.sg_algebra.proofs.Value.{Value, one_value}
use Rattle.sg_algebra.proofs.ValueField.{ValueR, value_one_ne}
use Rattle.sg_algebra.proofs.Rational.{whole_value}
use Rattle.sg_algebra.proofs.Polynomial.{PolynomialR, poly, zero_polynomial, same_poly}
use Rattle.sg_algebra.proofs.Place.{Pairwise, HasValue}
use Rattle.sg_algebra.proofs.Places.{has_laws, pairwise-add, pairwise-neg, pairwise-mul}
use Rattle.sg_num.specs.Value.{number}
use Rattle.sg_num.specs.declared.rat.Rat.{Rat}
use Rattle.sg_dispersion_theory.proofs.Embedded.{Valued, embedded, has_one, has_whole, monic_values, pairwise_at, pairwise-embedded, pairwise-moved}
use Rattle.sg_dispersion_theory.proofs.Uniform.{SmallList}
use Rattle.sg_dispersion_theory.proofs.Rests.{coprime_near_one}
use Rattle.sg_dispersion_theory.proofs.Radical.{IsRadical, coprime_of_radicals}
use Rattle.sg_dispersion_theory.proofs.Listed.{coprime_poly, poly_coprime}

-- a common divisor of a and b divides x a + y b
through : (P : Ring) (a b x y : P.A) → Coprime P a (P.◌⊞◌ (P.◌⊠◌ x a) (P.◌⊠◌ y b)) → Coprime P a b
through P a b x y c = record {
  u = c.u ⊞ c.w ⊠ x;
  w = c.w ⊠ y;
  comb = by P (a ∷ b ∷ x ∷ y ∷ c.u ∷ c.w ∷ []) c.comb (search reads depth 20 fits 4000) refl;
}
  where
    open P use {◌⊞◌, ◌⊠◌}

module _ (d : ℕ) (args : List ℤ) where
  open PolyR (ValueR d) use {◌⊞◌ as ◌⊕◌, ◌⊠◌ as ◌⊗◌, ⊟ as ⊖}
  open PolyR (ValueR 0) use {◌≈◌ as ◌≋₀◌, ◌⊞◌ as ◌⊕₀◌, ◌⊠◌ as ◌⊗₀◌, ⊟ as ⊖₀}

  abbrev Has : Value d → Value 0 → Type 0
  Has x v = HasValue d x args v

  -- a monic polynomial has a coefficient
  valued_of : (n : ℕ) (p : List (Value d)) (u : List (Value 0)) → Pairwise Has p u → Monic (ValueR d) n p → Valued d args
  valued_of n [] u h m = absurd (value_one_ne d (sym m.top))
  valued_of n (x ∷ p) [] h m = absurd h
  valued_of n (x ∷ p) (v ∷ u) h m = record { item = x; value = v; has = h.0 }

  -- what has the value 1 differs from 1 by a small polynomial
  near_one : Valued d args → (w : List (Value d)) (v : List (Value 0)) → Pairwise Has w v → v ≋₀ (one_value ∷ []) → SmallList d args (w ⊕ ⊖ (one_value ∷ []))
  near_one s w v h e i = subst (λ (z : Value 0). Has (coef (ValueR d) (w ⊕ ⊖ (one_value ∷ [])) i) z) ((difference v e).image.at i)
      (pairwise_at d args s (w ⊕ ⊖ (one_value ∷ [])) (v ⊕₀ ⊖₀ (one_value ∷ []))
      (pairwise-add Has (has_laws d args) w (⊖ (one_value ∷ [])) v (⊖₀ (one_value ∷ [])) h (pairwise-neg Has (has_laws d args) (one_value ∷ []) (one_value ∷ []) (has_one d args s, tt))) i)
    where
      difference : (v : List (Value 0)) → v ≋₀ (one_value ∷ []) → v ⊕₀ ⊖₀ (one_value ∷ []) ≋₀ []
      difference v e = by (PolyR (ValueR 0)) (v ∷ []) e (search reads depth 16) refl

  pub values_coprime : (n : ℕ) (a b : List (Value d)) (a₀ b₀ : List (Value 0)) → Pairwise Has a a₀ → Pairwise Has b b₀ → Monic (ValueR d) n a
      → Coprime (PolyR (ValueR 0)) a₀ b₀ → Coprime (PolyR (ValueR d)) a b
  values_coprime n a b a₀ b₀ h k m c =
      let s = valued_of n a a₀ h m in
      through (PolyR (ValueR d)) a b (map (embedded d) c.u) (map (embedded d) c.w)
      (coprime_near_one d args s n a a₀ h m (map (embedded d) c.u ⊗ a ⊕ map (embedded d) c.w ⊗ b)
      (near_one s (map (embedded d) c.u ⊗ a ⊕ map (embedded d) c.w ⊗ b) (c.u ⊗₀ a₀ ⊕₀ c.w ⊗₀ b₀)
      (pairwise-add Has (has_laws d args) (map (embedded d) c.u ⊗ a) (map (embedded d) c.w ⊗ b) (c.u ⊗₀ a₀) (c.w ⊗₀ b₀)
      (pairwise-mul Has (has_laws d args) (map (embedded d) c.u) a c.u a₀ (pairwise-embedded d args s c.u) h)
      (pairwise-mul Has (has_laws d args) (map (embedded d) c.w) b c.w b₀ (pairwise-embedded d args s c.w) k))
      c.comb))

  pub specialised : (m : ℤ) (n : ℕ) (a b : List (Value d)) (a₀ b₀ : List (Value 0)) → Pairwise Has a a₀ → Pairwise Has b b₀ → Monic (ValueR d) n a
      → Coprime (PolyR (ValueR 0)) a₀ (moved (ValueR 0) (whole_value 0 m) b₀) → Coprime (PolyR (ValueR d)) a (moved (ValueR d) (whole_value d m) b)
  specialised m n a b a₀ b₀ h k e c =
      let s = valued_of n a a₀ h e in
      values_coprime n a (moved (ValueR d) (whole_value d m) b) a₀ (moved (ValueR 0) (whole_value 0 m) b₀) h
      (pairwise-moved d args s (whole_value d m) (whole_value 0 m) (has_whole d args s m) b b₀ k) e c

  pub specialised_poly : (m : ℤ) (n : ℕ) (a b : List (Value d)) (a₀ b₀ : List (Value 0)) → Pairwise Has a a₀ → Pairwise Has b b₀ → Monic (ValueR d) n a
      → Coprime (PolynomialR 0) (poly a₀) (poly (moved (ValueR 0) (whole_value 0 m) b₀)) → Coprime (PolynomialR d) (poly a) (poly (moved (ValueR d) (whole_value d m) b))
  specialised_poly m n a b a₀ b₀ h k e c = coprime_poly a (moved (ValueR d) (whole_value d m) b)
      (specialised m n a b a₀ b₀ h k e (poly_coprime a₀ (moved (ValueR 0) (whole_value 0 m) b₀) c))

  -- ---- Elements of the program

  module _ {E : Type 0} (val : E → Value d) where
    abbrev pub Probed : List E → List Rat → Type 0
    Probed p u = Pairwise (λ x r. HasValue d (val x) args (number r)) p u

    probed : (p : List E) (u : List Rat) → Probed p u → Pairwise Has (map val p) (map number u)
    probed [] [] h = tt
    probed [] (r ∷ u) h = absurd h
    probed (x ∷ p) [] h = absurd h
    probed (x ∷ p) (r ∷ u) h = (h.0, probed p u h.1)

    pub specialised_elements : (m : ℤ) (n : ℕ) (a b : List E) (a₀ b₀ : List Rat) → Probed a a₀ → Probed b b₀ → Monic (ValueR d) n (map val a)
        → Coprime (PolynomialR 0) (poly (map number a₀)) (poly (moved (ValueR 0) (whole_value 0 m) (map number b₀)))
        → Coprime (PolynomialR d) (poly (map val a)) (poly (moved (ValueR d) (whole_value d m) (map val b)))
    specialised_elements m n a b a₀ b₀ h k e c = specialised_poly m n (map val a) (map val b) (map number a₀) (map number b₀) (probed a a₀ h) (probed b b₀ k) e c

    monic_some : (n : ℕ) (u : List (Value 0)) → Monic (ValueR 0) n u → ¬ (poly u ≡ zero_polynomial)
    monic_some n u m e = value_one_ne 0 (sym m.top ∙ same_poly u [] e n)

    pub specialised_radicals : (m : ℤ) (n l : ℕ) (a b : List E) (a₀ b₀ : List Rat) (r s : List (Value 0)) → Probed a a₀ → Probed b b₀ → Monic (ValueR d) n (map val a) → Monic (ValueR d) l (map val b)
        → IsRadical (map number a₀) r → IsRadical (map number b₀) s → Coprime (PolynomialR 0) (poly r) (poly (moved (ValueR 0) (whole_value 0 m) s))
        → Coprime (PolynomialR d) (poly (map val a)) (poly (moved (ValueR d) (whole_value d m) (map val b)))
    specialised_radicals m n l a b a₀ b₀ r s h k e f p q c =
        let v = valued_of n (map val a) (map number a₀) (probed a a₀ h) e in
        specialised_elements m n a b a₀ b₀ h k e
        (coprime_of_radicals 0 (whole_value 0 m) (map number a₀) (map number b₀) r s
        (monic_some n (map number a₀) (monic_values d args v n (map val a) (map number a₀) (probed a a₀ h) e))
        (monic_some l (map number b₀) (monic_values d args v l (map val b) (map number b₀) (probed b b₀ k) f)) p q c)
