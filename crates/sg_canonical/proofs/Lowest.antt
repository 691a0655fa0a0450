-- The written quotient is in lowest terms.
--   whole-lowest     where the upper polynomial isn't 0
use Rattle.std.proofs.Common.{◌≡◌, ℕ, zero, suc, ◌+◌, ◌<◌, ℤ, pos, refl, sym, ap, ap₂, subst, ◌∙◌, List, [], ◌∷◌, ◌++◌, length, map, reverse, arith}
use Rattle.std.proofs.lemmas.List.{reverse-append, reverse-reverse, length-map}
use Rattle.sg_algebra.specs.Ring.{Ring, Domain, Hom}
use Rattle.sg_algebra.specs.Coefficients.{coef, horner}
use Rattle.sg_algebra.proofs.Coprime.{Coprime, coprime_on, coprime_same, coprime_unit, coprime_dvd_both}
use Rattle.sg_algebra.proofs.Degree.{PolyD, coef-mul_top}
use Rattle.sg_algebra.proofs.Divides.{Divides, after}
use Rattle.sg_algebra.proofs.Evaluation.{evalH}
use Rattle.sg_algebra.proofs.Polynomial.{EndsNonzero}
use Rattle.sg_algebra.proofs.PolynomialLowest.{unit_constant}
use Rattle.sg_algebra.proofs.PolynomialRing.{PolyR, X, cons-is, constantH, coef-scale}
use Rattle.sg_algebra.proofs.Rational.{whole_value}
use Rattle.sg_algebra.proofs.Solver.{ring, reads}
use Rattle.sg_algebra.proofs.Value.{Value, ◌*ᵛ◌, inv_value, zero_value, one_value}
use Rattle.sg_algebra.proofs.ValueField.{ValueR, ValueD, value_mul-inv}
use Rattle.sg_canonical.proofs.Writing.{both_ne}
use Rattle.sg_worth_theory.proofs.Planes.{V, N, S, constants, unit-number, plane-is, entries-is}
use Rattle.sg_canonical.proofs.WholeQuotients.{whole-same}
use Rattle.std.proofs.lemmas.Int.{ints}
use Rattle.sg_spec.specs.Canonical.{IsLowest, Planes, plane_polynomial, entries, leading, content, plane_of}
use Rattle.sg_canonical.specs.Whole.{IsPrimitiveQuotient, wholes, multiplied}

-- ---- Constants in the parameter

abbrev lift : Hom N S
lift = evalH V S constants (X N)

lift-is : (p : List (Value 0)) → S.◌≈◌ (lift.on p) (map (λ a. a ∷ []) p)
lift-is [] = S.rfl
lift-is (a ∷ p) = S.trans (S.add_cong {x = (a ∷ []) ∷ []} S.rfl (S.mul_cong {x = X N} S.rfl (lift-is p))) (S.symm (cons-is N (a ∷ []) (map (λ a. a ∷ []) p)))

-- ---- Multiples

multiplied-coef : (d : ℤ) (p : List (Value 0)) (n : ℕ) → coef V (multiplied d p) n ≡ whole_value 0 d *ᵛ coef V p n
multiplied-coef d [] n = ring V (whole_value 0 d ∷ []) (search reads depth 16) refl
multiplied-coef d (a ∷ p) zero = refl
multiplied-coef d (a ∷ p) (suc n) = multiplied-coef d p n

multiplied-divides : (d : ℤ) (p : List (Value 0)) → ¬ (whole_value 0 d ≡ zero_value) → Divides N (multiplied d p) p
multiplied-divides d p h = record { cofactor = inv_value (whole_value 0 d) ∷ []; is = N.symm (N.trans (N.mul_comm {x = multiplied d p} {y = inv_value (whole_value 0 d) ∷ []}) (record { image = record { at = each } })) }
  where
    each : (n : ℕ) → coef V (N.◌⊠◌ (inv_value (whole_value 0 d) ∷ []) (multiplied d p)) n ≡ coef V p n
    each n =
        coef-scale V (inv_value (whole_value 0 d)) (multiplied d p) n ∙ ap (λ v. inv_value (whole_value 0 d) *ᵛ v) (multiplied-coef d p n)
        ∙ moved (inv_value (whole_value 0 d)) (whole_value 0 d) (coef V p n) ∙ ap (λ v. v *ᵛ coef V p n) (value_mul-inv 0 (whole_value 0 d) h) ∙ one (coef V p n)
      where
        moved : (i d x : Value 0) → i *ᵛ (d *ᵛ x) ≡ (d *ᵛ i) *ᵛ x
        moved i d x = ring V (i ∷ d ∷ x ∷ []) (search reads depth 16) refl

        one : (x : Value 0) → one_value *ᵛ x ≡ x
        one x = ring V (x ∷ []) (search reads depth 16) refl

lifted-plane : (d : ℤ) (p : List (Value 0)) (us : List ℤ) → wholes us ≡ reverse (multiplied d p) → S.◌≈◌ (lift.on (multiplied d p)) (plane_polynomial (plane_of us))
lifted-plane d p us h =
    let e : map (λ (a : Value 0). a ∷ []) (multiplied d p) ≡ plane_polynomial (plane_of us) =
    sym (plane-is us ∙ ap (λ (l : List (Value 0)). map (λ a. a ∷ []) (reverse l)) h ∙ ap (map (λ a. a ∷ [])) (reverse-reverse (multiplied d p))) in
    subst (λ (l : List (List (Value 0))). S.◌≈◌ (lift.on (multiplied d p)) l) e (lift-is (multiplied d p))

pub whole-apart : (p q : List (Value 0)) (us ls : List ℤ) (d : ℤ) → ¬ (whole_value 0 d ≡ zero_value) → Coprime N p q → wholes us ≡ reverse (multiplied d p) → wholes ls ≡ reverse (multiplied d q)
    → (c : List (List (Value 0))) → Divides Planes c (plane_polynomial (plane_of us)) → Divides Planes c (plane_polynomial (plane_of ls)) → (a : Value 0) × Planes.◌≈◌ c ((a ∷ []) ∷ [])
whole-apart p q us ls d n h hu hl c i j =
    let below : Coprime N (multiplied d p) (multiplied d q) = coprime_dvd_both N p q (multiplied d p) (multiplied d q) (multiplied-divides d p n) (multiplied-divides d q n) h in
    let planes : Coprime S (plane_polynomial (plane_of us)) (plane_polynomial (plane_of ls)) =
    coprime_same S (lift.on (multiplied d p)) (lift.on (multiplied d q)) (plane_polynomial (plane_of us)) (plane_polynomial (plane_of ls)) (lifted-plane d p us hu) (lifted-plane d q ls hl)
    (coprime_on N S lift (multiplied d p) (multiplied d q) below) in
    let unit = coprime_unit S (plane_polynomial (plane_of us)) (plane_polynomial (plane_of ls)) c i j planes in
    unit-number c unit.cofactor (S.symm unit.is)

-- ---- Lowest terms

abbrev first : List (Value 0) → Value 0
first [] = zero_value
first (v ∷ l) = v

first-push : (l m : List (Value 0)) (x : Value 0) → l ≡ m ++ (x ∷ []) → first (reverse l) ≡ x
first-push l m x e = ap (λ (t : List (Value 0)). first (reverse t)) e ∙ ap first (reverse-append m (x ∷ []))

split-last : (n : ℕ) (q : List (Value 0)) → length q ≡ suc n → (l : List (Value 0)) × (q ≡ l ++ (coef V q n ∷ []))
split-last n [] e = absurd (omega (arith, e))
split-last zero (a ∷ []) e = ([], refl)
split-last (suc n) (a ∷ []) e = absurd (omega (arith, e))
split-last zero (a ∷ (b ∷ q)) e = absurd (omega (arith, e))
split-last (suc n) (a ∷ (b ∷ q)) e = let r = split-last n (b ∷ q) (omega (arith, e)) in (a ∷ r.0, ap (λ (l : List (Value 0)). a ∷ l) r.1)

first-leading : (cs : List ℤ) → whole_value 0 (leading (plane_of cs)) ≡ first (wholes cs)
unfolding zero_value
first-leading [] = refl
first-leading (c ∷ cs) = refl

abbrev pub IsApart : List ℤ → List ℤ → Type 0
IsApart us ls = (c : List (List (Value 0))) → Divides Planes c (plane_polynomial (plane_of us)) → Divides Planes c (plane_polynomial (plane_of ls)) → (a : Value 0) × Planes.◌≈◌ c ((a ∷ []) ∷ [])

pub lead-some : (p q : List (Value 0)) (us ls : List ℤ) → IsPrimitiveQuotient p q us ls → ¬ (whole_value 0 (leading (plane_of ls)) ≡ zero_value)
lead-some p q us ls w z = let e : leading (plane_of ls) ≡ pos 0 = whole-same (leading (plane_of ls)) (pos 0) z in absurd (omega (arith, ints, e, w.positive))

-- the number by its place, so that all of this is an equation
pub number-of : (c : List (List (Value 0))) → ((a : Value 0) × S.◌≈◌ c ((a ∷ []) ∷ [])) → (i j : ℕ) → coef V (coef N c i) j ≡ coef V (coef N ((coef V (coef N c 0) 0 ∷ []) ∷ []) i) j
number-of c r i j = (r.1.image.at i).image.at j ∙ ap (λ (a : Value 0). coef V (coef N ((a ∷ []) ∷ []) i) j) (sym ((r.1.image.at 0).image.at 0))

pub number-is : (c : List (List (Value 0))) → ((i j : ℕ) → coef V (coef N c i) j ≡ coef V (coef N ((coef V (coef N c 0) 0 ∷ []) ∷ []) i) j) → (a : Value 0) × S.◌≈◌ c ((a ∷ []) ∷ [])
number-is c f = (coef V (coef N c 0) 0, record { image = record { at = λ i. record { image = record { at = λ j. f i j } } } })

pub whole-lowest : (n : ℕ) (p q : List (Value 0)) (us ls : List ℤ) → length p ≡ suc n → ¬ (coef V p n ≡ zero_value) → IsApart us ls → IsPrimitiveQuotient p q us ls → IsLowest (plane_of us) (plane_of ls)
whole-lowest n p q us ls size last h w = record {
  some = λ z. both_ne (whole_value 0 (leading (plane_of ls))) (coef V p n) some last
      (sym (multiplied-coef (leading (plane_of ls)) p n) ∙ sym (first-push (multiplied (leading (plane_of ls)) p) part.0 (coef V (multiplied (leading (plane_of ls)) p) n) part.1) ∙ sym (ap first w.upper) ∙ sym (first-leading us) ∙ ap (whole_value 0) z);
  positive = w.positive;
  apart = h;
  primitive = ap₂ (λ (a b : List ℤ). content (a ++ b)) (entries-is us) (entries-is ls) ∙ w.primitive;
}
  where
    some : ¬ (whole_value 0 (leading (plane_of ls)) ≡ zero_value)
    some z = let e : leading (plane_of ls) ≡ pos 0 = whole-same (leading (plane_of ls)) (pos 0) z in absurd (omega (arith, ints, e, w.positive))

    part : (l : List (Value 0)) × (multiplied (leading (plane_of ls)) p ≡ l ++ (coef V (multiplied (leading (plane_of ls)) p) n ∷ []))
    part = split-last n (multiplied (leading (plane_of ls)) p) (length-map p (λ v. whole_value 0 (leading (plane_of ls)) *ᵛ v) ∙ size)
