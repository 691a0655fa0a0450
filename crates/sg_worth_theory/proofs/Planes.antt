-- Polynomials in the variable and the parameter with whole coefficients.
--   unit-number        a unit among them is a number
--   plane-is           the polynomial in the variable alone
--   entries-is         its coefficients
--   plane-opposite     the opposites of the coefficients are those of the polynomial
use Rattle.std.proofs.Common.{◌≡◌, ℕ, zero, suc, ◌<◌, ℤ, neg_ℤ, refl, sym, ap, ◌∙◌, List, [], ◌∷◌, ◌++◌, map, reverse, arith}
use Rattle.std.proofs.lemmas.List.{reverse-append}
use Rattle.sg_algebra.specs.Ring.{Ring, Hom}
use Rattle.sg_algebra.specs.Coefficients.{coef}
use Rattle.sg_algebra.proofs.Degree.{PolyD, coef-mul_top}
use Rattle.sg_algebra.proofs.Divides.{after}
use Rattle.sg_algebra.proofs.PolynomialLowest.{unit_constant}
use Rattle.sg_algebra.proofs.PolynomialRing.{PolyR, constantH}
use Rattle.sg_algebra.proofs.Rational.{whole_value}
use Rattle.sg_algebra.proofs.Value.{Value}
use Rattle.sg_algebra.proofs.ValueField.{ValueR, ValueD}
use Rattle.sg_spec.specs.Canonical.{plane_polynomial, entries, plane_of, negated}

abbrev pub V : Ring
V = ValueR 0

abbrev pub N : Ring
N = PolyR V

abbrev pub S : Ring
S = PolyR N

abbrev pub constants : Hom V S
constants = after V N S (constantH V) (constantH N)

pub unit-number : (c m : List (List (Value 0))) → S.◌≈◌ (S.◌⊠◌ c m) S.I → (a : Value 0) × S.◌≈◌ c ((a ∷ []) ∷ [])
unit-number c m h = (coef V (coef N c 0) 0, record { image = record { at = each } })
  where
    above : (i : ℕ) → 0 < i → N.◌≈◌ (coef N c i) N.O
    above i l = unit_constant (PolyD (ValueD 0)) c m h i l

    above' : (i : ℕ) → 0 < i → N.◌≈◌ (coef N m i) N.O
    above' i l = unit_constant (PolyD (ValueD 0)) m c (S.trans S.mul_comm h) i l

    low : N.◌≈◌ (N.◌⊠◌ (coef N c 0) (coef N m 0)) N.I
    low = N.trans (N.symm (coef-mul_top N 0 0 c m above above')) (h.image.at 0)

    inner : (j : ℕ) → coef V (coef N c 0) j ≡ coef V (coef V (coef N c 0) 0 ∷ []) j
    inner zero = refl
    inner (suc j) = unit_constant (ValueD 0) (coef N c 0) (coef N m 0) low (suc j) (omega arith)

    each : (i : ℕ) → N.◌≈◌ (coef N c i) (coef N ((coef V (coef N c 0) 0 ∷ []) ∷ []) i)
    each zero = record { image = record { at = inner } }
    each (suc i) = above (suc i) (omega arith)

map-push : (l : List (List ℤ)) (x : List ℤ) → map (λ row. map (whole_value 0) (reverse row)) (l ++ (x ∷ [])) ≡ map (λ row. map (whole_value 0) (reverse row)) l ++ (map (whole_value 0) (reverse x) ∷ [])
map-push [] x = refl
map-push (y ∷ l) x = ap (λ (t : List (List (Value 0))). map (whole_value 0) (reverse y) ∷ t) (map-push l x)

push-map : (l : List (Value 0)) (x : Value 0) → map (λ (a : Value 0). a ∷ []) (l ++ (x ∷ [])) ≡ map (λ (a : Value 0). a ∷ []) l ++ ((x ∷ []) ∷ [])
push-map [] x = refl
push-map (y ∷ l) x = ap (λ (t : List (List (Value 0))). (y ∷ []) ∷ t) (push-map l x)

pub plane-is : (cs : List ℤ) → plane_polynomial (plane_of cs) ≡ map (λ a. a ∷ []) (reverse (map (whole_value 0) cs))
plane-is [] = refl
plane-is (c ∷ cs) =
    ap (map (λ row. map (whole_value 0) (reverse row))) (reverse-append ((c ∷ []) ∷ []) (plane_of cs))
    ∙ map-push (reverse (plane_of cs)) (c ∷ [])
    ∙ ap (λ (t : List (List (Value 0))). t ++ ((whole_value 0 c ∷ []) ∷ [])) (plane-is cs)
    ∙ sym (ap (map (λ a. a ∷ [])) (reverse-append (whole_value 0 c ∷ []) (map (whole_value 0) cs)) ∙ push-map (reverse (map (whole_value 0) cs)) (whole_value 0 c))

pub entries-is : (cs : List ℤ) → entries (plane_of cs) ≡ cs
entries-is [] = refl
entries-is (c ∷ cs) = ap (λ (l : List ℤ). c ∷ l) (entries-is cs)

pub plane-opposite : (cs : List ℤ) → plane_of (map neg_ℤ cs) ≡ negated (plane_of cs)
plane-opposite [] = refl
plane-opposite (c ∷ cs) = ap (λ (l : List (List ℤ)). (neg_ℤ c ∷ []) ∷ l) (plane-opposite cs)
