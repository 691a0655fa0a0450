-- Steps that aren't taken where something is 0 or 1, and coefficients past the end of a list.
use Rattle.std.proofs.Common.{◌≡◌, ℕ, zero, suc, ◌<◌, ◌≤◌, refl, List, [], ◌∷◌, map, length, get_or}
use Rattle.sg_algebra.specs.Ring.{Ring}
use Rattle.sg_algebra.specs.Coefficients.{coef}
use Rattle.sg_algebra.proofs.Ring.{neg_O, mul_O, O_mul}
use Rattle.sg_algebra.proofs.Divides.{on-O}
use Rattle.sg_algebra.proofs.Solver.{ring, reads}
use Rattle.sg_algebra.proofs.PolynomialRing.{PolyR}
use Rattle.sg_algebra.proofs.Value.{Value, ◌+ᵛ◌, ◌*ᵛ◌, zero_value, one_value}
use Rattle.sg_algebra.proofs.ValueField.{ValueR}
use Rattle.sg_tower_theory.proofs.Formal.{Element, elements, shifted}
use Rattle.sg_tower.specs.Elements.{Reading, IsZero, IsCopy, IsSum, IsDifference, IsProduct}
use Rattle.sg_sums.specs.declared.partial.Partial.{Partial}
use Rattle.sg_sums.specs.Polynomials.{at_place, IsPlace, IsSumAt, IsDifferenceAt, PolySum, PolyScaled, partial_consts, IsExtended}
use Rattle.sg_sums.proofs.Building.{at_read, at_past}

module _ {d : ℕ} {E : Type 0} (ρ : Reading d E) where
  abbrev R : Ring
  R = elements ρ.formal

  open R use {◌≈◌, O, rfl, symm, trans, add_cong, add_comm, add_O, mul_cong, mul_comm, neg_cong}

  abbrev P : Ring
  P = PolyR R

  zero_plus : (x : Element ρ.formal) → R.◌⊞◌ O x ≈ x
  zero_plus x = trans add_comm add_O

  less_zero : (x : Element ρ.formal) → R.◌⊞◌ x (R.⊟ O) ≈ x
  less_zero x = trans (add_cong rfl (neg_O R)) add_O

  pub sum_left : (x y b : E) → IsZero ρ x → IsCopy ρ y b → IsSum ρ x y b
  sum_left x y b z h = trans h (symm (trans (add_cong z rfl) (zero_plus (ρ.of y))))

  pub sum_right : (x y a : E) → IsZero ρ y → IsCopy ρ x a → IsSum ρ x y a
  sum_right x y a z h = trans h (symm (trans (add_cong rfl z) add_O))

  pub difference_right : (x y a : E) → IsZero ρ y → IsCopy ρ x a → IsDifference ρ x y a
  difference_right x y a z h = trans h (symm (trans (add_cong rfl (neg_cong z)) (less_zero (ρ.of x))))

  pub sum_past_left : (x y : List E) (i : ℕ) (b : E) → length x ≤ i → IsPlace ρ y i b → IsSumAt ρ x y i b
  sum_past_left x y i b l h = rw (at_past R ρ.of x i l) (trans h (symm (zero_plus (at_place ρ y i))))

  pub sum_past_right : (x y : List E) (i : ℕ) (a : E) → length y ≤ i → IsPlace ρ x i a → IsSumAt ρ x y i a
  sum_past_right x y i a l h = rw (at_past R ρ.of y i l) (trans h (symm add_O))

  pub sum_inside : (x y : List E) (i : ℕ) (a b r : E) → i < length x → a ≡ get_or x i a → i < length y → b ≡ get_or y i b → IsSum ρ a b r → IsSumAt ρ x y i r
  sum_inside x y i a b r l e k f h = rw (at_read R ρ.of x i a l e, at_read R ρ.of y i b k f) h

  pub difference_past_left : (x y : List E) (i : ℕ) (z b r : E) → length x ≤ i → IsZero ρ z → i < length y → b ≡ get_or y i b → IsDifference ρ z b r → IsDifferenceAt ρ x y i r
  difference_past_left x y i z b r l o k f h = rw (at_past R ρ.of x i l, at_read R ρ.of y i b k f) (trans h (add_cong o rfl))

  pub difference_past_right : (x y : List E) (i : ℕ) (a : E) → length y ≤ i → IsPlace ρ x i a → IsDifferenceAt ρ x y i a
  difference_past_right x y i a l h = rw (at_past R ρ.of y i l) (trans h (symm (less_zero (at_place ρ x i))))

  pub difference_inside : (x y : List E) (i : ℕ) (a b r : E) → i < length x → a ≡ get_or x i a → i < length y → b ≡ get_or y i b → IsDifference ρ a b r → IsDifferenceAt ρ x y i r
  difference_inside x y i a b r l e k f h = rw (at_read R ρ.of x i a l e, at_read R ρ.of y i b k f) h

  one_times : (c : Value d) → c ≡ one_value → P.◌≈◌ ((shifted ρ.formal).κ.on c ∷ []) P.I
  one_times c e = record { image = record { at = at } }
    where
      at : (k : ℕ) → coef R ((shifted ρ.formal).κ.on c ∷ []) k ≈ coef R P.I k
      at zero = trans ((shifted ρ.formal).κ.on_cong c one_value e) (shifted ρ.formal).κ.on-one
      at (suc k) = rfl

  pub scaled_one : (c : Value d) (none x r : List E) → c ≡ one_value → none ≡ [] → PolySum ρ none x r → PolyScaled ρ c x r
  scaled_one c none x r e n h =
      P.trans (rw n at h)
      (P.symm (P.trans (P.mul_cong (one_times c e) (P.rfl {x = map ρ.of x})) (P.trans (P.mul_comm {x = P.I} {y = map ρ.of x}) (P.mul_I {x = map ρ.of x}))))

  pub product_right : (x y r : E) → IsZero ρ y → IsZero ρ r → IsProduct ρ x y r
  product_right x y r z h = trans h (symm (trans (mul_cong rfl z) (mul_O R)))

  module _ {K : Type 0} (v : K → Value d) where
    pub extended_none : (acc row : Partial K E) (c : Value d) → c ≡ zero_value → IsExtended ρ v acc c row acc
    extended_none acc row c e = record {
      coeffs = λ i. same (partial_consts ρ v acc i) (partial_consts ρ v row i);
      value = nothing (map ρ.of acc.value) (map ρ.of row.value);
      left = nothing (map ρ.of acc.left) (map ρ.of row.left);
    }
      where
        same : (a b : Value d) → a ≡ a +ᵛ c *ᵛ b
        same a b = rw e (ring (ValueR d) (a ∷ b ∷ []) (search reads depth 16) refl)

        at : (k : ℕ) → coef R ((shifted ρ.formal).κ.on c ∷ []) k ≈ coef R [] k
        at zero = trans ((shifted ρ.formal).κ.on_cong c zero_value e) (on-O (ValueR d) R (shifted ρ.formal).κ)
        at (suc k) = rfl

        none : P.◌≈◌ ((shifted ρ.formal).κ.on c ∷ []) []
        none = record { image = record { at = at } }

        nothing : (x y : List (Element ρ.formal)) → P.◌≈◌ x (P.◌⊞◌ x (P.◌⊠◌ ((shifted ρ.formal).κ.on c ∷ []) y))
        nothing x y = P.symm (P.trans (P.add_cong (P.rfl {x = x}) (P.trans (P.mul_cong none (P.rfl {x = y})) (O_mul P {x = y}))) (P.add_O {x = x}))
