-- Polynomials, constants and numbers among the values of the next depth.
--   polynomial_value p          the value of p/1, and `polynomial_valueH` as a map of rings
--   polynomial_value_same       equal values come from equal polynomials
--   over_value-quotient         p/q is the quotient of the two values
--   constant_value c            the constant c, and `constant_valueH` as a map of rings
--   constant_value_same         equal values come from equal constants
--   constant_value-whole        whole numbers go to themselves
--   numeral_ne, whole_value_zero    at every depth a numeral of at least 1 isn't zero, and a whole number is zero only where it is 0
use Rattle.std.proofs.Common.{◌≡◌, ℕ, zero, suc, ◌<◌, refl, sym, ◌∙◌, ap, List, [], ◌∷◌, ℤ, pos, negsuc, arith}
use Rattle.sg_algebra.specs.Ring.{Ring, Hom}
use Rattle.sg_algebra.proofs.Ring.{nat, neg_neg, neg_O}
use Rattle.sg_algebra.proofs.Solver.{ring, reads}
use Rattle.sg_algebra.proofs.Divides.{after, on-nat, on-neg}
use Rattle.sg_algebra.proofs.PolynomialRing.{PolyR, constantH}
use Rattle.sg_algebra.proofs.Degree.{poly_one_ne}
use Rattle.sg_algebra.proofs.Value.{Value, ◌+ᵛ◌, ◌*ᵛ◌, ◌/ᵛ◌, neg_value, zero_value, one_value, over_value}
use Rattle.sg_algebra.proofs.ValueField.{ValueR, ValueD, value_quotient}
use Rattle.sg_algebra.proofs.OverValue.{over_value-add, over_value-mul, over_value_same, same_over_value, over_value_cong, over_value-zero, over_value-self, zero_over_value}
use Rattle.sg_algebra.proofs.Rational.{whole_value, nat_ne}

module _ (d : ℕ) where
  open PolyR (ValueR d) use {◌≈◌ as ◌≋◌, ◌⊞◌ as ◌⊕◌, ◌⊠◌ as ◌⊗◌, ⊟ as ⊖, trans, symm}

  abbrev P : Ring
  P = PolyR (ValueR d)

  abbrev pub polynomial_value : List (Value d) → Value (suc d)
  polynomial_value p = over_value p (one_value ∷ [])

  one_ne : ¬ ((one_value ∷ []) ≋ [])
  one_ne = poly_one_ne (ValueD d)

  square_ne : ¬ ((one_value ∷ []) ⊗ (one_value ∷ []) ≋ [])
  square_ne z = one_ne (trans (symm (P.mul_I {x = one_value ∷ []})) z)

  pub polynomial_value_cong : (p q : List (Value d)) → p ≋ q → polynomial_value p ≡ polynomial_value q
  polynomial_value_cong p q h = over_value_cong d p (one_value ∷ []) q (one_value ∷ []) one_ne h P.rfl

  pub polynomial_value-add : (p q : List (Value d)) → polynomial_value (p ⊕ q) ≡ polynomial_value p +ᵛ polynomial_value q
  polynomial_value-add p q =
      over_value_same d (p ⊕ q) (one_value ∷ []) (p ⊗ (one_value ∷ []) ⊕ q ⊗ (one_value ∷ [])) ((one_value ∷ []) ⊗ (one_value ∷ [])) one_ne square_ne (cross p q (one_value ∷ []))
      ∙ over_value-add d p (one_value ∷ []) q (one_value ∷ []) one_ne one_ne
    where
      cross : (p q i : List (Value d)) → (p ⊕ q) ⊗ (i ⊗ i) ≋ (p ⊗ i ⊕ q ⊗ i) ⊗ i
      cross p q i = ring P (p ∷ q ∷ i ∷ []) (search reads depth 16) refl

  pub polynomial_value-mul : (p q : List (Value d)) → polynomial_value (p ⊗ q) ≡ polynomial_value p *ᵛ polynomial_value q
  polynomial_value-mul p q =
      over_value_same d (p ⊗ q) (one_value ∷ []) (p ⊗ q) ((one_value ∷ []) ⊗ (one_value ∷ [])) one_ne square_ne (P.mul_cong {x = p ⊗ q} {y = p ⊗ q} P.rfl (P.mul_I {x = one_value ∷ []}))
      ∙ over_value-mul d p (one_value ∷ []) q (one_value ∷ []) one_ne one_ne

  pub polynomial_value-one : polynomial_value (one_value ∷ []) ≡ one_value
  polynomial_value-one = over_value-self d (one_value ∷ []) one_ne

  abbrev pub polynomial_valueH : Hom P (ValueR (suc d))
  polynomial_valueH = record { on = polynomial_value; on_cong = polynomial_value_cong; on-add = polynomial_value-add; on-mul = polynomial_value-mul; on-one = polynomial_value-one }

  pub polynomial_value_same : (p q : List (Value d)) → polynomial_value p ≡ polynomial_value q → p ≋ q
  polynomial_value_same p q e = trans (symm P.mul_I) (trans (same_over_value d p (one_value ∷ []) q (one_value ∷ []) one_ne one_ne e) P.mul_I)

  pub polynomial_value-zero : polynomial_value [] ≡ zero_value
  polynomial_value-zero = over_value-zero d (one_value ∷ []) one_ne

  pub over_value-quotient : (p q : List (Value d)) → ¬ (q ≋ []) → over_value p q ≡ polynomial_value p /ᵛ polynomial_value q
  over_value-quotient p q h =
      value_quotient (polynomial_value p) (polynomial_value q) (over_value p q) (λ z. h (zero_over_value d q (one_value ∷ []) one_ne z))
      (sym (over_value-mul d p q q (one_value ∷ []) h one_ne) ∙ over_value_same d (p ⊗ q) (q ⊗ (one_value ∷ [])) p (one_value ∷ []) (λ z. h (trans (symm P.mul_I) z)) one_ne (cross p q (one_value ∷ [])))
    where
      cross : (p q i : List (Value d)) → (p ⊗ q) ⊗ i ≋ p ⊗ (q ⊗ i)
      cross p q i = P.mul_assoc {x = p} {y = q} {z = i}

  -- ---- Constants

  abbrev pub constant_value : Value d → Value (suc d)
  constant_value c = polynomial_value (c ∷ [])

  abbrev pub constant_valueH : Hom (ValueR d) (ValueR (suc d))
  constant_valueH = after (ValueR d) P (ValueR (suc d)) (constantH (ValueR d)) polynomial_valueH

  pub constant_value_same : (x y : Value d) → constant_value x ≡ constant_value y → x ≡ y
  constant_value_same x y e = (polynomial_value_same (x ∷ []) (y ∷ []) e).image.at 0

  pub constant_value_zero : (x : Value d) → constant_value x ≡ zero_value → x ≡ zero_value
  constant_value_zero x e = (polynomial_value_same (x ∷ []) [] (e ∙ sym polynomial_value-zero)).image.at 0

  pub constant_value-nat : (n : ℕ) → constant_value (nat (ValueR d) n) ≡ nat (ValueR (suc d)) n
  constant_value-nat n = on-nat (ValueR d) (ValueR (suc d)) constant_valueH n

  pub constant_value-whole : (n : ℤ) → constant_value (whole_value d n) ≡ whole_value (suc d) n
  constant_value-whole (pos n) = constant_value-nat n
  constant_value-whole (negsuc n) = on-neg (ValueR d) (ValueR (suc d)) constant_valueH (nat (ValueR d) (suc n)) ∙ ap neg_value (constant_value-nat (suc n))

-- ---- Numbers at every depth

pub numeral_ne : (d n : ℕ) → 0 < n → ¬ (nat (ValueR d) n ≡ zero_value)
numeral_ne zero n h e = nat_ne n h e
numeral_ne (suc d) n h e = numeral_ne d n h (constant_value_zero d (nat (ValueR d) n) (constant_value-nat d n ∙ e))

pub whole_value_zero : (d : ℕ) (n : ℤ) → whole_value d n ≡ zero_value → n ≡ pos 0
whole_value_zero d (pos zero) e = refl
whole_value_zero d (pos (suc n)) e = absurd (numeral_ne d (suc n) (omega arith) e)
whole_value_zero d (negsuc n) e = absurd (numeral_ne d (suc n) (omega arith) (sym (neg_neg (ValueR d)) ∙ ap neg_value e ∙ neg_O (ValueR d)))
