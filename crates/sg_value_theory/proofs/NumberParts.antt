-- The values of the parts of an expression, as numbers.
--   HasNumber u          the value u is a number
--   number_unique        it is one number
--   both_parts, opposite_part, power_part    what has a value has parts that have one
--   quotient_worth       a quotient has a value only where the divisor's isn't 0, and is that of the values
--   left_number, right_number    equal values exist
--   pow-mul              a power of a product
use Rattle.std.proofs.Common.{◌≡◌, ℕ, zero, suc, refl, sym, ◌∙◌, ap, ap₂, [], ◌∷◌, ℤ, pos, negsuc, Option, Some, None}
use Rattle.sg_algebra.proofs.Ring.{pow}
use Rattle.sg_algebra.proofs.Solver.{ring, by, scale, reads}
use Rattle.sg_algebra.proofs.Value.{Value, ◌*ᵛ◌, ◌/ᵛ◌, zero_value}
use Rattle.sg_algebra.proofs.ValueField.{ValueR, value_product}
use Rattle.sg_algebra.proofs.Rational.{fraction_value-over, zero_fraction_value}
use Rattle.sg_spec.specs.Fraction.{Fraction, over}
use Rattle.sg_spec.specs.Value.{both, quotient_of, unless_zero, opposite_of, power_of, SameValue}
use Rattle.sg_spec.proofs.Values.{IsProper}
use Rattle.sg_spec.proofs.Worth.{number_of, Worth}

abbrev pub HasNumber : Option Fraction → Type 0
HasNumber u = (v : Value 0) × Worth u v

pub number_unique : (u : Option Fraction) (v w : Value 0) → Worth u v → Worth u w → v ≡ w
number_unique (Some x) v w h k = sym h ∙ k
number_unique None v w h k = absurd h

pub both_parts : (f : Fraction → Fraction → Option Fraction) (u v : Option Fraction) (x : Value 0) → Worth (both f u v) x → HasNumber u × HasNumber v
both_parts f (Some a) (Some b) x h = ((number_of a, refl), (number_of b, refl))
both_parts f (Some a) None x h = absurd h
both_parts f None v x h = absurd h

pub opposite_part : (u : Option Fraction) (x : Value 0) → Worth (opposite_of u) x → HasNumber u
opposite_part (Some a) x h = (number_of a, refl)
opposite_part None x h = absurd h

pub power_part : (u : Option Fraction) (e : ℕ) (x : Value 0) → Worth (power_of u e) x → HasNumber u
power_part (Some a) e x h = (number_of a, refl)
power_part None e x h = absurd h

-- a quotient has a value only where the divisor's isn't 0, and is that of the values
pub quotient_worth : (u v : Option Fraction) (x a b : Value 0) → IsProper u → IsProper v → Worth (both quotient_of u v) x → Worth u a → Worth v b → (¬ (b ≡ zero_value)) × (x *ᵛ b ≡ a)
quotient_worth (Some r) (Some s) x a b p q h i j = go s.num refl h
  where
    nonzero : ¬ (s.num ≡ pos 0) → ¬ (b ≡ zero_value)
    nonzero n z = n (zero_fraction_value s.num s.den q (j ∙ z))

    made : ¬ (s.num ≡ pos 0) → number_of (over r s) ≡ x → (¬ (b ≡ zero_value)) × (x *ᵛ b ≡ a)
    made n e = (nonzero n, ap (λ y. y *ᵛ b) (sym e ∙ fraction_value-over r.num s.num r.den s.den p q n ∙ ap₂ ◌/ᵛ◌ i j) ∙ value_product a b (nonzero n))

    go : (z : ℤ) → s.num ≡ z → Worth (unless_zero z (over r s)) x → (¬ (b ≡ zero_value)) × (x *ᵛ b ≡ a)
    go (pos zero) e h = absurd h
    go (pos (suc n)) e h = made (λ z. other n (sym e ∙ z)) h
      where
        other : (n : ℕ) → pos (suc n) ≡ pos 0 → ⊥
        other n e = cc
    go (negsuc n) e h = made (λ z. other n (sym e ∙ z)) h
      where
        other : (n : ℕ) → negsuc n ≡ pos 0 → ⊥
        other n e = cc
quotient_worth (Some r) None x a b p q h i j = absurd h
quotient_worth None v x a b p q h i j = absurd h

pub pow-mul : (x y : Value 0) (e : ℕ) → pow (ValueR 0) x e *ᵛ pow (ValueR 0) y e ≡ pow (ValueR 0) (x *ᵛ y) e
pow-mul x y zero = ring (ValueR 0) [] (search reads depth 12) refl
pow-mul x y (suc e) = by (ValueR 0) (x ∷ y ∷ pow (ValueR 0) x e ∷ pow (ValueR 0) y e ∷ pow (ValueR 0) (x *ᵛ y) e ∷ []) (scale (ValueR 0) (x *ᵛ y) (pow-mul x y e)) (search reads depth 16) refl

-- equal values exist
pub left_number : (u v : Option Fraction) → SameValue u v → HasNumber u
left_number (Some x) (Some y) h = (number_of x, refl)
left_number (Some x) None h = absurd h
left_number None v h = absurd h

pub right_number : (u v : Option Fraction) → SameValue u v → HasNumber v
right_number (Some x) (Some y) h = (number_of y, refl)
right_number (Some x) None h = absurd h
right_number None v h = absurd h
