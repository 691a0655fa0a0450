-- Which natural number a value is.
--   numeral_same    equal numerals are those of one number
--   number_is       a natural number has itself as its value at any whole numbers
--   ceiling_is      the least whole number that is no less than a fraction equal to n is n
--   root_is         a root k of the indicial equation is (b' - a')/lead, for the coefficients before the ones at m
use Rattle.std.proofs.Common.{◌≡◌, ℕ, refl, ◌<◌, ◌⊎◌, inl, inr, sym, ◌∙◌, ap, subst, [], ◌∷◌, List, ℤ, pos, ◌*ℤ◌, ◌+ℤ◌, ◌≤ℤ◌, ◌<ℤ◌, arith}
use Rattle.std.proofs.lemmas.Int.{ints}
use Rattle.sg_algebra.proofs.Ring.{nat}
use Rattle.sg_algebra.proofs.Solver.{by, reads}
use Rattle.sg_algebra.proofs.Whole.{le_of_mul, lt_of_mul, mul-oneℤ}
use Rattle.sg_algebra.proofs.Value.{Value, fraction_value, zero_value, ◌*ᵛ◌, ◌-ᵛ◌, ◌/ᵛ◌}
use Rattle.sg_algebra.proofs.ValueField.{ValueR, ValueF, value_quotient}
use Rattle.sg_algebra.proofs.Rational.{same_fraction_value, fraction_value-nat}
use Rattle.sg_algebra.proofs.Place.{HasValue}
use Rattle.sg_algebra.proofs.Places.{has_unique}
use Rattle.sg_algebra.proofs.Polynomial.{coefficient}
use Rattle.sg_dispersion_theory.proofs.Embedded.{has_nat}
use Rattle.sg_dispersion_theory.proofs.Terms.{earlier}
use Rattle.sg_first_order_theory.proofs.NonRoot.{nat_apart}
use Rattle.sg_first_order_theory.proofs.Next.{value_char}
use Rattle.sg_first_order_theory.proofs.Bounds.{indicial}

order : (p q : ℕ) → (p ≡ q) ⊎ ((p < q) ⊎ (q < p))
order p q = grind arith

module _ (d : ℕ) where
  pub numeral_same : (i n : ℕ) → nat (ValueR d) i ≡ nat (ValueR d) n → i ≡ n
  numeral_same i n e = go (order i n)
    where
      go : (i ≡ n) ⊎ ((i < n) ⊎ (n < i)) → i ≡ n
      go (inl s) = s
      go (inr (inl l)) = absurd (nat_apart (ValueF d) (value_char d) i n l e)
      go (inr (inr l)) = absurd (nat_apart (ValueF d) (value_char d) n i l (sym e))

  pub number_is : (args : List ℤ) (x : Value d) (q : Value 0) → HasValue d x args q → (n : ℕ) → x ≡ nat (ValueR d) n → q ≡ nat (ValueR 0) n
  number_is args x q h n e = has_unique d args x x q (nat (ValueR 0) n) h (subst (λ (z : Value d). HasValue d z args (nat (ValueR 0) n)) (sym e) (has_nat d args (record { item = x; value = q; has = h }) n))

pub ceiling_is : (c num : ℤ) (den n : ℕ) → num ≤ℤ (c *ℤ pos den) → (c *ℤ pos den) <ℤ (num +ℤ pos den) → fraction_value num den ≡ nat (ValueR 0) n → c ≡ pos n
ceiling_is c num den n low least e = made (pos n *ℤ pos den) (c *ℤ pos den) above
  where
    some : pos 0 <ℤ pos den
    some = omega (arith, ints)

    some_den : 0 < den
    some_den = omega (arith, ints, some)

    above : num ≡ pos n *ℤ pos den
    above = sym (mul-oneℤ num) ∙ same_fraction_value num (pos n) den 1 some_den (omega arith) (e ∙ sym (fraction_value-nat n))

    one_more : (pos n +ℤ pos 1) *ℤ pos den ≡ pos n *ℤ pos den +ℤ pos den
    one_more = omega (arith, ints)

    made : (t s : ℤ) → num ≡ pos n *ℤ pos den → c ≡ pos n
    made t s q = omega (arith, ints, le_of_mul (pos n) c (pos den) (omega (arith, ints, q, low)) some, lt_of_mul c (pos n +ℤ pos 1) (pos den) (omega (arith, ints, q, least, one_more)) some)

module _ {d : ℕ} where
  pub root_is : (m : ℕ) (a b : List (Value d)) (lead x : Value d) → lead ≡ coefficient a m → ¬ (lead ≡ zero_value) → x ≡ (earlier (ValueR d) (coefficient b) m -ᵛ earlier (ValueR d) (coefficient a) m) /ᵛ lead
      → (k : ℕ) → indicial (ValueR d) m a b k ≡ zero_value → x ≡ nat (ValueR d) k
  root_is m a b lead x e ne is k z = is ∙ sym (value_quotient (earlier (ValueR d) (coefficient b) m -ᵛ earlier (ValueR d) (coefficient a) m) lead (nat (ValueR d) k) ne
      (ap (λ y. nat (ValueR d) k *ᵛ y) e ∙ by (ValueR d) (nat (ValueR d) k ∷ coefficient a m ∷ earlier (ValueR d) (coefficient a) m ∷ earlier (ValueR d) (coefficient b) m ∷ []) z (search reads depth 20) refl))
