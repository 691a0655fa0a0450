-- Division with remainder of rows, from the last coefficient of the dividend on.
--   Dividing v m w p quotient rest    p is quotient times w plus rest, and rest has m items
--   dividing_start     m items are their own rest
--   dividing_more      one coefficient more: the rest, behind it, less the multiple of w that takes its last coefficient away
use Rattle.std.proofs.Common.{◌≡◌, ℕ, suc, ◌<◌, ◌≤◌, refl, sym, ◌∙◌, List, [], ◌∷◌, ◌++◌, map, length, reverse, ◌⊎◌, inl, inr, arith}
use Rattle.std.proofs.lemmas.List.{reverse-append}
use Rattle.sg_algebra.proofs.Lists.{length_map}
use Rattle.sg_algebra.proofs.Solver.{ring, by, scale, reads}
use Rattle.sg_algebra.proofs.Value.{Value, zero_value, ◌-ᵛ◌, ◌*ᵛ◌, ◌/ᵛ◌, inv_value}
use Rattle.sg_algebra.proofs.ValueField.{ValueR, value_product}
use Rattle.sg_algebra.proofs.Polynomial.{Polynomial, PolynomialR, poly, poly_same, constant, coefficient, zero_polynomial, ◌+ᵖ◌, ◌-ᵖ◌, ◌*ᵖ◌}
use Rattle.sg_algebra.proofs.Rows.{Builds, past_row, at_past}
use Rattle.sg_poly.proofs.Joined.{variable, poly-cons, less, poly-less, less-at}

step : {d : ℕ} (pa p c x q w r tq t n ra : Polynomial d) → pa ≡ c +ᵖ x *ᵖ p → p ≡ q *ᵖ w +ᵖ r → tq ≡ t +ᵖ x *ᵖ q → ra ≡ c +ᵖ x *ᵖ r → n ≡ ra -ᵖ t *ᵖ w → pa ≡ tq *ᵖ w +ᵖ n
step {d} pa p c x q w r tq t n ra e f g h k =
    by (PolynomialR d) (pa ∷ p ∷ c ∷ x ∷ q ∷ w ∷ r ∷ tq ∷ t ∷ n ∷ ra ∷ [])
    ((PolynomialR d).add_cong e ((PolynomialR d).add_cong (scale (PolynomialR d) x f) ((PolynomialR d).neg_cong ((PolynomialR d).add_cong (scale (PolynomialR d) w g) ((PolynomialR d).add_cong h k))))) (search reads depth 24 fits 8000) refl

vanishes : {d : ℕ} (a b t : Value d) → ¬ (b ≡ zero_value) → t ≡ a /ᵛ b → a -ᵛ t *ᵛ b ≡ zero_value
vanishes {d} a b t n e = by (ValueR d) (a ∷ b ∷ t ∷ inv_value b ∷ []) ((ValueR d).neg_cong ((ValueR d).add_cong (scale (ValueR d) b e) (value_product a b n))) (search reads depth 20 fits 4000) refl

nothing : {d : ℕ} (a t b : Value d) → a ≡ zero_value → b ≡ zero_value → a -ᵛ t *ᵛ b ≡ zero_value
nothing {d} a t b e h = by (ValueR d) (a ∷ t ∷ b ∷ []) ((ValueR d).add_cong e ((ValueR d).neg_cong (scale (ValueR d) t h))) (search reads depth 16) refl

no_quotient : {d : ℕ} (w r : Polynomial d) → r ≡ zero_polynomial *ᵖ w +ᵖ r
no_quotient {d} w r = ring (PolynomialR d) (w ∷ r ∷ []) (search reads depth 12) refl

three : (k m : ℕ) → (k < m) ⊎ ((k ≡ m) ⊎ (suc m ≤ k))
three k m = grind arith

module _ {K : Type 0} {d : ℕ} (v : K → Value d) where
  pub record Dividing (m : ℕ) (w p : List (Value d)) (quotient rest : List K) : Type 0 where
    pub size : length rest ≡ m
    pub is : poly p ≡ poly (map v quotient) *ᵖ poly w +ᵖ poly (map v rest)

  pub dividing_start : (m : ℕ) (w : List (Value d)) (p quotient rest : List K) → quotient ≡ [] → length rest ≡ m → poly (map v rest) ≡ poly (map v p) → Dividing m w (map v p) (reverse quotient) rest
  dividing_start m w p quotient rest q s e = rw q (record { size = s; is = sym e ∙ no_quotient (poly w) (poly (map v rest)) })

  dividing_added : (m : ℕ) (w p : List (Value d)) (quotient rest new : List K) (a t : K) → length w ≡ suc m → ¬ (coefficient w m ≡ zero_value) → Dividing m w p quotient rest
      → v t ≡ coefficient (v a ∷ map v rest) m /ᵛ coefficient w m → Builds v (λ k. coefficient (v a ∷ map v rest) k -ᵛ v t *ᵛ coefficient w k) m new → Dividing m w (v a ∷ p) (t ∷ quotient) new
  dividing_added m w p quotient rest new a t e n b s f = record {
    size = f.size;
    is = step (poly (v a ∷ p)) (poly p) (constant (v a)) variable (poly (map v quotient)) (poly w) (poly (map v rest)) (poly (map v (t ∷ quotient))) (constant (v t)) (poly (map v new)) (poly (v a ∷ map v rest))
        (poly-cons (v a) p) b.is (poly-cons (v t) (map v quotient)) (poly-cons (v a) (map v rest))
        (poly_same (map v new) (less (v a ∷ map v rest) (v t) w) (λ k. go k ∙ sym (less-at (v a ∷ map v rest) (v t) w k)) ∙ poly-less (v a ∷ map v rest) (v t) w);
  }
    where
      past : (k : ℕ) → suc m ≤ k → coefficient (v a ∷ map v rest) k -ᵛ v t *ᵛ coefficient w k ≡ zero_value
      past k g = nothing (coefficient (v a ∷ map v rest) k) (v t) (coefficient w k) (at_past (v a ∷ map v rest) k (omega (arith, b.size, length_map v rest))) (at_past w k (omega arith))

      go : (k : ℕ) → coefficient (map v new) k ≡ coefficient (v a ∷ map v rest) k -ᵛ v t *ᵛ coefficient w k
      go k = elim (three k m) [
        | inl l ↦ f.built k l
        | inr o ↦ past_row v new k (omega (arith, f.size)) ∙ sym (elim o [
          | inl h ↦ rw h (vanishes (coefficient (v a ∷ map v rest) m) (coefficient w m) (v t) n s)
          | inr h ↦ past k h
        ])
      ]

  reversed : (xs : List K) (t : K) → reverse (xs ++ t ∷ []) ≡ t ∷ reverse xs
  reversed xs t = reverse-append xs (t ∷ [])

  -- the quotient's coefficients are kept the highest first
  pub dividing_more : (m : ℕ) (w p : List (Value d)) (quotient longer rest new : List K) (a t : K) → length w ≡ suc m → ¬ (coefficient w m ≡ zero_value) → Dividing m w p (reverse quotient) rest
      → v t ≡ coefficient (v a ∷ map v rest) m /ᵛ coefficient w m → Builds v (λ k. coefficient (v a ∷ map v rest) k -ᵛ v t *ᵛ coefficient w k) m new → longer ≡ quotient ++ t ∷ [] → Dividing m w (v a ∷ p) (reverse longer) new
  dividing_more m w p quotient longer rest new a t e n b s f h = rw (h, reversed quotient t) (dividing_added m w p (reverse quotient) rest new a t e n b s f)

  -- a dividend that is shorter than the divisor
  pub not_divided : (p w quotient rest : List K) → quotient ≡ [] → poly (map v rest) ≡ poly (map v p) → poly (map v p) ≡ poly (map v quotient) *ᵖ poly (map v w) +ᵖ poly (map v rest)
  not_divided p w quotient rest q e = rw q (sym e ∙ no_quotient (poly (map v w)) (poly (map v rest)))
