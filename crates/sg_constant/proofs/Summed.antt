-- A polynomial y with a y(k+1) - y = p, one term after the other.
--   power_top, power_past    the coefficients of c k^n
--   row_past              no coefficient past the length
--   term_summed, term_divided    the first terms
--   summed_none, summed_more, summed_end    the sum of the terms, in the beginning, with one more, and in the end
--   rest_smaller          what is left gets smaller
use Rattle.std.proofs.Common.{◌≡◌, ℕ, zero, suc, ◌-◌, ◌≤◌, ◌<◌, refl, sym, ◌∙◌, ap, ap₂, subst, List, [], ◌∷◌, ◌++◌, length, map, get_or, replicate, arith}
use Rattle.sg_algebra.proofs.Lists.{length_map}
use Rattle.sg_algebra.proofs.Ring.{nat}
use Rattle.sg_algebra.proofs.Rows.{at_past, at_read}
use Rattle.sg_algebra.proofs.Solver.{by, scale, reads}
use Rattle.sg_algebra.proofs.Degree.{Degree, size_below}
use Rattle.sg_algebra.proofs.Value.{Value, zero_value, one_value, ◌-ᵛ◌, ◌*ᵛ◌, ◌/ᵛ◌}
use Rattle.sg_algebra.proofs.ValueField.{ValueR, value_is_zero, value_product, value_mul_comm}
use Rattle.sg_algebra.proofs.Embedding.{numeral_ne}
use Rattle.sg_algebra.proofs.Polynomial.{Polynomial, PolynomialR, poly, coefficient, constant, EndsNonzero, zero_polynomial, one_polynomial, ◌+ᵖ◌, ◌-ᵖ◌, ◌*ᵖ◌, neg_polynomial}
use Rattle.sg_first_order_theory.proofs.Next.{next, next-add, next-zero}
use Rattle.sg_reduction_theory.proofs.Leading.{IsTerm, IsLeading, falls}
use Rattle.sg_constant.specs.Shares.{size}
use Rattle.sg_constant.proofs.Taken.{size_degree}

module _ {K : Type 0} {d : ℕ} (v : K → Value d) where
  pub row_past : (xs : List K) (n i : ℕ) → length xs ≡ suc n → n < i → coefficient (map v xs) i ≡ zero_value
  row_past xs n i e l = at_past (map v xs) i (late (length (map v xs)) (length xs) (length_map v xs) e l)
    where
      late : (a b : ℕ) → a ≡ b → b ≡ suc n → n < i → a ≤ i
      late a b h k l = omega (arith, h, k, l)

module _ {d : ℕ} where
  pub power_top : (n : ℕ) (c : Value d) → coefficient (replicate n zero_value ++ c ∷ []) n ≡ c
  power_top zero c = refl
  power_top (suc n) c = power_top n c

  pub power_past : (n i : ℕ) (c : Value d) → n < i → coefficient (replicate n zero_value ++ c ∷ []) i ≡ zero_value
  power_past zero zero c l = absurd (omega arith)
  power_past zero (suc i) c l = refl
  power_past (suc n) zero c l = absurd (omega arith)
  power_past (suc n) (suc i) c l = power_past n i c (omega arith)

  pub term_summed : (n : ℕ) (m q c : Value d) (t : List (Value d)) → m ≡ nat (ValueR d) (suc n) → q ≡ c /ᵛ m → coefficient t (suc n) ≡ q → ((i : ℕ) → suc n < i → coefficient t i ≡ zero_value) → IsTerm (suc n) (nat (ValueR d) (suc n)) c t
  term_summed n m q c t em eq top past = record { is = ap₂ ◌*ᵛ◌ (sym em) (top ∙ eq) ∙ value_mul_comm d m (c /ᵛ m) ∙ value_product c m (λ z. numeral_ne d (suc n) (omega arith) (sym em ∙ z)); past = past }

  pub term_divided : (n : ℕ) (b q c : Value d) (t : List (Value d)) → ¬ (b ≡ zero_value) → q ≡ c /ᵛ b → coefficient t n ≡ q → ((i : ℕ) → n < i → coefficient t i ≡ zero_value) → IsTerm n b c t
  term_divided n b q c t ne eq top past = record { is = ap (λ x. b *ᵛ x) (top ∙ eq) ∙ value_mul_comm d b (c /ᵛ b) ∙ value_product c b ne; past = past }

  pub summed_none : (a : Value d) (p y r : Polynomial d) → y ≡ zero_polynomial → r ≡ p → p ≡ r +ᵖ (constant a *ᵖ next y -ᵖ y)
  summed_none a p y r ey er = by (PolynomialR d) (constant a ∷ p ∷ y ∷ r ∷ next y ∷ [])
      ((PolynomialR d).add_cong (scale (PolynomialR d) (neg_polynomial one_polynomial) er) ((PolynomialR d).add_cong (scale (PolynomialR d) (neg_polynomial (constant a)) (ap next ey ∙ next-zero)) ey)) (search reads depth 20 fits 4000) refl

  pub summed_more : (a : Value d) (p y r t y' r' : Polynomial d) → p ≡ r +ᵖ (constant a *ᵖ next y -ᵖ y) → y' ≡ y +ᵖ t → r' ≡ r -ᵖ (constant a *ᵖ next t -ᵖ t) → p ≡ r' +ᵖ (constant a *ᵖ next y' -ᵖ y')
  summed_more a p y r t y' r' h ey er = by (PolynomialR d) (constant a ∷ p ∷ y ∷ r ∷ t ∷ y' ∷ r' ∷ next y ∷ next t ∷ next y' ∷ [])
      ((PolynomialR d).add_cong h ((PolynomialR d).add_cong (scale (PolynomialR d) (neg_polynomial one_polynomial) er) ((PolynomialR d).add_cong ey (scale (PolynomialR d) (neg_polynomial (constant a)) (ap next ey ∙ next-add y t))))) (search reads depth 24 fits 8000) refl

  pub summed_end : (a : Value d) (p y r : Polynomial d) → p ≡ r +ᵖ (constant a *ᵖ next y -ᵖ y) → r ≡ zero_polynomial → constant a *ᵖ next y -ᵖ y ≡ p
  summed_end a p y r h e = by (PolynomialR d) (constant a ∷ p ∷ y ∷ r ∷ next y ∷ []) ((PolynomialR d).add_cong (scale (PolynomialR d) (neg_polynomial one_polynomial) h) (scale (PolynomialR d) (neg_polynomial one_polynomial) e)) (search reads depth 20 fits 4000) refl

module _ {K : Type 0} {d : ℕ} (v : K → Value d) where
  last_degree : (p : List K) (n : ℕ) → length p ≡ suc n → EndsNonzero (map v p) → Degree (ValueR d) n (map v p)
  last_degree p n e ends = record { lead = ends n (length_map v p ∙ e); ends = λ i l. row_past v p n i e l }

  pub rest_smaller : (a b : Value d) (p t r : List K) → b ≡ a -ᵛ one_value → 0 < length p → EndsNonzero (map v p) → IsLeading (length p - 1) b (coefficient (map v p) (length p - 1)) (map v t)
      → poly (map v r) ≡ poly (map v p) -ᵖ (constant a *ᵖ next (poly (map v t)) -ᵖ poly (map v t)) → size (map v r) < size (map v p)
  rest_smaller a b p t r eb l ends lead e = less (size (map v r)) (size (map v p)) (length p - 1)
      (size_below (ValueR d) (value_is_zero d) (map v r) (length p - 1) (falls a b (map v p) (map v t) (map v r) (length p - 1) eb (record { none_from = λ i k. row_past v p (length p - 1) i is k }) lead e))
      (size_degree (length p - 1) (map v p) (last_degree p (length p - 1) is ends))
    where
      before : (n : ℕ) → 0 < n → n ≡ suc (n - 1)
      before n l = omega (arith, l)

      is : length p ≡ suc (length p - 1)
      is = before (length p) l

      less : (x y n : ℕ) → x ≤ n → y ≡ suc n → x < y
      less x y n h k = omega (arith, h, k)

  pub nothing_left : (p l : List K) → l ≡ p → length l ≤ 0 → poly (map v p) ≡ zero_polynomial
  nothing_left p l e h = short p (subst (λ (z : List K). length z ≤ 0) e h)
    where
      short : (p : List K) → length p ≤ 0 → poly (map v p) ≡ zero_polynomial
      short [] h = refl
      short (x ∷ p) h = absurd (omega (arith, h))

  pub leading_at : (p l : List K) (x : K) (b : Value d) (t : List (Value d)) (n : ℕ) → 0 < length p → l ≡ p → n ≡ length l - 1 → x ≡ get_or l n x → IsLeading n b (v x) t → IsLeading (length p - 1) b (coefficient (map v p) (length p - 1)) t
  leading_at p l x b t n h e en is lead = subst (λ (c : Value d). IsLeading (length p - 1) b c t) (sym (at_read v p (length p - 1) x (inside (length p) h) (is ∙ ap₂ (λ (z : List K) (i : ℕ). get_or z i x) e same))) (subst (λ (i : ℕ). IsLeading i b (v x) t) same lead)
    where
      inside : (n : ℕ) → 0 < n → n - 1 < n
      inside n h = omega (arith, h)

      same : n ≡ length p - 1
      same = en ∙ ap (λ (z : List K). length z - 1) e
