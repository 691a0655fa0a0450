-- Splitting off ends: each round finds a root more, and a polynomial other than 0 has fewer roots than coefficients.
--   line_is        the coefficients of k - m, where m stands as a fraction
--   root_rest      a linear divisor leaves no rest at its root
--   longer         a list with one item more
--   more_next      the first step finds more, and the others lose nothing
--   roots_fewer    there are fewer roots split off than coefficients
use Rattle.std.proofs.Common.{◌≡◌, ℕ, zero, suc, ◌+◌, ◌<◌, ◌≤◌, refl, sym, ◌∙◌, ap, List, [], ◌∷◌, ◌++◌, map, length, ℤ, ◌⊎◌, inl, inr, arith}
use Rattle.std.proofs.lemmas.List.{length-append}
use Rattle.sg_algebra.specs.Coefficients.{zip_longest, poly_mul, eval}
use Rattle.sg_algebra.proofs.Solver.{ring, by, scale, reads}
use Rattle.sg_algebra.proofs.Evaluation.{eval-mul, eval-add, eval_cong}
use Rattle.sg_algebra.proofs.Degree.{Degree, degree-mul, degree_same}
use Rattle.sg_algebra.proofs.Rows.{at_past}
use Rattle.sg_algebra.proofs.Value.{Value, ◌+ᵛ◌, ◌*ᵛ◌, neg_value, zero_value, one_value}
use Rattle.sg_algebra.proofs.ValueField.{ValueR, ValueF, ValueD, value_one_ne}
use Rattle.sg_algebra.proofs.Rational.{whole_value}
use Rattle.sg_algebra.proofs.Polynomial.{poly, poly_same, coefficient, same_list, poly-mul, poly-add, zero_polynomial, ◌+ᵖ◌, ◌*ᵖ◌}
use Rattle.sg_dispersion_theory.proofs.Listed.{poly_degree}
use Rattle.sg_dispersion_theory.proofs.Splits.{of_roots as roots_list, linear as linear_list}
use Rattle.sg_num.specs.Roots.{IsRoot}
use Rattle.sg_spread.specs.Splits.{linear, of_roots}
use Rattle.sg_spread.proofs.Apart.{listed_roots}
use Rattle.sg_spread.proofs.Parts.{factor_some}

pub longer : (old new : List ℤ) (m : ℤ) → new ≡ old ++ m ∷ [] → length old < length new
longer old new m e = rw e (omega (arith, length-append old (m ∷ [])))

constant_zero : (l : List (Value 0)) (x : Value 0) → length l ≤ 1 → eval (ValueR 0) l x ≡ zero_value → poly l ≡ zero_polynomial
constant_zero [] x s e = refl
constant_zero (c ∷ []) x s e = ap (λ y. poly (y ∷ [])) (by (ValueR 0) (c ∷ x ∷ []) e (search reads depth 16) refl) ∙ poly_same (zero_value ∷ []) [] none
  where
    none : (n : ℕ) → coefficient (zero_value {d = 0} ∷ []) n ≡ coefficient [] n
    none zero = refl
    none (suc n) = refl
constant_zero (c ∷ b ∷ l) x s e = absurd (omega arith)

pub root_rest : (p q f l : List (Value 0)) (m : ℤ) → poly p ≡ poly q *ᵖ poly f +ᵖ poly l → poly f ≡ linear m → length l ≤ 1 → IsRoot p m → poly l ≡ zero_polynomial
root_rest p q f l m e g s root = constant_zero l x s (by (ValueR 0) (eval (ValueR 0) l x ∷ eval (ValueR 0) q x ∷ eval (ValueR 0) f x ∷ []) ((ValueR 0).add_cong (sym value ∙ root) (scale (ValueR 0) (neg_value (eval (ValueR 0) q x)) line)) (search reads depth 20) refl)
  where
    x : Value 0
    x = whole_value 0 m

    divided : List (Value 0)
    divided = zip_longest ◌+ᵛ◌ (poly_mul (ValueR 0) q f) l

    value : eval (ValueR 0) p x ≡ eval (ValueR 0) q x *ᵛ eval (ValueR 0) f x +ᵛ eval (ValueR 0) l x
    value = eval_cong (ValueR 0) p divided x x (same_list p divided (e ∙ sym (poly-add (poly_mul (ValueR 0) q f) l ∙ ap (λ y. y +ᵖ poly l) (poly-mul q f)))) refl
        ∙ eval-add (ValueR 0) (poly_mul (ValueR 0) q f) l x ∙ ap (λ y. y +ᵛ eval (ValueR 0) l x) (eval-mul (ValueR 0) q f x)

    line : eval (ValueR 0) f x ≡ zero_value
    line = eval_cong (ValueR 0) f (neg_value x ∷ one_value ∷ []) x x (same_list f (neg_value x ∷ one_value ∷ []) g) refl ∙ ring (ValueR 0) (x ∷ []) (search reads depth 16) refl

-- ---- As many roots as the degree at most

roots_degree : (r : List ℤ) → Degree (ValueR 0) (length r) (roots_list (ValueF 0) (map (whole_value 0) r))
roots_degree [] = record { lead = value_one_ne 0; ends = past }
  where
    past : (i : ℕ) → 0 < i → coefficient (one_value {d = 0} ∷ []) i ≡ zero_value
    past zero l = absurd (omega arith)
    past (suc i) l = refl
roots_degree (m ∷ r) =
    let one : 1 + length r ≡ suc (length r) = omega arith in
    rw one at (degree-mul (ValueD 0) 1 (length r) (linear_list (ValueF 0) (whole_value 0 m)) (roots_list (ValueF 0) (map (whole_value 0) r)) (record { lead = value_one_ne 0; ends = past (whole_value 0 m) }) (roots_degree r))
  where
    past : (x : Value 0) (i : ℕ) → 1 < i → coefficient (neg_value x ∷ one_value ∷ []) i ≡ zero_value
    past x zero l = absurd (omega arith)
    past x (suc zero) l = absurd (omega arith)
    past x (suc (suc i)) l = refl

pub roots_fewer : (r : List ℤ) (p q : List (Value 0)) → of_roots r *ᵖ poly q ≡ poly p → ¬ (poly p ≡ zero_polynomial) → length r < length p
roots_fewer r p q e some = fewer (length r) (length p) (length r + n.0) (omega arith) (λ h. whole.lead (at_past p (length r + n.0) h))
  where
    list : List (Value 0)
    list = roots_list (ValueF 0) (map (whole_value 0) r)

    n : (k : ℕ) × Degree (ValueR 0) k q
    n = poly_degree q (factor_some (of_roots r) (poly q) (poly p) e some)

    whole : Degree (ValueR 0) (length r + n.0) p
    whole = degree_same (ValueR 0) (length r + n.0) (poly_mul (ValueR 0) list q) p (same_list (poly_mul (ValueR 0) list q) p (poly-mul list q ∙ ap (λ x. x *ᵖ poly q) (sym (listed_roots r)) ∙ e))
        (degree-mul (ValueD 0) (length r) n.0 list q (roots_degree r) n.1)

    fewer : (a b k : ℕ) → a ≤ k → ¬ (b ≤ k) → a < b
    fewer a b k h g = omega (arith, h, g)

pub more_next : (P : Type 0) (i o a b : ℕ) → a ≤ b → (i ≡ 0 → P → o < b) → (0 < i → P → o < a) → P → o < b
more_next P i o a b k first later p = elim (start i) [ inl e ↦ first e p | inr h ↦ (let l = later h p in omega (arith, k, l)) ]
  where
    start : (i : ℕ) → (i ≡ 0) ⊎ (0 < i)
    start i = grind arith
