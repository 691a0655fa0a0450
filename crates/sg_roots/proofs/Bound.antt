-- No root of a polynomial other than 0 with small coefficients is far from 0.
--   reached            so 2^125 is a bound
--   some_coefficient   whole coefficients of a polynomial other than 0 aren't all 0
use Rattle.std.proofs.Common.{◌≡◌, ◌≢◌, ℕ, zero, suc, ◌*◌, ◌<◌, ◌≤◌, refl, sym, ◌∙◌, ap, subst, List, [], ◌∷◌, map, ℤ, pos, ◌+ℤ◌, ◌*ℤ◌, unsigned_abs, All, ◌⊎◌, inl, inr, arith}
use Rattle.std.proofs.lemmas.Int.{ints, unsigned_abs-mul}
use Rattle.sg_algebra.specs.Coefficients.{Each}
use Rattle.sg_algebra.proofs.Solver.{ring}
use Rattle.sg_algebra.proofs.Whole.{ℤR, readsℤ}
use Rattle.sg_algebra.proofs.Embedding.{whole_value_zero}
use Rattle.sg_algebra.proofs.Polynomial.{poly, poly_same, coefficient, zero_polynomial}
use Rattle.sg_algebra.proofs.Rational.{whole_value}
use Rattle.sg_algebra.proofs.Value.{Value, ◌*ᵛ◌, zero_value}
use Rattle.sg_algebra.proofs.ValueField.{ValueD, mul_zero_value}
use Rattle.sg_num.specs.Value.{number}
use Rattle.sg_num.specs.declared.rat.Rat.{Rat}
use Rattle.sg_num.specs.Roots.{whole_at, IsBound}
use Rattle.sg_roots.specs.Signs.{IsSmall, reach}

-- all coefficients are 0, or the value isn't
module _ (b : ℕ) (m : ℤ) (big : b ≤ unsigned_abs m) where
  first : (x : ℤ) → (x ≡ pos 0) ⊎ (1 ≤ unsigned_abs x)
  first x = grind (arith, ints)

  only : (x v : ℤ) → v ≡ pos 0 → x +ℤ m *ℤ v ≡ x
  only x v e = ap (λ v. x +ℤ m *ℤ v) e ∙ ring ℤR (x ∷ m ∷ []) (search readsℤ depth 16) refl

  away : (x v : ℤ) → unsigned_abs x < b → 1 ≤ unsigned_abs v → 1 ≤ unsigned_abs (x +ℤ m *ℤ v)
  away x v small some = let p = size (unsigned_abs v) (unsigned_abs m) some in let e = unsigned_abs-mul m v in near x (m *ℤ v) (omega (arith, p, e))
    where
      size : (s t : ℕ) → 1 ≤ s → t ≤ t * s
      size zero t h = absurd (omega arith)
      size (suc s) t h = omega arith

      near : (x y : ℤ) → unsigned_abs x < unsigned_abs y → 1 ≤ unsigned_abs (x +ℤ y)
      near x y h = omega (arith, ints)

  values : (c : List ℤ) → Each (λ x. unsigned_abs x < b) c → (Each (λ x. x ≡ pos 0) c × (whole_at c m ≡ pos 0)) ⊎ (1 ≤ unsigned_abs (whole_at c m))
  values [] h = inl (tt, refl)
  values (x ∷ c) h = elim (values c h.1) [
    | inl z ↦ elim (first x) [
      | inl e ↦ inl ((e, z.0), only x (whole_at c m) z.1 ∙ e)
      | inr s ↦ inr (subst (λ y. 1 ≤ unsigned_abs y) (sym (only x (whole_at c m) z.1)) s)
    ]
    | inr s ↦ inr (away x (whole_at c m) h.0 s)
  ]

each_of : (P Q : ℤ → Type 0) → ((x : ℤ) → P x → Q x) → (c : List ℤ) → All P c → Each Q c
each_of P Q f [] h = tt
each_of P Q f (x ∷ c) h = (f x (h 0 x (omega arith)), each_of P Q f c (λ k d l. h (suc k) d (omega arith)))

pub reached : (c : List ℤ) → All IsSmall c → ¬ Each (λ x. x ≡ pos 0) c → IsBound c reach
reached c small some = record {
  away = λ m big z. elim (values reach m big c (each_of IsSmall (λ x. unsigned_abs x < reach) below c small)) [
    | inl e ↦ some e.0
    | inr h ↦ none (whole_at c m) h z
  ];
}
  where
    below : (x : ℤ) → unsigned_abs x * 2 ≤ reach → unsigned_abs x < reach
    below x h = omega arith

    none : (x : ℤ) → 1 ≤ unsigned_abs x → x ≡ pos 0 → ⊥
    none x h e = omega (arith, ints)

module _ (l : ℤ) (ne : l ≢ pos 0) where
  no_value : (x : ℤ) (v : Value 0) → whole_value 0 x ≡ whole_value 0 l *ᵛ v → x ≡ pos 0 → v ≡ zero_value
  no_value x v e z = (ValueD 0).cancel_mul {c = whole_value 0 l} {x = v} {y = zero_value} (λ h. ne (whole_value_zero 0 l h)) (sym e ∙ ap (whole_value 0) z ∙ sym (mul_zero_value (whole_value 0 l)))

  no_coefficient : (c : List ℤ) (list : List Rat) → map (whole_value 0) c ≡ map (λ r. whole_value 0 l *ᵛ number r) list → Each (λ x. x ≡ pos 0) c → (n : ℕ) → coefficient (map number list) n ≡ zero_value
  no_coefficient [] [] e h n = refl
  no_coefficient [] (r ∷ list) e h n = absurd (cc)
  no_coefficient (x ∷ c) [] e h n = absurd (cc)
  no_coefficient (x ∷ c) (r ∷ list) e h zero = no_value x (number r) (cc) h.0
  no_coefficient (x ∷ c) (r ∷ list) e h (suc n) = no_coefficient c list (cc) h.1 n

  pub some_coefficient : (c : List ℤ) (list : List Rat) → map (whole_value 0) c ≡ map (λ r. whole_value 0 l *ᵛ number r) list → ¬ (poly (map number list) ≡ zero_polynomial) → ¬ Each (λ x. x ≡ pos 0) c
  some_coefficient c list e some h = some (poly_same (map number list) [] (no_coefficient c list e h))
