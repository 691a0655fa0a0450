-- One more sum t, with σ(t) = t + β: polynomials in t over a ring with a shift.
--   above B β                  polynomials with this shift are again a ring with a shift over the same constants
--   differences, opposites, coefficient_at n, monomials n      maps that are linear over the constants
--   monomial n x               x t^n; `monomial-at`, `monomial-past`, `monomial_cong`
--   delta-top, delta-past      the coefficient of σ(g) - g at the degree is that of the difference of the leading coefficient; there is none past it
--   delta-second               the one below
use Rattle.std.proofs.Common.{ℕ, zero, suc, ◌<◌, refl, List, [], ◌∷◌, arith}
use Rattle.sg_algebra.specs.Ring.{Ring}
use Rattle.sg_algebra.specs.Coefficients.{coef}
use Rattle.sg_algebra.proofs.Ring.{nat, mul_O, neg_O}
use Rattle.sg_algebra.proofs.Solver.{ring, by, scale, reads}
use Rattle.sg_algebra.proofs.Divides.{after, on-neg}
use Rattle.sg_algebra.proofs.PolynomialRing.{PolyR, constantH, coef-zip, coef-each, coef-scale}
use Rattle.sg_algebra.proofs.Degree.{Below}
use Rattle.sg_algebra.proofs.Shift.{twist, twistH, twist-top, twist-past, twist-second}
use Rattle.sg_tower_theory.proofs.Difference.{Difference, Linear, delta}

module _ {C R : Ring} (B : Difference C R) (β : R.A) where
  open B use {σ, κ, fixed}
  open R use {A, ◌≈◌, ◌⊞◌, ◌⊠◌, ⊟, O, I, rfl, symm, trans, add_cong, mul_cong, neg_cong, add_O}
  open PolyR R use {◌≈◌ as ◌≋◌, ◌⊞◌ as ◌⊕◌, ◌⊠◌ as ◌⊗◌, ⊟ as ⊖}

  abbrev P : Ring
  P = PolyR R

  pub constant_fixed : (x : A) → σ.on x ≈ x → twist R σ β (x ∷ []) ≋ (x ∷ [])
  constant_fixed x h = record { image = record { at = go } }
    where
      go : (n : ℕ) → coef R (twist R σ β (x ∷ [])) n ≈ coef R (x ∷ []) n
      go zero = trans (twist-top R σ β 0 (x ∷ []) (λ i l. past i l)) h
        where
          past : (i : ℕ) → 0 < i → coef R (x ∷ []) i ≈ O
          past zero l = absurd (omega arith)
          past (suc i) l = rfl
      go (suc n) = twist-past R σ β 0 (x ∷ []) (λ i l. past i l) (suc n) (omega arith)
        where
          past : (i : ℕ) → 0 < i → coef R (x ∷ []) i ≈ O
          past zero l = absurd (omega arith)
          past (suc i) l = rfl

  abbrev pub above : Difference C P
  above = record {
    σ = twistH R σ β;
    κ = after C R P κ (constantH R);
    fixed = λ x. constant_fixed (κ.on x) (fixed x);
  }

  abbrev pub Delta : List A → List A
  Delta g = twist R σ β g ⊕ ⊖ g

  pub Delta-add : (x y : List A) → Delta (x ⊕ y) ≋ Delta x ⊕ Delta y
  Delta-add x y = by P (x ∷ y ∷ twist R σ β x ∷ twist R σ β y ∷ twist R σ β (x ⊕ y) ∷ []) (above.σ.on-add x y) (search reads depth 20) refl

  pub Delta-scale : (c : C.A) (x : List A) → Delta ((κ.on c ∷ []) ⊗ x) ≋ (κ.on c ∷ []) ⊗ Delta x
  Delta-scale c x = by P ((κ.on c ∷ []) ∷ x ∷ twist R σ β x ∷ twist R σ β (κ.on c ∷ []) ∷ twist R σ β ((κ.on c ∷ []) ⊗ x) ∷ [])
      (P.add_cong (above.σ.on-mul (κ.on c ∷ []) x) (scale P (twist R σ β x) (above.fixed c))) (search reads depth 20) refl

  abbrev pub differences : Linear above above
  differences = record { on = Delta; on-add = Delta-add; on-scale = Delta-scale; on-none = P.rfl }

  pub Delta-neg : (x : List A) → Delta (⊖ x) ≋ ⊖ (Delta x)
  Delta-neg x = by P (x ∷ twist R σ β x ∷ twist R σ β (⊖ x) ∷ []) (on-neg P P (twistH R σ β) x) (search reads depth 20) refl

  pub minus-add : (x y : List A) → ⊖ (x ⊕ y) ≋ ⊖ x ⊕ ⊖ y
  minus-add x y = ring P (x ∷ y ∷ []) (search reads depth 16) refl

  pub minus-scale : (c : C.A) (x : List A) → ⊖ ((κ.on c ∷ []) ⊗ x) ≋ (κ.on c ∷ []) ⊗ ⊖ x
  minus-scale c x = ring P ((κ.on c ∷ []) ∷ x ∷ []) (search reads depth 16) refl

  abbrev pub opposites : Linear above above
  opposites = record { on = ⊖; on-add = minus-add; on-scale = minus-scale; on-none = P.rfl }

  abbrev pub coefficient_at : ℕ → Linear above B
  coefficient_at n = record { on = λ x. coef R x n; on-add = λ x y. coef-zip R x y n; on-scale = λ c x. coef-scale R (κ.on c) x n; on-none = rfl }

  -- x t^n
  abbrev pub monomial : ℕ → A → List A
  monomial zero x = x ∷ []
  monomial (suc n) x = O ∷ monomial n x

  pub monomial-at : (n : ℕ) (x : A) → coef R (monomial n x) n ≈ x
  monomial-at zero x = rfl
  monomial-at (suc n) x = monomial-at n x

  pub monomial-past : (n k : ℕ) (x : A) → n < k → coef R (monomial n x) k ≈ O
  monomial-past zero zero x l = absurd (omega arith)
  monomial-past zero (suc k) x l = rfl
  monomial-past (suc n) zero x l = absurd (omega arith)
  monomial-past (suc n) (suc k) x l = monomial-past n k x (omega arith)

  monomial_cong-at : (n : ℕ) (x y : A) → x ≈ y → (k : ℕ) → coef R (monomial n x) k ≈ coef R (monomial n y) k
  monomial_cong-at zero x y h zero = h
  monomial_cong-at zero x y h (suc k) = rfl
  monomial_cong-at (suc n) x y h zero = rfl
  monomial_cong-at (suc n) x y h (suc k) = monomial_cong-at n x y h k

  pub monomial_cong : (n : ℕ) (x y : A) → x ≈ y → monomial n x ≋ monomial n y
  monomial_cong n x y h = record { image = record { at = monomial_cong-at n x y h } }

  monomial-add : (n : ℕ) (x y : A) (k : ℕ) → coef R (monomial n (x ⊞ y)) k ≈ coef R (monomial n x) k ⊞ coef R (monomial n y) k
  monomial-add zero x y zero = rfl
  monomial-add zero x y (suc k) = symm add_O
  monomial-add (suc n) x y zero = symm add_O
  monomial-add (suc n) x y (suc k) = monomial-add n x y k

  monomial-scale : (n : ℕ) (c x : A) (k : ℕ) → coef R (monomial n (c ⊠ x)) k ≈ c ⊠ coef R (monomial n x) k
  monomial-scale zero c x zero = rfl
  monomial-scale zero c x (suc k) = symm (mul_O R)
  monomial-scale (suc n) c x zero = symm (mul_O R)
  monomial-scale (suc n) c x (suc k) = monomial-scale n c x k

  monomial-none : (n k : ℕ) → coef R (monomial n O) k ≈ O
  monomial-none zero zero = rfl
  monomial-none zero (suc k) = rfl
  monomial-none (suc n) zero = rfl
  monomial-none (suc n) (suc k) = monomial-none n k

  pub monomials-add : (n : ℕ) (x y : A) → monomial n (x ⊞ y) ≋ monomial n x ⊕ monomial n y
  monomials-add n x y = record { image = record { at = λ k. trans (monomial-add n x y k) (symm (coef-zip R (monomial n x) (monomial n y) k)) } }

  pub monomials-scale : (n : ℕ) (c : C.A) (x : A) → monomial n (κ.on c ⊠ x) ≋ (κ.on c ∷ []) ⊗ monomial n x
  monomials-scale n c x = record { image = record { at = λ k. trans (monomial-scale n (κ.on c) x k) (symm (coef-scale R (κ.on c) (monomial n x) k)) } }

  pub monomials-none : (n : ℕ) → monomial n O ≋ []
  monomials-none n = record { image = record { at = monomial-none n } }

  abbrev pub monomials : ℕ → Linear B above
  monomials n = record { on = monomial n; on-add = monomials-add n; on-scale = monomials-scale n; on-none = monomials-none n }

  coef-opposite : (g : List A) (n : ℕ) → coef R (⊖ g) n ≈ ⊟ (coef R g n)
  coef-opposite g n = coef-each R ⊟ (neg_O R) g n

  -- the coefficient of the difference at the degree
  pub delta-top : (n : ℕ) (g : List A) → Below R (suc n) g → coef R (Delta g) n ≈ delta B (coef R g n)
  delta-top n g h = trans (coef-zip R (twist R σ β g) (⊖ g) n) (add_cong (twist-top R σ β n g (λ i l. h.none_from i l)) (coef-opposite g n))

  pub delta-past : (n : ℕ) (g : List A) → Below R (suc n) g → Below R (suc n) (Delta g)
  delta-past n g h = record {
    none_from = λ k l. trans (coef-zip R (twist R σ β g) (⊖ g) k) (trans (add_cong (twist-past R σ β n g (λ i q. h.none_from i q) k l) (trans (coef-opposite g k) (trans (neg_cong (h.none_from k l)) (neg_O R)))) add_O);
  }

  pub delta-second : (n : ℕ) (g : List A) → Below R (suc (suc n)) g → coef R (Delta g) n ≈ σ.on (coef R g n) ⊞ β ⊠ (nat R (suc n) ⊠ σ.on (coef R g (suc n))) ⊞ ⊟ (coef R g n)
  delta-second n g b = trans (coef-zip R (twist R σ β g) (⊖ g) n) (add_cong (twist-second R σ β n g (λ i q. b.none_from i q)) (coef-opposite g n))
