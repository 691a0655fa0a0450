-- The shift of Laurent polynomials in x: that of the domain on the coefficients, and x to α x, α a unit.
--   unit_power R α β e     α^e, where β is 1/α
--   scaledH                polynomials: the coefficient at n goes to α^n σ(c)
--   shiftedH               the shift of Laurent polynomials, a map of rings
--   at-shifted             exponent by exponent: the coefficient c at e goes to α^e σ(c)
use Rattle.std.proofs.Common.{ℕ, zero, suc, ◌+◌, refl, List, [], ◌∷◌, map, ℤ, pos, negsuc}
use lib.IntN.{suc_ℤ}
use Rattle.sg_algebra.specs.Ring.{Ring, Domain, Hom}
use Rattle.sg_algebra.specs.Coefficients.{coef}
use Rattle.sg_algebra.proofs.Ring.{pow, pow-add, mul_O, O_mul, O_add, I_mul}
use Rattle.sg_algebra.proofs.Solver.{ring, by, scale, reads}
use Rattle.sg_algebra.proofs.Divides.{after, on-O}
use Rattle.sg_algebra.proofs.PolynomialRing.{PolyR, X, constantH, coef-zip, coef-each, coef-scale}
use Rattle.sg_algebra.proofs.Evaluation.{evalH, value-constant}
use Rattle.sg_tower_theory.proofs.Laurent.{Laurent, LaurentR, equal, polynomialH, constantsH}
use Rattle.sg_tower_theory.proofs.LaurentCoefficients.{up, fetch, fetch_cong, fetch-scale, at, at_cong, same_at, at-add}

module _ (R : Ring) (α β : R.A) where
  open R use {A, ◌≈◌, ◌⊞◌, ◌⊠◌, ⊟, O, I, rfl, symm, trans, mul_cong}

  abbrev pub unit_power : ℤ → A
  unit_power (pos n) = pow R α n
  unit_power (negsuc n) = pow R β (suc n)

  module _ (unit : α ⊠ β ≈ I) where
    pub unit_power-suc : (e : ℤ) → unit_power (suc_ℤ e) ≈ unit_power e ⊠ α
    unit_power-suc (pos n) = rfl
    unit_power-suc (negsuc zero) = by R (α ∷ β ∷ []) (R.symm unit) (search reads depth 16) refl
    unit_power-suc (negsuc (suc n)) = by R (α ∷ β ∷ pow R β n ∷ []) (scale R (⊟ (pow R β n ⊠ β)) unit) (search reads depth 16) refl

    -- β^m α^(e + m) = α^e
    pub unit_power-up : (m : ℕ) (e : ℤ) → pow R β m ⊠ unit_power (up m e) ≈ unit_power e
    unit_power-up zero e = I_mul R
    unit_power-up (suc m) e = trans (mul_cong rfl (unit_power-suc (up m e)))
        (trans (step (pow R β m) (unit_power (up m e))) (unit_power-up m e))
      where
        step : (b u : A) → (b ⊠ β) ⊠ (u ⊠ α) ≈ b ⊠ u
        step b u = by R (α ∷ β ∷ b ∷ u ∷ []) (scale R (b ⊠ u) unit) (search reads depth 16) refl

module _ (D : Domain) (σ : Hom D.R D.R) (α β : D.R.A) (unit : D.R.◌≈◌ (D.R.◌⊠◌ α β) D.R.I) where
  open D use {R}
  open R use {A, ◌≈◌, ◌⊞◌, ◌⊠◌, ⊟, O, I, rfl, symm, trans, add_cong, mul_cong, add_O, mul_I}
  open PolyR R use {◌≈◌ as ◌≋◌, ◌⊞◌ as ◌⊕◌, ◌⊠◌ as ◌⊗◌, ⊟ as ⊖}

  abbrev P : Ring
  P = PolyR R

  abbrev L : Ring
  L = LaurentR D

  abbrev pub scaledH : Hom P P
  scaledH = evalH R P (after R R P σ (constantH R)) (O ∷ α ∷ [])

  point-0 : (q : List A) → coef R ((O ∷ α ∷ []) ⊗ q) 0 ≈ O
  point-0 q = trans (coef-zip R (map (◌⊠◌ O) q) (O ∷ ((α ∷ []) ⊗ q)) 0) (trans (add_cong (trans (coef-each R (◌⊠◌ O) (mul_O R) q 0) (O_mul R)) rfl) add_O)

  point-suc : (q : List A) (n : ℕ) → coef R ((O ∷ α ∷ []) ⊗ q) (suc n) ≈ α ⊠ coef R q n
  point-suc q n = trans (coef-zip R (map (◌⊠◌ O) q) (O ∷ ((α ∷ []) ⊗ q)) (suc n))
      (trans (add_cong (trans (coef-each R (◌⊠◌ O) (mul_O R) q (suc n)) (O_mul R)) (coef-scale R α q n)) (O_add R))

  pub scaled-coef : (p : List A) (n : ℕ) → coef R (scaledH.on p) n ≈ pow R α n ⊠ σ.on (coef R p n)
  scaled-coef [] n = symm (trans (mul_cong rfl (on-O R R σ)) (mul_O R))
  scaled-coef (a ∷ p) zero = trans (coef-zip R (σ.on a ∷ []) ((O ∷ α ∷ []) ⊗ scaledH.on p) 0) (trans (add_cong rfl (point-0 (scaledH.on p))) (trans add_O (symm (I_mul R))))
  scaled-coef (a ∷ p) (suc n) = trans (coef-zip R (σ.on a ∷ []) ((O ∷ α ∷ []) ⊗ scaledH.on p) (suc n))
      (trans (O_add R) (trans (point-suc (scaledH.on p) n) (trans (mul_cong rfl (scaled-coef p n)) (step (pow R α n) (σ.on (coef R p n))))))
    where
      step : (a s : A) → α ⊠ (a ⊠ s) ≈ (a ⊠ α) ⊠ s
      step a s = ring R (α ∷ a ∷ s ∷ []) (search reads depth 16) refl

  fetch-scaled : (p : List A) (e : ℤ) → fetch R (scaledH.on p) e ≈ unit_power R α β e ⊠ σ.on (fetch R p e)
  fetch-scaled p (pos n) = scaled-coef p n
  fetch-scaled p (negsuc n) = symm (trans (mul_cong rfl (on-O R R σ)) (mul_O R))

  fetch-pow : (q : List A) (m : ℕ) (e : ℤ) → fetch R (q ⊗ pow P (β ∷ []) m) e ≈ pow R β m ⊠ fetch R q e
  fetch-pow q zero e = trans (fetch_cong R (q ⊗ (I ∷ [])) q P.mul_I e) (symm (I_mul R))
  fetch-pow q (suc m) e = trans (fetch_cong R (q ⊗ (pow P (β ∷ []) m ⊗ (β ∷ []))) ((β ∷ []) ⊗ (q ⊗ pow P (β ∷ []) m)) moved e)
      (trans (fetch-scale R β (q ⊗ pow P (β ∷ []) m) e) (trans (mul_cong rfl (fetch-pow q m e)) (step (pow R β m) (fetch R q e))))
    where
      moved : q ⊗ (pow P (β ∷ []) m ⊗ (β ∷ [])) ≋ (β ∷ []) ⊗ (q ⊗ pow P (β ∷ []) m)
      moved = ring P (q ∷ pow P (β ∷ []) m ∷ (β ∷ []) ∷ []) (search reads depth 16) refl

      step : (b x : A) → β ⊠ (b ⊠ x) ≈ (b ⊠ β) ⊠ x
      step b x = ring R (β ∷ b ∷ x ∷ []) (search reads depth 16) refl

  abbrev pub shifted : Laurent D → Laurent D
  shifted x = record { poly = scaledH.on x.poly ⊗ pow P (β ∷ []) x.lag; lag = x.lag }

  -- exponent by exponent
  pub at-shifted : (x : Laurent D) (e : ℤ) → at D e (shifted x) ≈ unit_power R α β e ⊠ σ.on (at D e x)
  at-shifted x e = trans (fetch-pow (scaledH.on x.poly) x.lag (up x.lag e))
      (trans (mul_cong rfl (fetch-scaled x.poly (up x.lag e)))
      (trans (symm R.mul_assoc) (mul_cong (unit_power-up R α β unit x.lag e) rfl)))

  pub shifted_cong : (x y : Laurent D) → L.◌≈◌ x y → L.◌≈◌ (shifted x) (shifted y)
  shifted_cong x y h = same_at D (shifted x) (shifted y) (λ e. trans (at-shifted x e) (trans (mul_cong rfl (σ.on_cong (at D e x) (at D e y) (at_cong D x y h e))) (symm (at-shifted y e))))

  pub shifted-add : (x y : Laurent D) → L.◌≈◌ (shifted (L.◌⊞◌ x y)) (L.◌⊞◌ (shifted x) (shifted y))
  shifted-add x y = same_at D (shifted (L.◌⊞◌ x y)) (L.◌⊞◌ (shifted x) (shifted y)) (λ e.
      trans (at-shifted (L.◌⊞◌ x y) e)
      (trans (mul_cong rfl (trans (σ.on_cong (at D e (L.◌⊞◌ x y)) (at D e x ⊞ at D e y) (at-add D x y e)) (σ.on-add (at D e x) (at D e y))))
      (trans R.distrib (symm (trans (at-add D (shifted x) (shifted y) e) (add_cong (at-shifted x e) (at-shifted y e)))))))

  pub shifted-mul : (x y : Laurent D) → L.◌≈◌ (shifted (L.◌⊠◌ x y)) (L.◌⊠◌ (shifted x) (shifted y))
  shifted-mul x y = equal D (shifted (L.◌⊠◌ x y)) (L.◌⊠◌ (shifted x) (shifted y))
      (P.mul_cong (P.trans (P.mul_cong (scaledH.on-mul x.poly y.poly) (pow-add P (β ∷ []) x.lag y.lag)) (step (scaledH.on x.poly) (scaledH.on y.poly) (pow P (β ∷ []) x.lag) (pow P (β ∷ []) y.lag))) (P.rfl {x = pow P (X R) (x.lag + y.lag)}))
    where
      step : (a b c d : List A) → (a ⊗ b) ⊗ (c ⊗ d) ≋ (a ⊗ c) ⊗ (b ⊗ d)
      step a b c d = ring P (a ∷ b ∷ c ∷ d ∷ []) (search reads depth 16) refl

  pub shifted-one : L.◌≈◌ (shifted L.I) L.I
  shifted-one = equal D (shifted L.I) L.I (P.mul_cong {u = I ∷ []} {v = I ∷ []} (P.trans P.mul_I scaledH.on-one) P.rfl)

  abbrev pub shiftedH : Hom L L
  shiftedH = record { on = shifted; on_cong = shifted_cong; on-add = shifted-add; on-mul = shifted-mul; on-one = shifted-one }

  -- an element of the domain goes where σ sends it
  pub shifted-constant : (c : A) → L.◌≈◌ (shifted ((constantsH D).on c)) ((constantsH D).on (σ.on c))
  shifted-constant c = (polynomialH D).on_cong (scaledH.on (c ∷ []) ⊗ (I ∷ [])) (σ.on c ∷ []) (P.trans P.mul_I (value-constant R P (after R R P σ (constantH R)) (O ∷ α ∷ []) c))
