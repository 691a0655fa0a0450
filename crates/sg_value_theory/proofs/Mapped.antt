-- Polynomials with the coefficients mapped into another ring.
--   coef-map       the coefficient is mapped
--   mapH           it is a map of rings
--   map_same       what keeps coefficients apart keeps polynomials apart
--   map-twist      it commutes with the shift of a sum
--   twist_keeps    that shift takes no element to zero but zero, if the shift of the coefficients is so
use Rattle.std.proofs.Common.{◌≡◌, ℕ, zero, suc, refl, ap, List, [], ◌∷◌, map, inl, inr}
use Rattle.sg_algebra.specs.Ring.{Ring, Domain, Hom}
use Rattle.sg_algebra.specs.Coefficients.{coef, horner}
use Rattle.sg_algebra.proofs.Divides.{on-O}
use Rattle.sg_algebra.proofs.Series.{series_mul, series_mul_cong}
use Rattle.sg_algebra.proofs.PolynomialRing.{PolyR, cons_cong, one_coefficient, coef-zip, coef-mul}
use Rattle.sg_algebra.proofs.Horner.{horner_cong, hom-horner}
use Rattle.sg_algebra.proofs.Degree.{Degree, degree_or_zero}
use Rattle.sg_algebra.proofs.Shift.{twist, twist-top}

module _ (R S : Ring) (f : Hom R S) where
  open R use {A}
  open S use {◌≈◌, symm, trans, add_cong, mul_cong}
  open PolyR S use {◌≈◌ as ◌≋◌, ◌⊞◌ as ◌⊕◌, ◌⊠◌ as ◌⊗◌}

  pub coef-map : (p : List A) (n : ℕ) → coef S (map f.on p) n ≈ f.on (coef R p n)
  coef-map [] n = symm (on-O R S f)
  coef-map (a ∷ p) zero = S.rfl
  coef-map (a ∷ p) (suc n) = coef-map p n

  series : (u w : ℕ → A) (n : ℕ) → f.on (series_mul R u w n) ≈ series_mul S (λ i. f.on (u i)) (λ i. f.on (w i)) n
  series u w zero = f.on-mul (u 0) (w 0)
  series u w (suc n) = trans (f.on-add (R.◌⊠◌ (u 0) (w (suc n))) (series_mul R (λ i. u (suc i)) w n)) (add_cong (f.on-mul (u 0) (w (suc n))) (series (λ i. u (suc i)) w n))

  pub map_cong : (p q : List A) → (PolyR R).◌≈◌ p q → map f.on p ≋ map f.on q
  map_cong p q h = record { image = record { at = λ n. trans (coef-map p n) (trans (f.on_cong (coef R p n) (coef R q n) (h.image.at n)) (symm (coef-map q n))) } }

  pub map-add : (p q : List A) → map f.on ((PolyR R).◌⊞◌ p q) ≋ map f.on p ⊕ map f.on q
  map-add p q = record { image = record { at = at } }
    where
      at : (n : ℕ) → coef S (map f.on ((PolyR R).◌⊞◌ p q)) n ≈ coef S (map f.on p ⊕ map f.on q) n
      at n = trans (coef-map ((PolyR R).◌⊞◌ p q) n)
          (trans (f.on_cong (coef R ((PolyR R).◌⊞◌ p q) n) (R.◌⊞◌ (coef R p n) (coef R q n)) (coef-zip R p q n))
          (trans (f.on-add (coef R p n) (coef R q n)) (symm (trans (coef-zip S (map f.on p) (map f.on q) n) (add_cong (coef-map p n) (coef-map q n))))))

  pub map-mul : (p q : List A) → map f.on ((PolyR R).◌⊠◌ p q) ≋ map f.on p ⊗ map f.on q
  map-mul p q = record { image = record { at = at } }
    where
      at : (n : ℕ) → coef S (map f.on ((PolyR R).◌⊠◌ p q)) n ≈ coef S (map f.on p ⊗ map f.on q) n
      at n = trans (coef-map ((PolyR R).◌⊠◌ p q) n)
          (trans (f.on_cong (coef R ((PolyR R).◌⊠◌ p q) n) (series_mul R (coef R p) (coef R q) n) (coef-mul R p q n))
          (trans (series (coef R p) (coef R q) n)
          (symm (trans (coef-mul S (map f.on p) (map f.on q) n) (series_mul_cong S (coef S (map f.on p)) (λ i. f.on (coef R p i)) (coef S (map f.on q)) (λ i. f.on (coef R q i)) (coef-map p) (coef-map q) n)))))

  abbrev pub mapH : Hom (PolyR R) (PolyR S)
  mapH = record { on = map f.on; on_cong = map_cong; on-add = map-add; on-mul = map-mul; on-one = one_coefficient S (f.on R.I) S.I f.on-one }

  pub map_same : ((x y : A) → f.on x ≈ f.on y → R.◌≈◌ x y) → (p q : List A) → map f.on p ≋ map f.on q → (PolyR R).◌≈◌ p q
  map_same h p q e = record { image = record { at = λ n. h (coef R p n) (coef R q n) (trans (symm (coef-map p n)) (trans (e.image.at n) (coef-map q n))) } }

  -- a list mapped before it is summed up
  pub horner-map : (T : Ring) (g : S.A → T.A) (x : T.A) (p : List A) → horner T (λ a. g (f.on a)) x p ≡ horner T g x (map f.on p)
  horner-map T g x [] = refl
  horner-map T g x (a ∷ p) = ap (λ t. T.◌⊞◌ (g (f.on a)) (T.◌⊠◌ x t)) (horner-map T g x p)

  pub map-twist : (σ : Hom R R) (τ : Hom S S) → ((x : A) → f.on (σ.on x) ≈ τ.on (f.on x)) → (β : A) (p : List A) → map f.on (twist R σ β p) ≋ twist S τ (f.on β) (map f.on p)
  map-twist σ τ h β p = (PolyR S).trans (hom-horner (PolyR R) (PolyR S) mapH (λ a. σ.on a ∷ []) (β ∷ R.I ∷ []) p (PolyR S).rfl)
      ((PolyR S).trans (horner_cong (PolyR S) (λ a. f.on (σ.on a) ∷ []) (λ a. τ.on (f.on a) ∷ []) (f.on β ∷ f.on R.I ∷ []) (f.on β ∷ S.I ∷ []) p
      (λ a. one_coefficient S (f.on (σ.on a)) (τ.on (f.on a)) (h a)) (cons_cong S (f.on β) (f.on β) (f.on R.I ∷ []) (S.I ∷ []) S.rfl (one_coefficient S (f.on R.I) S.I f.on-one)))
      (rw (horner-map (PolyR S) (λ b. τ.on b ∷ []) (f.on β ∷ S.I ∷ []) p) (PolyR S).rfl))

module _ (D : Domain) (σ : Hom D.R D.R) (β : D.R.A) where
  open D use {R, is_zero}
  open R use {A, ◌≈◌, O, symm, trans}
  open PolyR R use {◌≈◌ as ◌≋◌}

  pub twist_keeps : ((x : A) → ¬ (x ≈ O) → ¬ (σ.on x ≈ O)) → (p : List A) → ¬ (p ≋ []) → ¬ (twist R σ β p ≋ [])
  twist_keeps k p n z = elim (degree_or_zero R is_zero p) [ inl e ↦ n e | inr d ↦ clash d.0 d.1 ]
    where
      clash : (n : ℕ) → Degree R n p → ⊥
      clash n d = k (coef R p n) d.lead (trans (symm (twist-top R σ β n p d.ends)) (z.image.at n))
