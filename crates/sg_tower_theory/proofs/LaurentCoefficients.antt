-- The coefficients of a Laurent polynomial, at whole exponents.
--   fetch p e          the coefficient of the polynomial p at e, 0 where e is negative
--   up m e             e + m
--   at e x             the coefficient of the Laurent polynomial x at e
--   at_cong, same_at   equal elements have equal coefficients, and elements with equal coefficients are equal
--   at-add, at-scale, at-neg    of sums, of multiples by elements of the domain
--   term e c           c x^e: `term-at`, `term-past`
--   some_at            an element that isn't 0 has a coefficient that isn't 0
--   span x, at_past    outside a list of exponents all coefficients are 0
use Rattle.std.proofs.Common.{◌≡◌, ℕ, zero, suc, ◌+◌, ◌≤◌, ◌<◌, refl, sym, ap, ◌∙◌, subst, List, [], ◌∷◌, ℤ, pos, negsuc, length, ◌⊎◌, inl, inr, arith}
use lib.IntN.{suc_ℤ, pred_ℤ, suc-pred, pred-suc, pos-ne-negsuc}
use Rattle.sg_algebra.specs.Ring.{Ring, Domain}
use Rattle.sg_algebra.specs.Coefficients.{coef, Each}
use Rattle.sg_algebra.proofs.Ring.{pow, mul_O, O_add, neg_O}
use Rattle.sg_algebra.proofs.Solver.{ring, reads}
use Rattle.sg_algebra.proofs.PolynomialRing.{PolyR, X, coef-zip, coef-each, coef-scale, cons-is, one_coefficient}
use Rattle.sg_algebra.proofs.Degree.{Degree, degree_of}
use Rattle.sg_tower_theory.proofs.Ends.{coef-past}
use Rattle.sg_tower_theory.proofs.Laurent.{Laurent, LaurentR, equal}

natural : ℤ → ℕ
natural (pos n) = n
natural (negsuc n) = 0

pub pos_same : (m n : ℕ) → pos m ≡ pos n → m ≡ n
unfolding natural
pos_same m n e = ap natural e

pub pos_ne : (n : ℕ) → ¬ (pos (suc n) ≡ pos 0)
pos_ne n e = let h : suc n ≡ 0 = pos_same (suc n) 0 e in absurd (omega (arith, h))

pub negsuc_ne : (n : ℕ) → ¬ (negsuc n ≡ pos 0)
negsuc_ne n e = pos-ne-negsuc 0 n (sym e)

-- e + m
abbrev pub up : ℕ → ℤ → ℤ
up zero e = e
up (suc m) e = suc_ℤ (up m e)

pub up-suc : (m : ℕ) (e : ℤ) → up m (suc_ℤ e) ≡ suc_ℤ (up m e)
up-suc zero e = refl
up-suc (suc m) e = ap suc_ℤ (up-suc m e)

pub up-add : (m n : ℕ) (e : ℤ) → up (m + n) e ≡ up m (up n e)
up-add zero n e = let h : 0 + n ≡ n = omega arith in ap (λ (i : ℕ). up i e) h
up-add (suc m) n e = let h : suc m + n ≡ suc (m + n) = omega arith in ap (λ (i : ℕ). up i e) h ∙ ap suc_ℤ (up-add m n e)

pub up_same : (m : ℕ) (e f : ℤ) → up m e ≡ up m f → e ≡ f
up_same zero e f h = h
up_same (suc m) e f h = up_same m e f (sym (pred-suc (up m e)) ∙ ap pred_ℤ h ∙ pred-suc (up m f))

pub up-zero : (n : ℕ) → up n (pos 0) ≡ pos n
up-zero zero = refl
up-zero (suc n) = ap suc_ℤ (up-zero n)

pub up-negsuc : (n : ℕ) → up (suc n) (negsuc n) ≡ pos 0
up-negsuc zero = refl
up-negsuc (suc n) = sym (up-suc (suc n) (negsuc (suc n))) ∙ up-negsuc n

pub up_down : (m : ℕ) (e : ℤ) → (f : ℤ) × (up m f ≡ e)
up_down zero e = (e, refl)
up_down (suc m) e = let r = up_down m (pred_ℤ e) in (r.0, ap suc_ℤ r.1 ∙ suc-pred e)

module _ (R : Ring) where
  open R use {A, ◌≈◌, ◌⊞◌, ◌⊠◌, ⊟, O, I, rfl, symm, trans, add_cong, mul_cong, add_O}
  open PolyR R use {◌≈◌ as ◌≋◌, ◌⊞◌ as ◌⊕◌, ◌⊠◌ as ◌⊗◌, ⊟ as ⊖}

  abbrev P : Ring
  P = PolyR R

  abbrev pub fetch : List A → ℤ → A
  fetch p (pos n) = coef R p n
  fetch p (negsuc n) = O

  pub fetch_cong : (p q : List A) → p ≋ q → (e : ℤ) → fetch p e ≈ fetch q e
  fetch_cong p q h (pos n) = h.image.at n
  fetch_cong p q h (negsuc n) = rfl

  pub fetch-add : (p q : List A) (e : ℤ) → fetch (p ⊕ q) e ≈ fetch p e ⊞ fetch q e
  fetch-add p q (pos n) = coef-zip R p q n
  fetch-add p q (negsuc n) = symm add_O

  pub fetch-scale : (c : A) (p : List A) (e : ℤ) → fetch ((c ∷ []) ⊗ p) e ≈ c ⊠ fetch p e
  fetch-scale c p (pos n) = coef-scale R c p n
  fetch-scale c p (negsuc n) = symm (mul_O R)

  pub fetch-neg : (p : List A) (e : ℤ) → fetch (⊖ p) e ≈ ⊟ (fetch p e)
  fetch-neg p (pos n) = coef-each R ⊟ (neg_O R) p n
  fetch-neg p (negsuc n) = symm (neg_O R)

  -- the product with the variable is the list behind a zero
  pub times_X : (p : List A) → X R ⊗ p ≋ (O ∷ p)
  times_X p = P.symm (P.trans (cons-is R O p) (record { image = record { at = at } }))
    where
      at : (n : ℕ) → coef R ((O ∷ []) ⊕ X R ⊗ p) n ≈ coef R (X R ⊗ p) n
      at zero = trans (coef-zip R (O ∷ []) (X R ⊗ p) 0) (O_add R)
      at (suc n) = trans (coef-zip R (O ∷ []) (X R ⊗ p) (suc n)) (O_add R)

  fetch-cons : (p : List A) (e : ℤ) → fetch (O ∷ p) (suc_ℤ e) ≈ fetch p e
  fetch-cons p (pos n) = rfl
  fetch-cons p (negsuc zero) = rfl
  fetch-cons p (negsuc (suc n)) = rfl

  pub fetch-up : (n : ℕ) (p : List A) (e : ℤ) → fetch (p ⊗ pow P (X R) n) (up n e) ≈ fetch p e
  fetch-up zero p e = fetch_cong (p ⊗ (I ∷ [])) p P.mul_I e
  fetch-up (suc n) p e = trans (fetch_cong (p ⊗ (pow P (X R) n ⊗ X R)) (O ∷ (p ⊗ pow P (X R) n)) (P.trans moved (times_X (p ⊗ pow P (X R) n))) (suc_ℤ (up n e)))
      (trans (fetch-cons (p ⊗ pow P (X R) n) (up n e)) (fetch-up n p e))
    where
      moved : p ⊗ (pow P (X R) n ⊗ X R) ≋ X R ⊗ (p ⊗ pow P (X R) n)
      moved = ring P (p ∷ pow P (X R) n ∷ X R ∷ []) (search reads depth 16) refl

module _ (D : Domain) where
  open D use {R, is_zero, one_ne}
  open R use {A, ◌≈◌, ◌⊞◌, ◌⊠◌, ⊟, O, I, rfl, symm, trans, add_cong, mul_cong, neg_cong, add_O}
  open PolyR R use {◌≈◌ as ◌≋◌, ◌⊞◌ as ◌⊕◌, ◌⊠◌ as ◌⊗◌, ⊟ as ⊖}

  abbrev L : Ring
  L = LaurentR D

  abbrev pub at : ℤ → Laurent D → A
  at e x = fetch R x.poly (up x.lag e)

  -- the coefficient, over a higher power of x
  at-over : (x : Laurent D) (n : ℕ) (e : ℤ) → fetch R (x.poly ⊗ pow (P R) (X R) n) (up n (up x.lag e)) ≈ at e x
  at-over x n e = fetch-up R n x.poly (up x.lag e)

  up-swap : (m n : ℕ) (e : ℤ) → up m (up n e) ≡ up n (up m e)
  up-swap m n e = let h : m + n ≡ n + m = omega arith in sym (up-add m n e) ∙ ap (λ (i : ℕ). up i e) h ∙ up-add n m e

  pub at_cong : (x y : Laurent D) → L.◌≈◌ x y → (e : ℤ) → at e x ≈ at e y
  at_cong x y h e = trans (symm (at-over x y.lag e))
      (trans (fetch_cong R (x.poly ⊗ pow (P R) (X R) y.lag) (y.poly ⊗ pow (P R) (X R) x.lag) h.image.cross (up y.lag (up x.lag e)))
      (rw (up-swap y.lag x.lag e) (at-over y x.lag e)))

  pub same_at : (x y : Laurent D) → ((e : ℤ) → at e x ≈ at e y) → L.◌≈◌ x y
  same_at x y h = equal D x y (record { image = record { at = λ i. here (pos i) (up_down y.lag (pos i)) } })
    where
      here : (z : ℤ) → (f : ℤ) × (up y.lag f ≡ z) → fetch R (x.poly ⊗ pow (P R) (X R) y.lag) z ≈ fetch R (y.poly ⊗ pow (P R) (X R) x.lag) z
      here z r = there (up_down x.lag r.0)
        where
          there : (f : ℤ) × (up x.lag f ≡ r.0) → fetch R (x.poly ⊗ pow (P R) (X R) y.lag) z ≈ fetch R (y.poly ⊗ pow (P R) (X R) x.lag) z
          there s = subst (λ (z : ℤ). fetch R (x.poly ⊗ pow (P R) (X R) y.lag) z ≈ fetch R (y.poly ⊗ pow (P R) (X R) x.lag) z) (ap (up y.lag) s.1 ∙ r.1)
              (trans (at-over x y.lag s.0) (trans (h s.0) (symm (rw (up-swap y.lag x.lag s.0) (at-over y x.lag s.0)))))

  pub at-add : (x y : Laurent D) (e : ℤ) → at e (L.◌⊞◌ x y) ≈ at e x ⊞ at e y
  at-add x y e = trans (fetch-add R (x.poly ⊗ pow (P R) (X R) y.lag) (y.poly ⊗ pow (P R) (X R) x.lag) (up (x.lag + y.lag) e))
      (add_cong (rw (up-add x.lag y.lag e ∙ up-swap x.lag y.lag e) (at-over x y.lag e)) (rw (up-add x.lag y.lag e) (at-over y x.lag e)))

  pub at-scale : (c : A) (x : Laurent D) (e : ℤ) → at e (L.◌⊠◌ (record { poly = c ∷ []; lag = 0 }) x) ≈ c ⊠ at e x
  at-scale c x e = trans (fetch-scale R c x.poly (up (0 + x.lag) e)) (rw (up-add 0 x.lag e) rfl)

  pub at-neg : (x : Laurent D) (e : ℤ) → at e (L.⊟ x) ≈ ⊟ (at e x)
  at-neg x e = fetch-neg R x.poly (up x.lag e)

  pub at-none : (e : ℤ) → at e L.O ≈ O
  at-none (pos n) = rfl
  at-none (negsuc n) = rfl

  -- ---- Terms

  -- c x^e
  abbrev pub term : ℤ → A → Laurent D
  term (pos n) c = record { poly = (c ∷ []) ⊗ pow (P R) (X R) n; lag = 0 }
  term (negsuc n) c = record { poly = c ∷ []; lag = suc n }

  single : (c : A) (e : ℤ) → ¬ (e ≡ pos 0) → fetch R (c ∷ []) e ≈ O
  single c (pos zero) h = absurd (h refl)
  single c (pos (suc n)) h = rfl
  single c (negsuc n) h = rfl

  pub term-at : (e : ℤ) (c : A) → at e (term e c) ≈ c
  term-at (pos n) c = subst (λ (z : ℤ). fetch R ((c ∷ []) ⊗ pow (P R) (X R) n) z ≈ c) (up-zero n) (fetch-up R n (c ∷ []) (pos 0))
  term-at (negsuc n) c = subst (λ (z : ℤ). fetch R (c ∷ []) z ≈ c) (sym (up-negsuc n)) rfl

  pub term-past : (e f : ℤ) (c : A) → ¬ (f ≡ e) → at f (term e c) ≈ O
  term-past (pos n) f c h = go (up_down n f)
    where
      go : (g : ℤ) × (up n g ≡ f) → fetch R ((c ∷ []) ⊗ pow (P R) (X R) n) f ≈ O
      go r = subst (λ (z : ℤ). fetch R ((c ∷ []) ⊗ pow (P R) (X R) n) z ≈ O) r.1
          (trans (fetch-up R n (c ∷ []) r.0) (single c r.0 (λ e. h (sym r.1 ∙ ap (up n) e ∙ up-zero n))))
  term-past (negsuc n) f c h = single c (up (suc n) f) (λ e. h (up_same (suc n) f (negsuc n) (e ∙ sym (up-negsuc n))))

  pub term_cong : (e : ℤ) (c d : A) → c ≈ d → L.◌≈◌ (term e c) (term e d)
  term_cong (pos n) c d h = equal D (term (pos n) c) (term (pos n) d)
      ((P R).mul_cong ((P R).mul_cong (one_coefficient R c d h) ((P R).rfl {x = pow (P R) (X R) n})) ((P R).rfl {x = I ∷ []}))
  term_cong (negsuc n) c d h = equal D (term (negsuc n) c) (term (negsuc n) d) ((P R).mul_cong (one_coefficient R c d h) ((P R).rfl {x = pow (P R) (X R) (suc n)}))

  -- ---- Where there are coefficients

  pub zero_poly : (x : Laurent D) → x.poly ≋ [] → L.◌≈◌ x L.O
  zero_poly x h = equal D x L.O ((P R).mul_cong {x = x.poly} {y = []} h ((P R).rfl {x = I ∷ []}))

  pub some_at : (x : Laurent D) → ¬ (L.◌≈◌ x L.O) → (e : ℤ) × ¬ (at e x ≈ O)
  some_at x h = go (degree_of R is_zero x.poly (λ z. h (zero_poly x z)))
    where
      go : (n : ℕ) × Degree R n x.poly → (e : ℤ) × ¬ (at e x ≈ O)
      go d = let f = up_down x.lag (pos d.0) in (f.0, rw f.1 d.1.lead)

  abbrev pub Outside : ℤ → List ℤ → Type 0
  Outside e es = Each (λ f. ¬ (e ≡ f)) es

  abbrev from_lag : ℕ → ℕ → List ℤ
  from_lag m zero = []
  from_lag m (suc n) = (up_down m (pos n)).0 ∷ from_lag m n

  -- the exponents where an element may have coefficients
  abbrev pub span : Laurent D → List ℤ
  span x = from_lag x.lag (length x.poly)

  outside_at : (m n : ℕ) (e : ℤ) → Outside e (from_lag m n) → (i : ℕ) → i < n → ¬ (e ≡ (up_down m (pos i)).0)
  outside_at m zero e h i l = absurd (omega arith)
  outside_at m (suc n) e h i l = go (side i n l) (λ q. outside_at m n e h.1 i q)
    where
      side : (i n : ℕ) → i < suc n → (i ≡ n) ⊎ (i < n)
      side i n l = grind arith

      go : (i ≡ n) ⊎ (i < n) → (i < n → ¬ (e ≡ (up_down m (pos i)).0)) → ¬ (e ≡ (up_down m (pos i)).0)
      go (inl q) k = subst (λ (j : ℕ). ¬ (e ≡ (up_down m (pos j)).0)) (sym q) h.0
      go (inr q) k = k q

  pub at_past : (x : Laurent D) (e : ℤ) → Outside e (span x) → at e x ≈ O
  at_past x e h = go (up x.lag e) refl
    where
      side : (i n : ℕ) → (n ≤ i) ⊎ (i < n)
      side i n = grind arith

      go : (z : ℤ) → up x.lag e ≡ z → fetch R x.poly z ≈ O
      go (negsuc i) q = rfl
      go (pos i) q = elim (side i (length x.poly)) [
        | inl l ↦ coef-past R x.poly i l
        | inr l ↦ absurd (outside_at x.lag (length x.poly) e h i l (up_same x.lag e (up_down x.lag (pos i)).0 (q ∙ sym (up_down x.lag (pos i)).1)))
      ]
