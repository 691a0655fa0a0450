-- Products and shifts of monomials, and what a list of terms of the program stands for.
--   term-mul             (c x^e)(d x^f) = (c d) x^(e + f)
--   plus n es fs         the sum of exponents; `monomial-mul`
--   monomial-shift       σ(c x^e) = α^e σ(c) x^e
--   one_term n es c      the monomial, where es has n entries; else nothing
--   meaning n ts         the sum of the terms of a list
--   meaning-coefficient  its coefficient is the sum of the coefficients of the terms with these exponents
--   some_meaning         a list of terms of distinct exponents with coefficients that aren't 0 stands for 0 only if it is empty
use Rattle.std.proofs.Common.{◌≡◌, ℕ, zero, suc, ◌+◌, refl, sym, ap, ◌∙◌, List, [], ◌∷◌, ◌++◌, ℤ, pos, negsuc, ◌+ℤ◌, length, ◌<◌, ◌⊎◌, inl, inr, arith}
use lib.IntN.{suc_ℤ, pred_ℤ, suc_ℤ-+ℤ, pred_ℤ-+ℤ, +ℤ_idl}
use Rattle.sg_algebra.specs.Ring.{Ring, Domain, Field, Hom}
use Rattle.sg_algebra.specs.Coefficients.{Each, zip_longest}
use Rattle.sg_algebra.proofs.Ring.{pow, mul_O, O_mul, O_add, I_mul}
use Rattle.sg_algebra.proofs.Solver.{ring, by, scale, reads}
use Rattle.sg_algebra.proofs.Divides.{on-pow, on-O}
use Rattle.sg_algebra.proofs.PolynomialRing.{PolyR, X}
use Rattle.sg_tower_theory.specs.Powers.{powers}
use Rattle.sg_tower_theory.proofs.Laurent.{Laurent, LaurentR, equal, polynomialH, constantsH, over_power}
use Rattle.sg_tower_theory.proofs.LaurentCoefficients.{term}
use Rattle.sg_tower_theory.proofs.LaurentShift.{unit_power, unit_power-suc}
use Rattle.sg_tower_theory.proofs.Products.{Exponents, listed, Some, LaurentsD, LaurentsR, coefficient, coefficient_cong, coefficient-add, coefficient-none, coefficient-shift, shift}
use Rattle.sg_tower_theory.proofs.ProductSlices.{monomial, monomial-at, monomial-past, same_monomial}

-- a statement holds of all whole numbers, if it does of 0 and goes up and down by one
up_down : (P : ℤ → Type 0) → P (pos 0) → ((z : ℤ) → P z → P (suc_ℤ z)) → ((z : ℤ) → P z → P (pred_ℤ z)) → (z : ℤ) → P z
up_down P o u d (pos zero) = o
up_down P o u d (pos (suc n)) = u (pos n) (up_down P o u d (pos n))
up_down P o u d (negsuc zero) = d (pos zero) o
up_down P o u d (negsuc (suc n)) = d (negsuc n) (up_down P o u d (negsuc n))

module _ (R : Ring) (α β : R.A) (unit : R.◌≈◌ (R.◌⊠◌ α β) R.I) where
  open R use {A, ◌≈◌, ◌⊠◌, ⊟, I, rfl, symm, trans, mul_cong}

  unit_power-pred : (e : ℤ) → unit_power R α β (pred_ℤ e) ≈ unit_power R α β e ⊠ β
  unit_power-pred (pos zero) = rfl
  unit_power-pred (pos (suc n)) = by R (α ∷ β ∷ pow R α n ∷ []) (scale R (⊟ (pow R α n)) unit) (search reads depth 16) refl
  unit_power-pred (negsuc n) = rfl

  pub unit_power-add : (e f : ℤ) → unit_power R α β (e +ℤ f) ≈ unit_power R α β e ⊠ unit_power R α β f
  unit_power-add e f = up_down (λ e. unit_power R α β (e +ℤ f) ≈ unit_power R α β e ⊠ unit_power R α β f)
      (rw (+ℤ_idl f) (symm (I_mul R)))
      (λ z k. rw (suc_ℤ-+ℤ z f) (trans (unit_power-suc R α β unit (z +ℤ f)) (trans (mul_cong k rfl) (trans (swap (unit_power R α β z) (unit_power R α β f) α) (mul_cong (symm (unit_power-suc R α β unit z)) rfl)))))
      (λ z k. rw (pred_ℤ-+ℤ z f) (trans (unit_power-pred (z +ℤ f)) (trans (mul_cong k rfl) (trans (swap (unit_power R α β z) (unit_power R α β f) β) (mul_cong (symm (unit_power-pred z)) rfl)))))
      e
    where
      swap : (a b c : A) → (a ⊠ b) ⊠ c ≈ (a ⊠ c) ⊠ b
      swap a b c = ring R (a ∷ b ∷ c ∷ []) (search reads depth 16) refl

module _ (D : Domain) where
  open D use {R}
  open R use {A, ◌⊠◌, I}
  open PolyR R use {◌⊠◌ as ◌⊗◌}

  abbrev L : Ring
  L = LaurentR D

  abbrev x : Laurent D
  x = record { poly = X R; lag = 0 }

  abbrev y : Laurent D
  y = record { poly = I ∷ []; lag = 1 }

  xy : L.◌≈◌ (L.◌⊠◌ x y) L.I
  xy = equal D (L.◌⊠◌ x y) L.I (ring (PolyR R) (X R ∷ []) (search reads depth 16) refl)

  pow-y : (n : ℕ) → L.◌≈◌ (pow L y n) (record { poly = I ∷ []; lag = n })
  pow-y zero = L.rfl
  pow-y (suc n) = L.trans (L.mul_cong (pow-y n) L.rfl) (equal D (L.◌⊠◌ (record { poly = I ∷ []; lag = n }) y) (record { poly = I ∷ []; lag = suc n })
      (let e : n + 1 ≡ suc n = omega arith in rw e ((PolyR R).mul_cong ((PolyR R).mul_I {x = I ∷ []}) ((PolyR R).rfl {x = pow (PolyR R) (X R) (suc n)}))))

  pub term-is : (e : ℤ) (c : A) → L.◌≈◌ (term D e c) (L.◌⊠◌ ((constantsH D).on c) (unit_power L x y e))
  term-is (pos n) c = L.mul_cong {x = record { poly = c ∷ []; lag = 0 }} L.rfl (on-pow (PolyR R) L (polynomialH D) (X R) n)
  term-is (negsuc n) c = L.trans (over_power D (c ∷ []) (suc n)) (L.trans (L.mul_comm {x = record { poly = I ∷ []; lag = suc n }} {y = record { poly = c ∷ []; lag = 0 }})
      (L.mul_cong {x = record { poly = c ∷ []; lag = 0 }} L.rfl (L.symm (pow-y (suc n)))))

  pub term-mul : (e f : ℤ) (c d : A) → L.◌≈◌ (L.◌⊠◌ (term D e c) (term D f d)) (term D (e +ℤ f) (c ⊠ d))
  term-mul e f c d = L.trans (L.mul_cong (term-is e c) (term-is f d)) (L.symm (L.trans (term-is (e +ℤ f) (c ⊠ d))
      (L.trans (L.mul_cong ((constantsH D).on-mul c d) (unit_power-add L x y xy e f)) (four ((constantsH D).on c) ((constantsH D).on d) (unit_power L x y e) (unit_power L x y f)))))
    where
      four : (a b u v : Laurent D) → L.◌≈◌ (L.◌⊠◌ (L.◌⊠◌ a b) (L.◌⊠◌ u v)) (L.◌⊠◌ (L.◌⊠◌ a u) (L.◌⊠◌ b v))
      four a b u v = ring L (a ∷ b ∷ u ∷ v ∷ []) (search reads depth 16) refl

abbrev pub plus : (n : ℕ) → Exponents n → Exponents n → Exponents n
plus zero es fs = tt
plus (suc n) es fs = (es.0 +ℤ fs.0, plus n es.1 fs.1)

module _ (F : Field) where
  open F use {R}
  open R use {A, ◌≈◌, ◌⊞◌, ◌⊠◌, O, I, rfl, symm, trans, add_cong, mul_cong}

  pub monomial-mul : (n : ℕ) (es fs : Exponents n) (c d : A) → (LaurentsR F n).◌≈◌ ((LaurentsR F n).◌⊠◌ (monomial F n es c) (monomial F n fs d)) (monomial F n (plus n es fs) (c ⊠ d))
  monomial-mul zero es fs c d = rfl
  monomial-mul (suc n) es fs c d = (LaurentsR F (suc n)).trans (term-mul (LaurentsD F n) es.0 fs.0 (monomial F n es.1 c) (monomial F n fs.1 d))
      (Rattle.sg_tower_theory.proofs.LaurentCoefficients.term_cong (LaurentsD F n) (es.0 +ℤ fs.0) ((LaurentsR F n).◌⊠◌ (monomial F n es.1 c) (monomial F n fs.1 d)) (monomial F n (plus n es.1 fs.1) (c ⊠ d)) (monomial-mul n es.1 fs.1 c d))

  pub monomial-shift : (σ : Hom R R) (αs : List A) (s : Each (Some F) αs) (es : Exponents (length αs)) (c : A)
      → (LaurentsR F (length αs)).◌≈◌ ((shift F σ αs s).on (monomial F (length αs) es c)) (monomial F (length αs) es (powers F αs (listed (length αs) es) ⊠ σ.on c))
  monomial-shift σ αs s es c = (LaurentsR F n).symm (same_monomial F n es (powers F αs (listed n es) ⊠ σ.on c) ((shift F σ αs s).on (monomial F n es c))
      (trans (coefficient-shift F σ αs s es (monomial F n es c)) (mul_cong rfl (σ.on_cong (coefficient F n es (monomial F n es c)) c (monomial-at F n es c))))
      (λ fs k. trans (coefficient-shift F σ αs s fs (monomial F n es c)) (trans (mul_cong rfl (trans (σ.on_cong (coefficient F n fs (monomial F n es c)) O (monomial-past F n es fs c k)) (on-O R R σ))) (mul_O R))))
    where
      n : ℕ
      n = length αs

  -- ---- Lists of terms

  abbrev pub one_term : (n : ℕ) → List ℤ → A → (LaurentsR F n).A
  one_term zero [] c = c
  one_term zero (e ∷ es) c = O
  one_term (suc n) [] c = (LaurentsR F (suc n)).O
  one_term (suc n) (e ∷ es) c = term (LaurentsD F n) e (one_term n es c)

  pub one_term-is : (n : ℕ) (es : Exponents n) (c : A) → one_term n (listed n es) c ≡ monomial F n es c
  one_term-is zero es c = refl
  one_term-is (suc n) es c = ap (term (LaurentsD F n) es.0) (one_term-is n es.1 c)

  -- the exponents of a list with an entry for each product
  pub exponents_of : (n : ℕ) (es : List ℤ) → length es ≡ n → (x : Exponents n) × (es ≡ listed n x)
  exponents_of zero [] h = (tt, refl)
  exponents_of zero (e ∷ es) h = absurd (omega (arith, h))
  exponents_of (suc n) [] h = absurd (omega (arith, h))
  exponents_of (suc n) (e ∷ es) h = let r = exponents_of n es (omega (arith, h)) in ((e, r.0), ap (λ (t : List ℤ). e ∷ t) r.1)

  term_none : (D : Domain) (e : ℤ) (c : D.R.A) → D.R.◌≈◌ c D.R.O → (LaurentR D).◌≈◌ (term D e c) (LaurentR D).O
  term_none D e c h = (LaurentR D).trans (term-is D e c) ((LaurentR D).trans ((LaurentR D).mul_cong ((LaurentR D).trans ((constantsH D).on_cong c D.R.O h) (on-O D.R (LaurentR D) (constantsH D))) (LaurentR D).rfl) (O_mul (LaurentR D) {x = unit_power (LaurentR D) (x D) (y D) e}))

  -- else it is nothing
  pub one_term-none : (n : ℕ) (es : List ℤ) (c : A) → ¬ (length es ≡ n) → (LaurentsR F n).◌≈◌ (one_term n es c) (LaurentsR F n).O
  one_term-none zero [] c h = absurd (h refl)
  one_term-none zero (e ∷ es) c h = rfl
  one_term-none (suc n) [] c h = (LaurentsR F (suc n)).rfl
  one_term-none (suc n) (e ∷ es) c h = term_none (LaurentsD F n) e (one_term n es c) (one_term-none n es c (λ k. h (ap suc k)))

  -- the product of two terms with an exponent for each product
  pub one_term-mul : (n : ℕ) (es fs : List ℤ) (c d : A) → length es ≡ n → length fs ≡ n → (LaurentsR F n).◌≈◌ (one_term n (zip_longest ◌+ℤ◌ es fs) (c ⊠ d)) ((LaurentsR F n).◌⊠◌ (one_term n es c) (one_term n fs d))
  one_term-mul zero [] [] c d h k = rfl
  one_term-mul zero [] (f ∷ fs) c d h k = absurd (omega (arith, k))
  one_term-mul zero (e ∷ es) fs c d h k = absurd (omega (arith, h))
  one_term-mul (suc n) [] fs c d h k = absurd (omega (arith, h))
  one_term-mul (suc n) (e ∷ es) [] c d h k = absurd (omega (arith, k))
  one_term-mul (suc n) (e ∷ es) (f ∷ fs) c d h k = (LaurentsR F (suc n)).trans
      (Rattle.sg_tower_theory.proofs.LaurentCoefficients.term_cong (LaurentsD F n) (e +ℤ f) (one_term n (zip_longest ◌+ℤ◌ es fs) (c ⊠ d)) ((LaurentsR F n).◌⊠◌ (one_term n es c) (one_term n fs d)) (one_term-mul n es fs c d (omega (arith, h)) (omega (arith, k))))
      ((LaurentsR F (suc n)).symm (term-mul (LaurentsD F n) e f (one_term n es c) (one_term n fs d)))

  module _ {T : Type 0} (exps : T → List ℤ) (coeff : T → A) (n : ℕ) where
    abbrev pub meaning : List T → (LaurentsR F n).A
    meaning [] = (LaurentsR F n).O
    meaning (t ∷ ts) = (LaurentsR F n).◌⊞◌ (one_term n (exps t) (coeff t)) (meaning ts)

    pub meaning-append : (xs ys : List T) → (LaurentsR F n).◌≈◌ (meaning (xs ++ ys)) ((LaurentsR F n).◌⊞◌ (meaning xs) (meaning ys))
    meaning-append [] ys = (LaurentsR F n).symm (O_add (LaurentsR F n))
    meaning-append (x ∷ xs) ys = (LaurentsR F n).trans ((LaurentsR F n).add_cong (LaurentsR F n).rfl (meaning-append xs ys)) ((LaurentsR F n).symm (LaurentsR F n).add_assoc)

    away : (es : Exponents n) (ts : List T) → Each (λ t. ¬ (exps t ≡ listed n es)) ts → coefficient F n es (meaning ts) ≈ O
    away es [] h = coefficient-none F n es
    away es (t ∷ ts) h = trans (coefficient-add F n es (one_term n (exps t) (coeff t)) (meaning ts)) (trans (add_cong (single (fits (length (exps t)) n)) (away es ts h.1)) R.add_O)
      where
        three : (m n : ℕ) → (m < n) ⊎ ((n < m) ⊎ (m ≡ n))
        three m n = grind arith

        fits : (m n : ℕ) → Dec (m ≡ n)
        fits m n = elim (three m n) [ inl l ↦ no (λ e. absurd (omega (arith, e, l))) | inr r ↦ elim r [ inl l ↦ no (λ e. absurd (omega (arith, e, l))) | inr e ↦ yes e ] ]

        single : Dec (length (exps t) ≡ n) → coefficient F n es (one_term n (exps t) (coeff t)) ≈ O
        single (no k) = trans (coefficient_cong F n es (one_term n (exps t) (coeff t)) (LaurentsR F n).O (one_term-none n (exps t) (coeff t) k)) (coefficient-none F n es)
        single (yes k) = go (exponents_of n (exps t) k)
          where
            go : (z : Exponents n) × (exps t ≡ listed n z) → coefficient F n es (one_term n (exps t) (coeff t)) ≈ O
            go r = rw r.1 (rw (one_term-is n r.0 (coeff t)) (monomial-past F n r.0 es (coeff t) (λ q. h.0 (r.1 ∙ ap (listed n) (sym q)))))

    -- a list of fitting, distinct terms that aren't 0
    pub record Normal (ts : List T) : Type 0 where
      pub fit : Each (λ t. length (exps t) ≡ n) ts
      pub some : Each (λ t. Some F (coeff t)) ts

    -- the first term's coefficient is that of the element, where no later term has its exponents
    pub first_coefficient : (t : T) (ts : List T) (es : Exponents n) → exps t ≡ listed n es → Each (λ s. ¬ (exps s ≡ listed n es)) ts → coefficient F n es (meaning (t ∷ ts)) ≈ coeff t
    first_coefficient t ts es e h = trans (coefficient-add F n es (one_term n (exps t) (coeff t)) (meaning ts))
        (trans (add_cong (rw e (rw (one_term-is n es (coeff t)) (monomial-at F n es (coeff t)))) (away es ts h)) R.add_O)

    pub some_meaning : (t : T) (ts : List T) → length (exps t) ≡ n → Some F (coeff t) → Each (λ s. ¬ (exps s ≡ exps t)) ts → ¬ ((LaurentsR F n).◌≈◌ (meaning (t ∷ ts)) (LaurentsR F n).O)
    some_meaning t ts l k h z = go (exponents_of n (exps t) l)
      where
        go : (es : Exponents n) × (exps t ≡ listed n es) → ⊥
        go r = k (trans (symm (first_coefficient t ts r.0 r.1 (rw r.1 at h))) (trans (coefficient_cong F n r.0 (meaning (t ∷ ts)) (LaurentsR F n).O z) (coefficient-none F n r.0)))
