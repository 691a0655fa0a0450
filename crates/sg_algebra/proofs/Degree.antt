-- Degrees and leading coefficients.
--   Below R m p        p has no coefficient from m on
--   Degree R n p       p has the degree n: its coefficient there isn't zero, and none after it is
--   Monic R n p        p has the leading coefficient 1, at n
--   below_zero, below_up, below_same, below-add, below-neg, below-scale, below-cons     what bounds follow
--   degree_same, degree_unique, degree_below    up to equality; there is one degree; it is below each bound
--   coef-mul_top       the coefficient of p q at m + n is the product of those of p at m and of q at n
--   degree_or_zero     a polynomial is zero or has a degree, where equality to zero is decided
--   poly_size          the degree and one, or 0 at the zero polynomial: `none_above`, `lead_at`, `size_below`
--   degree-mul         the degree of a product, over a domain
--   PolyD              so polynomials over a domain are a domain
use Rattle.std.proofs.Common.{◌≡◌, ℕ, zero, suc, ◌+◌, ◌≤◌, ◌<◌, refl, List, [], ◌∷◌, ◌⊎◌, inl, inr, arith}
use Rattle.sg_algebra.specs.Ring.{Ring, Domain}
use Rattle.sg_algebra.specs.Coefficients.{coef}
use Rattle.sg_algebra.proofs.Ring.{mul_O, neg_O}
use Rattle.sg_algebra.proofs.Solver.{by, reads}
use Rattle.sg_algebra.proofs.Field.{product_ne}
use Rattle.sg_algebra.proofs.Series.{product_top, product_past, Ends}
use Rattle.sg_algebra.proofs.PolynomialRing.{PolyR, coef-zip, coef-each, coef-mul, coef-scale}

module _ (R : Ring) where
  open R use {A, ◌≈◌, ◌⊞◌, ◌⊠◌, ⊟, O, I, rfl, symm, trans, add_cong, mul_cong, neg_cong, add_O}
  open PolyR R use {◌≈◌ as ◌≋◌, ◌⊞◌ as ◌⊕◌, ◌⊠◌ as ◌⊗◌, ⊟ as ⊖}

  pub record Below (m : ℕ) (p : List A) : Type 0 where
    pub none_from : (n : ℕ) → m ≤ n → coef R p n ≈ O

  pub record Degree (n : ℕ) (p : List A) : Type 0 where
    pub lead : ¬ (coef R p n ≈ O)
    pub ends : (i : ℕ) → n < i → coef R p i ≈ O

  pub record Monic (n : ℕ) (p : List A) : Type 0 where
    pub top : coef R p n ≈ I
    pub ends : (i : ℕ) → n < i → coef R p i ≈ O

  -- ---- Bounds

  pub below_zero : (p : List A) → Below 0 p → p ≋ []
  below_zero p b = record { image = record { at = λ n. b.none_from n (omega arith) } }

  pub below_up : (m n : ℕ) (p : List A) → m ≤ n → Below m p → Below n p
  below_up m n p l b = record { none_from = λ i k. b.none_from i (omega arith) }

  pub below_same : (m : ℕ) (p q : List A) → p ≋ q → Below m p → Below m q
  below_same m p q e b = record { none_from = λ n l. trans (symm (e.image.at n)) (b.none_from n l) }

  pub below-add : (m : ℕ) (p q : List A) → Below m p → Below m q → Below m (p ⊕ q)
  below-add m p q b c = record { none_from = λ n l. trans (coef-zip R p q n) (trans (add_cong (b.none_from n l) (c.none_from n l)) add_O) }

  pub below-neg : (m : ℕ) (p : List A) → Below m p → Below m (⊖ p)
  below-neg m p b = record { none_from = λ n l. trans (coef-each R ⊟ (neg_O R) p n) (trans (neg_cong (b.none_from n l)) (neg_O R)) }

  pub below-scale : (m : ℕ) (c : A) (p : List A) → Below m p → Below m ((c ∷ []) ⊗ p)
  below-scale m c p b = record { none_from = λ n l. trans (coef-scale R c p n) (trans (mul_cong rfl (b.none_from n l)) (mul_O R)) }

  pub below-cons : (m : ℕ) (a : A) (p : List A) → Below m p → Below (suc m) (a ∷ p)
  below-cons m a p b = record { none_from = go }
    where
      go : (n : ℕ) → suc m ≤ n → coef R (a ∷ p) n ≈ O
      go zero l = absurd (omega arith)
      go (suc n) l = b.none_from n (omega arith)

  -- a list has no coefficient past its length
  pub below_degree : (n : ℕ) (p : List A) → Degree n p → Below (suc n) p
  below_degree n p d = record { none_from = λ i l. d.ends i (omega arith) }

  -- ---- Degrees

  pub degree_same : (n : ℕ) (p q : List A) → p ≋ q → Degree n p → Degree n q
  degree_same n p q e d = record { lead = λ z. d.lead (trans (e.image.at n) z); ends = λ i l. trans (symm (e.image.at i)) (d.ends i l) }

  three : (m n : ℕ) → (m < n) ⊎ ((n < m) ⊎ (m ≡ n))
  three m n = grind arith

  pub degree_unique : (m n : ℕ) (p : List A) → Degree m p → Degree n p → m ≡ n
  degree_unique m n p d e = elim (three m n) [
    | inl l ↦ absurd (e.lead (d.ends n l))
    | inr r ↦ elim r [ inl l ↦ absurd (d.lead (e.ends m l)) | inr h ↦ h ]
  ]

  pub degree_below : (m n : ℕ) (p : List A) → Degree n p → Below m p → n < m
  degree_below m n p d b = elim (two m n) [ inl l ↦ l | inr g ↦ absurd (d.lead (b.none_from n g)) ]
    where
      two : (m n : ℕ) → (n < m) ⊎ (m ≤ n)
      two m n = grind arith

  -- a polynomial with a degree isn't zero
  pub degree_ne : (n : ℕ) (p : List A) → Degree n p → ¬ (p ≋ [])
  degree_ne n p d z = d.lead (z.image.at n)

  pub degree_cons : (n : ℕ) (a : A) (p : List A) → Degree n p → Degree (suc n) (a ∷ p)
  degree_cons n a p d = record { lead = d.lead; ends = go }
    where
      go : (i : ℕ) → suc n < i → coef R (a ∷ p) i ≈ O
      go zero l = absurd (omega arith)
      go (suc i) l = d.ends i (omega arith)

  pub coef-mul_top : (m n : ℕ) (p q : List A) → Ends R m (coef R p) → Ends R n (coef R q) → coef R (p ⊗ q) (m + n) ≈ coef R p m ⊠ coef R q n
  coef-mul_top m n p q h k = trans (coef-mul R p q (m + n)) (product_top R m n (coef R p) (coef R q) h k)

  pub coef-mul_past : (m n : ℕ) (p q : List A) → Ends R m (coef R p) → Ends R n (coef R q) → Ends R (m + n) (coef R (p ⊗ q))
  coef-mul_past m n p q h k i l = trans (coef-mul R p q i) (product_past R m n (coef R p) (coef R q) h k i l)

-- ---- Where equality to zero is decided

module _ (R : Ring) (is_zero : (x : R.A) → Dec (R.◌≈◌ x R.O)) where
  open R use {A, ◌≈◌, O, rfl}
  open PolyR R use {◌≈◌ as ◌≋◌}

  pub degree_or_zero : (p : List A) → (p ≋ []) ⊎ ((n : ℕ) × Degree R n p)
  degree_or_zero [] = inl (PolyR R).rfl
  degree_or_zero (a ∷ p) = go (is_zero a) (degree_or_zero p)
    where
      go : Dec (a ≈ O) → (p ≋ []) ⊎ ((n : ℕ) × Degree R n p) → ((a ∷ p) ≋ []) ⊎ ((n : ℕ) × Degree R n (a ∷ p))
      go e (inr d) = inr (suc d.0, degree_cons R d.0 a p d.1)
      go (yes e) (inl z) = inl (record { image = record { at = none } })
        where
          none : (n : ℕ) → coef R (a ∷ p) n ≈ O
          none zero = e
          none (suc n) = z.image.at n
      go (no e) (inl z) = inr (0, record { lead = e; ends = past })
        where
          past : (i : ℕ) → 0 < i → coef R (a ∷ p) i ≈ O
          past zero l = absurd (omega arith)
          past (suc i) l = z.image.at i

  pub poly_zero : (p : List A) → Dec (p ≋ [])
  poly_zero p = elim (degree_or_zero p) [ inl z ↦ yes z | inr d ↦ no (degree_ne R d.0 p d.1) ]

  pub degree_of : (p : List A) → ¬ (p ≋ []) → (n : ℕ) × Degree R n p
  degree_of p h = elim (degree_or_zero p) [ inl z ↦ absurd (h z) | inr d ↦ d ]

  size_by : (p : List A) → (p ≋ []) ⊎ ((n : ℕ) × Degree R n p) → ℕ
  size_by p (inl z) = 0
  size_by p (inr d) = suc d.0

  pub poly_size : List A → ℕ
  poly_size p = size_by p (degree_or_zero p)

  pub none_above : (p : List A) → Below R (poly_size p) p
  unfolding poly_size size_by
  none_above p = go (degree_or_zero p)
    where
      go : (d : (p ≋ []) ⊎ ((n : ℕ) × Degree R n p)) → Below R (size_by p d) p
      go (inl z) = record { none_from = λ n l. z.image.at n }
      go (inr d) = below_degree R d.0 p d.1

  pub lead_at : (p : List A) (m : ℕ) → poly_size p ≡ suc m → ¬ (coef R p m ≈ O)
  unfolding poly_size size_by
  lead_at p m e = go (degree_or_zero p) e
    where
      go : (d : (p ≋ []) ⊎ ((n : ℕ) × Degree R n p)) → size_by p d ≡ suc m → ¬ (coef R p m ≈ O)
      go (inl z) e = absurd (omega arith)
      go (inr d) e = let s : m ≡ d.0 = omega arith in rw s d.1.lead

  pub size_below : (p : List A) (m : ℕ) → Below R m p → poly_size p ≤ m
  unfolding poly_size size_by
  size_below p m b = go (degree_or_zero p)
    where
      go : (d : (p ≋ []) ⊎ ((n : ℕ) × Degree R n p)) → size_by p d ≤ m
      go (inl z) = omega arith
      go (inr d) = let l : d.0 < m = degree_below R m d.0 p d.1 b in omega arith

  pub size_zero : (p : List A) → poly_size p ≡ 0 → p ≋ []
  size_zero p e = below_zero R p (rw e at (none_above p))

-- ---- Over a domain

module _ (D : Domain) where
  open D use {R, is_zero, one_ne}
  open R use {A, ◌≈◌, O, I, symm, trans}
  open PolyR R use {◌≈◌ as ◌≋◌, ◌⊞◌ as ◌⊕◌, ◌⊠◌ as ◌⊗◌, ⊟ as ⊖}

  pub degree-mul : (m n : ℕ) (p q : List A) → Degree R m p → Degree R n q → Degree R (m + n) (p ⊗ q)
  degree-mul m n p q d e = record {
    lead = λ z. product_ne D d.lead e.lead (trans (symm (coef-mul_top R m n p q d.ends e.ends)) z);
    ends = coef-mul_past R m n p q d.ends e.ends;
  }

  pub poly_factor : {p q : List A} → ¬ (p ≋ []) → p ⊗ q ≋ [] → q ≋ []
  poly_factor {p} {q} h e = elim (degree_or_zero R is_zero q) [
    | inl z ↦ z
    | inr d ↦ let c = degree_of R is_zero p h in absurd (degree_ne R (c.0 + d.0) (p ⊗ q) (degree-mul c.0 d.0 p q c.1 d.1) e)
  ]

  pub poly_cancel : {p q r : List A} → ¬ (p ≋ []) → p ⊗ q ≋ p ⊗ r → q ≋ r
  poly_cancel {p} {q} {r} h e = by (PolyR R) (q ∷ r ∷ []) (poly_factor {q = q ⊕ ⊖ r} h (by (PolyR R) (p ∷ q ∷ r ∷ []) e (search reads depth 12) refl)) (search reads depth 12) refl

  pub poly_one_ne : ¬ ((I ∷ []) ≋ [])
  poly_one_ne h = one_ne (h.image.at 0)

  abbrev pub PolyD : Domain
  PolyD = record { R = PolyR R; is_zero = poly_zero R is_zero; one_ne = poly_one_ne; cancel_mul = poly_cancel }
