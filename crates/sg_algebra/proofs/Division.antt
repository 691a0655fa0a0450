-- Division with remainder of polynomials over a field, and Euclid there.
--   divide F m w p       quotient and remainder of p by w, of degree m: from the last coefficient of p on, one multiple of w is taken away at each step
--   divide-is            p = quotient w + remainder
--   divide-below         the remainder has no coefficient from m on
--   divide_unique        quotient and remainder with both properties are unique
--   PolyE, bezoutPoly    polynomials over a field with their division; Bezout for each two
use Rattle.std.proofs.Common.{◌≡◌, ℕ, zero, suc, ◌+◌, ◌≤◌, ◌<◌, refl, List, [], ◌∷◌, ◌⊎◌, inl, inr, arith}
use Rattle.sg_algebra.specs.Ring.{Ring, Field}
use Rattle.sg_algebra.specs.Coefficients.{coef}
use Rattle.sg_algebra.proofs.Ring.{neg_O}
use Rattle.sg_algebra.proofs.Solver.{by, scale, reads}
use Rattle.sg_algebra.proofs.Field.{domain}
use Rattle.sg_algebra.proofs.PolynomialRing.{PolyR, X, cons-is, coef-zip, coef-each, coef-scale}
use Rattle.sg_algebra.proofs.Degree.{Below, Degree, below_same, below-add, below-neg, below-cons, degree_below, degree-mul, degree_or_zero, poly_size, none_above, lead_at, size_below, size_zero, PolyD}
use Rattle.sg_algebra.proofs.Euclid.{Division, Euclidean, Bezout, bezout}

module _ (R : Ring) where
  open R use {A}
  open PolyR R use {◌≈◌ as ◌≋◌, ◌⊞◌ as ◌⊕◌, ◌⊠◌ as ◌⊗◌, ⊟ as ⊖}

  abbrev P : Ring
  P = PolyR R

  step : (p q r w : List A) (a t : A) → p ≋ q ⊗ w ⊕ r → (a ∷ p) ≋ (t ∷ q) ⊗ w ⊕ ((a ∷ r) ⊕ ⊖ ((t ∷ []) ⊗ w))
  step p q r w a t h =
      P.trans (cons-is R a p) (P.trans (by P ((a ∷ []) ∷ X R ∷ p ∷ (t ∷ []) ∷ q ∷ w ∷ r ∷ []) (scale P (X R) h) (search reads depth 20 fits 5000) refl)
      (P.symm (P.add_cong (P.mul_cong (cons-is R t q) P.rfl) (P.add_cong (cons-is R a r) P.rfl))))

  -- two divisions of one polynomial: the difference of the quotients times w is that of the remainders
  moved : (w q q' r r' : List A) → q ⊗ w ⊕ r ≋ q' ⊗ w ⊕ r' → (q ⊕ ⊖ q') ⊗ w ≋ r' ⊕ ⊖ r
  moved w q q' r r' e = by P (q ∷ q' ∷ w ∷ r ∷ r' ∷ []) e (search reads depth 20) refl

  same_quotient : (q q' : List A) → q ⊕ ⊖ q' ≋ [] → q ≋ q'
  same_quotient q q' e = by P (q ∷ q' ∷ []) e (search reads depth 12) refl

  same_remainder : (w q q' r r' : List A) → q ⊗ w ⊕ r ≋ q' ⊗ w ⊕ r' → q ≋ q' → r ≋ r'
  same_remainder w q q' r r' e h = by P (q ∷ q' ∷ w ∷ r ∷ r' ∷ []) (P.add_cong e (scale P (⊖ w) h)) (search reads depth 20) refl

module _ (F : Field) where
  open F use {R, inv, mul_inv, is_zero}
  open R use {A, ◌≈◌, ◌⊞◌, ◌⊠◌, ⊟, O, I, rfl, symm, trans, add_cong, neg_cong}
  open PolyR R use {◌≈◌ as ◌≋◌, ◌⊞◌ as ◌⊕◌, ◌⊠◌ as ◌⊗◌, ⊟ as ⊖}

  module _ (m : ℕ) (w : List A) where
    abbrev pub divide : List A → List A × List A
    divide [] = ([], [])
    divide (a ∷ p) =
        let d = divide p in
        let t : A = coef R (a ∷ d.1) m ⊠ inv (coef R w m) in
        (t ∷ d.0, (a ∷ d.1) ⊕ ⊖ ((t ∷ []) ⊗ w))

    pub divide-is : (p : List A) → p ≋ (divide p).0 ⊗ w ⊕ (divide p).1
    divide-is [] = (PolyR R).rfl
    divide-is (a ∷ p) = step R p (divide p).0 (divide p).1 w a (coef R (a ∷ (divide p).1) m ⊠ inv (coef R w m)) (divide-is p)

    module _ (d : Degree R m w) where
      reduced : (s : List A) → Below R (suc m) s → Below R m (s ⊕ ⊖ (((coef R s m ⊠ inv (coef R w m)) ∷ []) ⊗ w))
      reduced s b = record { none_from = λ n l. trans (at n) (go n (split n l)) }
        where
          t : A
          t = coef R s m ⊠ inv (coef R w m)

          at : (n : ℕ) → coef R (s ⊕ ⊖ ((t ∷ []) ⊗ w)) n ≈ coef R s n ⊞ ⊟ (t ⊠ coef R w n)
          at n = trans (coef-zip R s (⊖ ((t ∷ []) ⊗ w)) n) (add_cong rfl (trans (coef-each R ⊟ (neg_O R) ((t ∷ []) ⊗ w) n) (neg_cong (coef-scale R t w n))))

          split : (n : ℕ) → m ≤ n → (n ≡ m) ⊎ (m < n)
          split n l = grind arith

          go : (n : ℕ) → (n ≡ m) ⊎ (m < n) → coef R s n ⊞ ⊟ (t ⊠ coef R w n) ≈ O
          go n (inl e) = rw e (by R (coef R s m ∷ coef R w m ∷ inv (coef R w m) ∷ []) (scale R (⊟ (coef R s m)) (mul_inv (coef R w m) d.lead)) (search reads depth 20) refl)
          go n (inr k) = by R (coef R s n ∷ t ∷ coef R w n ∷ []) (add_cong (b.none_from n (omega arith)) (scale R (⊟ t) (d.ends n k))) (search reads depth 20) refl

      pub divide-below : (p : List A) → Below R m (divide p).1
      divide-below [] = record { none_from = λ n l. rfl }
      divide-below (a ∷ p) = reduced (a ∷ (divide p).1) (below-cons R m a (divide p).1 (divide-below p))

      -- a multiple of w without coefficients from m on is zero
      multiple : (q : List A) → Below R m (q ⊗ w) → q ≋ []
      multiple q b = elim (degree_or_zero R is_zero q) [
        | inl z ↦ z
        | inr e ↦ absurd (let l : e.0 + m < m = degree_below R m (e.0 + m) (q ⊗ w) (degree-mul (domain F) e.0 m q w e.1 d) b in omega arith)
      ]

      pub divide_unique : (q q' r r' : List A) → q ⊗ w ⊕ r ≋ q' ⊗ w ⊕ r' → Below R m r → Below R m r' → (q ≋ q') × (r ≋ r')
      divide_unique q q' r r' e b b' = (same, same_remainder R w q q' r r' e same)
        where
          small : Below R m ((q ⊕ ⊖ q') ⊗ w)
          small = below_same R m (r' ⊕ ⊖ r) ((q ⊕ ⊖ q') ⊗ w) ((PolyR R).symm (moved R w q q' r r' e)) (below-add R m r' (⊖ r) b' (below-neg R m r b))

          same : q ≋ q'
          same = same_quotient R q q' (multiple (q ⊕ ⊖ q') small)

  -- ---- Euclid

  pub poly_division : (p w : List A) → ¬ (w ≋ []) → Division (PolyR R) (poly_size R is_zero) p w
  poly_division p w h = go (poly_size R is_zero w) refl
    where
      go : (s : ℕ) → poly_size R is_zero w ≡ s → Division (PolyR R) (poly_size R is_zero) p w
      go zero e = absurd (h (size_zero R is_zero w e))
      go (suc m) e = record {
        q = (divide m w p).0;
        r = (divide m w p).1;
        is = divide-is m w p;
        less = rw e (below (divide-below m w (record { lead = lead_at R is_zero w m e; ends = λ i l. (none_above R is_zero w).none_from i (rw e l) }) p));
      }
        where
          below : Below R m (divide m w p).1 → poly_size R is_zero (divide m w p).1 < suc m
          below b = let l : poly_size R is_zero (divide m w p).1 ≤ m = size_below R is_zero (divide m w p).1 m b in omega arith

  abbrev pub PolyE : Euclidean
  PolyE = record { D = PolyD (domain F); size = poly_size R is_zero; divide = poly_division }

  pub bezoutPoly : (p q : List A) → Bezout (PolyR R) p q
  bezoutPoly = bezout PolyE
