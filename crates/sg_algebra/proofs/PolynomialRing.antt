-- The ring of polynomials over any ring: lists of coefficients, equal where all coefficients are. It is the part of the ring of series that lists reach.
--   PolyR R                        the ring; p ≋ q is `record { image = record { at = .. } }`, equality at each place
--   coef-zip, -each, -mul, -one    the coefficients of a sum, of a list mapped, of a product, of one
--   coef-scale                     of a product with a constant
--   X, cons-is                     the variable; a ∷ p is a + X p
--   constantH                      constants as polynomials, a map of rings
--   one_coefficient, no_coefficient    equal constants; the constant zero
use Rattle.std.proofs.Common.{ℕ, zero, suc, List, [], ◌∷◌, map}
use Rattle.sg_algebra.specs.Ring.{Ring, Hom}
use Rattle.sg_algebra.specs.Coefficients.{zip_longest, coef, poly_mul}
use Rattle.sg_algebra.proofs.Ring.{O_add, O_mul, mul_O, neg_O}
use Rattle.sg_algebra.proofs.Pull.{PullR}
use Rattle.sg_algebra.proofs.Series.{series_mul, series_mul_cong, series_mul_comm, series_mul-one, series_one, SeriesR, O-series_mul}

module _ (R : Ring) where
  open R use {A, ◌≈◌, ◌⊞◌, ◌⊠◌, ⊟, O, I, rfl, symm, trans, add_cong, mul_cong, add_O}

  pub coef-zip : (p q : List A) (n : ℕ) → coef R (zip_longest ◌⊞◌ p q) n ≈ coef R p n ⊞ coef R q n
  coef-zip [] q n = symm (O_add R)
  coef-zip (a ∷ p) [] n = symm add_O
  coef-zip (a ∷ p) (b ∷ q) zero = rfl
  coef-zip (a ∷ p) (b ∷ q) (suc n) = coef-zip p q n

  pub coef-each : (g : A → A) → g O ≈ O → (p : List A) (n : ℕ) → coef R (map g p) n ≈ g (coef R p n)
  coef-each g h [] n = symm h
  coef-each g h (a ∷ p) zero = rfl
  coef-each g h (a ∷ p) (suc n) = coef-each g h p n

  pub coef-mul : (p q : List A) (n : ℕ) → coef R (poly_mul R p q) n ≈ series_mul R (coef R p) (coef R q) n
  coef-mul [] q n = symm (O-series_mul R (coef R q) n)
  coef-mul (a ∷ p) q zero = trans (coef-zip (map (◌⊠◌ a) q) (O ∷ poly_mul R p q) 0) (trans add_O (coef-each (◌⊠◌ a) (mul_O R) q 0))
  coef-mul (a ∷ p) q (suc n) = trans (coef-zip (map (◌⊠◌ a) q) (O ∷ poly_mul R p q) (suc n)) (add_cong (coef-each (◌⊠◌ a) (mul_O R) q (suc n)) (coef-mul p q n))

  pub coef-one : (n : ℕ) → coef R (I ∷ []) n ≈ series_one R n
  coef-one zero = rfl
  coef-one (suc n) = rfl

  abbrev pub PolyR : Ring
  PolyR = PullR (SeriesR R) (List A) (record {
    f = coef R;
    add = zip_longest ◌⊞◌;
    mul = poly_mul R;
    neg = map ⊟;
    zer = [];
    one = I ∷ [];
    f-add = λ p q. record { at = coef-zip p q };
    f-mul = λ p q. record { at = coef-mul p q };
    f-neg = λ p. record { at = coef-each ⊟ (neg_O R) p };
    f-zer = record { at = λ n. rfl };
    f-one = record { at = coef-one };
  })

  open PolyR use {◌≈◌ as ◌≋◌, ◌⊞◌ as ◌⊕◌, ◌⊠◌ as ◌⊗◌}

  -- ---- Constants and the variable

  abbrev pub X : List A
  X = O ∷ I ∷ []

  pub one-series_mul : (f : ℕ → A) (n : ℕ) → series_mul R (coef R (I ∷ [])) f n ≈ f n
  one-series_mul f n =
      trans (series_mul_comm R (coef R (I ∷ [])) f n) (trans (series_mul_cong R f f (coef R (I ∷ [])) (series_one R) (λ n. rfl) coef-one n) (series_mul-one R f n))

  X-series_mul : (f : ℕ → A) (n : ℕ) → series_mul R (coef R X) f (suc n) ≈ f n
  X-series_mul f n = trans (add_cong (O_mul R) (one-series_mul f n)) (O_add R)

  cons-at : (a : A) (p : List A) (n : ℕ) → coef R (a ∷ p) n ≈ coef R ((a ∷ []) ⊕ X ⊗ p) n
  cons-at a p zero = symm (trans (coef-zip (a ∷ []) (X ⊗ p) 0) (trans (add_cong rfl (trans (coef-mul X p 0) (O_mul R))) add_O))
  cons-at a p (suc n) = symm (trans (coef-zip (a ∷ []) (X ⊗ p) (suc n)) (trans (add_cong rfl (trans (coef-mul X p (suc n)) (X-series_mul (coef R p) n))) (O_add R)))

  pub cons-is : (a : A) (p : List A) → (a ∷ p) ≋ (a ∷ []) ⊕ X ⊗ p
  cons-is a p = record { image = record { at = cons-at a p } }

  pub cons_cong : (a b : A) (p q : List A) → a ≈ b → p ≋ q → (a ∷ p) ≋ (b ∷ q)
  cons_cong a b p q h k = record { image = record { at = go } }
    where
      go : (n : ℕ) → coef R (a ∷ p) n ≈ coef R (b ∷ q) n
      go zero = h
      go (suc n) = k.image.at n

  pub one_coefficient : (a b : A) → a ≈ b → (a ∷ []) ≋ (b ∷ [])
  one_coefficient a b h = cons_cong a b [] [] h PolyR.rfl

  pub coef-O : (n : ℕ) → coef R (O ∷ []) n ≈ O
  coef-O zero = rfl
  coef-O (suc n) = rfl

  pub no_coefficient : (O ∷ []) ≋ []
  no_coefficient = record { image = record { at = coef-O } }

  pub coef-scale : (t : A) (q : List A) (n : ℕ) → coef R ((t ∷ []) ⊗ q) n ≈ t ⊠ coef R q n
  coef-scale t q n = trans (coef-zip (map (◌⊠◌ t) q) (O ∷ []) n) (trans (add_cong (coef-each (◌⊠◌ t) (mul_O R) q n) (coef-O n)) add_O)

  pub constant-mul : (a b : A) → ((a ⊠ b) ∷ []) ≋ (a ∷ []) ⊗ (b ∷ [])
  constant-mul a b = cons_cong (a ⊠ b) ((a ⊠ b) ⊞ O) [] [] (symm add_O) PolyR.rfl

  abbrev pub constantH : Hom R PolyR
  constantH = record { on = λ a. a ∷ []; on_cong = one_coefficient; on-add = λ a b. PolyR.rfl; on-mul = constant-mul; on-one = PolyR.rfl }
