-- Each fraction of polynomials over a field has one form in lowest terms with a monic denominator.
--   MonicLowest x      p/q, equal to x, with p and q coprime and q monic
--   monic_lowest       there is one for each x
--   monic_lowest_same  equal fractions have the same
use Rattle.std.proofs.Common.{ℕ, zero, suc, refl, List, [], ◌∷◌}
use Rattle.sg_algebra.specs.Ring.{Ring, Domain, Field}
use Rattle.sg_algebra.specs.Coefficients.{coef}
use Rattle.sg_algebra.proofs.Solver.{by, scale, reads}
use Rattle.sg_algebra.proofs.Field.{domain, product_ne}
use Rattle.sg_algebra.proofs.PolynomialRing.{PolyR}
use Rattle.sg_algebra.proofs.Degree.{Degree, Monic, PolyD, degree_of}
use Rattle.sg_algebra.proofs.Division.{PolyE}
use Rattle.sg_algebra.proofs.Coprime.{Coprime}
use Rattle.sg_algebra.proofs.PolynomialLowest.{monic_multiple, lowest_same_poly}
use Rattle.sg_algebra.proofs.Quotient.{Quotient, ◌≃◌, Lowest, lowest}

module _ (F : Field) where
  open F use {R, is_zero, inv, mul_inv}
  open R use {A, ◌≈◌, ◌⊠◌, O, I, rfl, trans}
  open PolyR R use {◌≈◌ as ◌≋◌, ◌⊞◌ as ◌⊕◌, ◌⊠◌ as ◌⊗◌, ⊟ as ⊖}

  abbrev P : Ring
  P = PolyR R

  abbrev D : Domain
  D = PolyD (domain F)

  pub record MonicLowest (x : Quotient D) : Type 0 where
    pub p : List A
    pub q : List A
    pub n : ℕ
    pub monic : Monic R n q
    pub coprime : Coprime P p q
    pub cross : x.num ⊗ q ≋ p ⊗ x.den

  -- both parts times b, where a b = 1
  scaled : (u w s t a b : List A) → u ⊗ s ⊕ w ⊗ t ≋ (I ∷ []) → a ⊗ b ≋ (I ∷ []) → (a ⊗ u) ⊗ (b ⊗ s) ⊕ (a ⊗ w) ⊗ (b ⊗ t) ≋ (I ∷ [])
  scaled u w s t a b h j = by P (u ∷ w ∷ s ∷ t ∷ a ∷ b ∷ []) (P.add_cong (scale P (a ⊗ b) h) j) (search reads depth 20 fits 4000) refl

  crossed : (n d s t b : List A) → n ⊗ t ≋ s ⊗ d → n ⊗ (b ⊗ t) ≋ (b ⊗ s) ⊗ d
  crossed n d s t b h = by P (n ∷ d ∷ s ∷ t ∷ b ∷ []) (scale P b h) (search reads depth 16) refl

  pub constants-inverse : (l : A) → ¬ (l ≈ O) → (l ∷ []) ⊗ (inv l ∷ []) ≋ (I ∷ [])
  constants-inverse l h = record { image = record { at = at } }
    where
      at : (i : ℕ) → coef R ((l ∷ []) ⊗ (inv l ∷ [])) i ≈ coef R (I ∷ []) i
      at zero = trans R.add_O (mul_inv l h)
      at (suc i) = rfl

  pub monic_lowest : (x : Quotient D) → MonicLowest x
  monic_lowest x = go (lowest (PolyE F) x)
    where
      go : Lowest (PolyE F) x → MonicLowest x
      go y = made (degree_of R is_zero y.form.den y.form.den_ne)
        where
          made : (n : ℕ) × Degree R n y.form.den → MonicLowest x
          made d = record {
            p = (inv (coef R y.form.den d.0) ∷ []) ⊗ y.form.num;
            q = (inv (coef R y.form.den d.0) ∷ []) ⊗ y.form.den;
            n = d.0;
            monic = monic_multiple F d.0 y.form.den d.1;
            coprime = record {
              u = (coef R y.form.den d.0 ∷ []) ⊗ y.coprime.u;
              w = (coef R y.form.den d.0 ∷ []) ⊗ y.coprime.w;
              comb = scaled y.coprime.u y.coprime.w y.form.num y.form.den (coef R y.form.den d.0 ∷ []) (inv (coef R y.form.den d.0) ∷ []) y.coprime.comb (constants-inverse (coef R y.form.den d.0) d.1.lead);
            };
            cross = crossed x.num x.den y.form.num y.form.den (inv (coef R y.form.den d.0) ∷ []) y.same.cross;
          }

  pub monic_lowest_same : (x y : Quotient D) (f : MonicLowest x) (g : MonicLowest y) → ◌≃◌ D x y → (f.p ≋ g.p) × (f.q ≋ g.q)
  monic_lowest_same x y f g h =
      lowest_same_poly (domain F) f.n g.n f.p f.q g.p g.q f.monic g.monic f.coprime g.coprime
      (D.cancel_mul {c = x.den ⊗ y.den} (product_ne D x.den_ne y.den_ne) (parts x.num x.den y.num y.den f.p f.q g.p g.q h.cross f.cross g.cross))
    where
      parts : (n d m e p q r s : List A) → n ⊗ e ≋ m ⊗ d → n ⊗ q ≋ p ⊗ d → m ⊗ s ≋ r ⊗ e → (d ⊗ e) ⊗ (p ⊗ s) ≋ (d ⊗ e) ⊗ (r ⊗ q)
      parts n d m e p q r s h j k = by P (n ∷ d ∷ m ∷ e ∷ p ∷ q ∷ r ∷ s ∷ [])
          (P.add_cong (scale P (q ⊗ s) h) (P.add_cong (scale P (⊖ (e ⊗ s)) j) (scale P (d ⊗ q) k))) (search reads depth 24 fits 8000) refl
