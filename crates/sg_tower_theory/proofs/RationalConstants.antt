-- Among the rational functions of k only constants are fixed by the shift.
use Rattle.std.proofs.Common.{◌≡◌, ℕ, zero, suc, ◌<◌, ◌≤◌, refl, sym, ap, ◌∙◌, List, [], ◌∷◌, length, arith}
use mathlib.Core.Quot.{mk, sound, ind, lift, Quot-set}
use Rattle.sg_algebra.specs.Ring.{Ring, Domain, Field, Hom}
use Rattle.sg_algebra.specs.Coefficients.{coef}
use Rattle.sg_algebra.proofs.Ring.{nat}
use Rattle.sg_algebra.proofs.Solver.{by, scale, reads}
use Rattle.sg_algebra.proofs.Field.{domain, product_ne}
use Rattle.sg_algebra.proofs.Divides.{identity}
use Rattle.sg_algebra.proofs.Coprime.{coprime_on}
use Rattle.sg_algebra.proofs.PolynomialRing.{PolyR}
use Rattle.sg_algebra.proofs.Degree.{Below, PolyD}
use Rattle.sg_algebra.proofs.Shift.{moved, movedH, twist-top, twist-past, twist-second}
use Rattle.sg_algebra.proofs.Quotient.{Quotient, ◌≃◌, whole_quotient}
use Rattle.sg_algebra.proofs.MonicLowest.{MonicLowest, monic_lowest, monic_lowest_same}
use Rattle.sg_algebra.proofs.Quotient.{QuotientR, QuotientF}
use Rattle.sg_algebra.proofs.Classes.{one_map, exact_field}
use Rattle.sg_algebra.proofs.Ratio.{ratio-is}
use Rattle.sg_algebra.proofs.Level.{Level, K, level_path, level_set}
use Rattle.sg_algebra.proofs.Value.{◌+ᵛ◌, zero_value, one_value, raws, over_value}
use Rattle.sg_algebra.proofs.ValueField.{ValueR, same_raw}
use Rattle.sg_algebra.proofs.OverValue.{ne_raws}
use Rattle.sg_algebra.proofs.Embedding.{constant_value, numeral_ne}
use Rattle.sg_tower_theory.proofs.Ends.{lowered, below_length}
use Rattle.sg_tower_theory.proofs.Degrees.{OnlyConstants}
use Rattle.sg_algebra.proofs.ShiftValue.{shift_quotient, shift_quotient_cong}
use Rattle.sg_algebra.proofs.ShiftValue.{moved_ne, shift_value, one_poly_ne}
use Rattle.sg_tower_theory.proofs.ShiftValue.{rational_functions}

module _ (F : Field) (char : (n : ℕ) → ¬ (F.R.◌≈◌ (nat F.R (suc n)) F.R.O)) where
  open F use {R, is_zero, one_ne}
  open R use {A, ◌≈◌, ◌⊞◌, ◌⊠◌, ⊟, O, I, rfl, symm, trans, add_cong, mul_cong}
  open PolyR R use {◌≈◌ as ◌≋◌, ◌⊞◌ as ◌⊕◌, ◌⊠◌ as ◌⊗◌}

  abbrev P : Ring
  P = PolyR R

  abbrev D : Domain
  D = PolyD (domain F)

  abbrev σ : Hom D.R D.R
  σ = movedH R I

  -- a polynomial that the shift fixes is a constant
  pub fixed_below : (p : List A) → moved R I p ≋ p → Below R 1 p
  fixed_below p e = lowered R 1 p at (length p) (below_length R p)
    where
      gone : (u l m : A) (n : ℕ) → m ≈ u ⊞ I ⊠ (nat R (suc n) ⊠ l) → m ≈ u → Dec (l ≈ O) → l ≈ O
      gone u l m n h k (yes z) = z
      gone u l m n h k (no z) = absurd (product_ne (domain F) (char n) z (by R (u ∷ l ∷ m ∷ nat R (suc n) ∷ []) (add_cong (symm h) k) (search reads depth 16) refl))

      at : (n : ℕ) → 1 ≤ n → ((i : ℕ) → n < i → coef R p i ≈ O) → coef R p n ≈ O
      at zero l h = absurd (omega arith)
      at (suc n) l h = gone (coef R p n) (coef R p (suc n)) (coef R (moved R I p) n) n (twist-second R (identity R) I n p h) (e.image.at n) (is_zero (coef R p (suc n)))

  abbrev pub shifted_quotient : Quotient D → Quotient D
  shifted_quotient = shift_quotient D σ (moved_ne R)

  shift_lowest : (r : Quotient D) → MonicLowest F r → MonicLowest F (shifted_quotient r)
  shift_lowest r f = record {
    p = moved R I f.p;
    q = moved R I f.q;
    n = f.n;
    monic = record { top = trans (twist-top R (identity R) I f.n f.q f.monic.ends) f.monic.top; ends = twist-past R (identity R) I f.n f.q f.monic.ends };
    coprime = coprime_on P P σ f.p f.q f.coprime;
    cross = P.trans (P.symm (σ.on-mul r.num f.q)) (P.trans (σ.on_cong (r.num ⊗ f.q) (f.p ⊗ r.den) f.cross) (σ.on-mul f.p r.den));
  }

  pub constant_part : Quotient D → A
  constant_part r = coef R (monic_lowest F r).p 0

  pub constant_part_same : (r s : Quotient D) → ◌≃◌ D r s → constant_part r ≈ constant_part s
  unfolding constant_part
  constant_part_same r s h = (monic_lowest_same F r s (monic_lowest F r) (monic_lowest F s) h).0.image.at 0

  pub fixed_quotient : (r : Quotient D) → ◌≃◌ D (shifted_quotient r) r → ◌≃◌ D r (whole_quotient D (constant_part r ∷ []))
  unfolding shift_lowest constant_part
  fixed_quotient r h = go (monic_lowest F r) (monic_lowest_same F (shifted_quotient r) r (shift_lowest r (monic_lowest F r)) (monic_lowest F r) h)
    where
      go : (f : MonicLowest F r) → (moved R I f.p ≋ f.p) × (moved R I f.q ≋ f.q) → ◌≃◌ D r (whole_quotient D (coef R f.p 0 ∷ []))
      go f e = record {
        cross = by P (r.num ∷ r.den ∷ f.p ∷ f.q ∷ (coef R f.p 0 ∷ []) ∷ (I ∷ []) ∷ [])
            (P.add_cong f.cross (P.add_cong (scale P (P.⊟ r.num) one) (scale P r.den first))) (search reads depth 20 fits 4000) refl;
      }
        where
          top : (n : ℕ) → coef R f.q n ≈ I → n ≡ 0
          top zero t = refl
          top (suc n) t = absurd (one_ne (trans (symm t) ((fixed_below f.q e.1).none_from (suc n) (omega arith))))

          one_at : (n : ℕ) → n ≡ 0 → coef R f.q n ≈ I → (i : ℕ) → coef R f.q i ≈ coef R (I ∷ []) i
          one_at zero z t zero = t
          one_at (suc n) z t zero = absurd (omega (arith, z))
          one_at n z t (suc i) = (fixed_below f.q e.1).none_from (suc i) (omega arith)

          one : f.q ≋ (I ∷ [])
          one = record { image = record { at = one_at f.n (top f.n f.monic.top) f.monic.top } }

          first_at : (i : ℕ) → coef R f.p i ≈ coef R (coef R f.p 0 ∷ []) i
          first_at zero = rfl
          first_at (suc i) = (fixed_below f.p e.0).none_from (suc i) (omega arith)

          first : f.p ≋ (coef R f.p 0 ∷ [])
          first = record { image = record { at = first_at } }

-- ---- Values
module _ (d : ℕ) where
  abbrev F : Field
  F = Level d

  raw_nat : (n : ℕ) → (nat (ValueR d) n).raw ≡ nat F.R n
  unfolding zero_value one_value ◌+ᵛ◌
  raw_nat zero = refl
  raw_nat (suc n) = ap (λ x. F.R.◌⊞◌ x F.R.I) (raw_nat n)

  zero_raw : (n : ℕ) → F.R.◌≈◌ (nat F.R n) F.R.O → F.R.◌≈◌ (nat (ValueR d) n).raw (zero_value {d = d}).raw
  unfolding zero_value
  zero_raw n e = rw (raw_nat n) e

  pub char : (n : ℕ) → ¬ (F.R.◌≈◌ (nat F.R (suc n)) F.R.O)
  char n e = numeral_ne d (suc n) (omega arith) (same_raw d (nat (ValueR d) (suc n)) zero_value (zero_raw (suc n) e))

  -- the constant that a fixed value is
  pub constant_raw : K (suc d) → K d
  constant_raw = lift (level_set d) (constant_part F char) (λ r s h. level_path d (constant_part F char r) (constant_part F char s) (constant_part_same F char r s h))

  fixed_raw : (x : K (suc d)) → one_map (QuotientR (PolyD (domain F))) (shifted_quotient F char) (shift_quotient_cong (PolyD (domain F)) (movedH F.R F.R.I) (moved_ne F.R)) x ≡ x → x ≡ mk (whole_quotient (PolyD (domain F)) (constant_raw x ∷ []))
  unfolding constant_raw
  fixed_raw = ind (λ x. hlevel Quot-set) (λ r h. sound (fixed_quotient F char r (exact_field (QuotientF (PolyD (domain F))) (shifted_quotient F char r) r h)))

  raws-one : (c : K d) → raws (record { raw = c } ∷ []) ≡ c ∷ []
  unfolding raws
  raws-one c = refl

  raws-unit : raws (one_value {d = d} ∷ []) ≡ F.R.I ∷ []
  unfolding raws one_value
  raws-unit = refl

  constant_is : (c : K d) → (constant_value d (record { raw = c })).raw ≡ mk (whole_quotient (PolyD (domain F)) (c ∷ []))
  unfolding over_value
  constant_is c = ratio-is (PolyD (domain F)) (raws (record { raw = c } ∷ [])) (raws (one_value ∷ [])) (ne_raws d (one_value ∷ []) (one_poly_ne d))
      ∙ sound (record { cross = rw (raws-one c, raws-unit) ((PolyR F.R).rfl) })

  -- among the rational functions only constants are fixed
  pub rational_constants : OnlyConstants (rational_functions d)
  unfolding shift_value
  rational_constants x h = (record { raw = constant_raw x.raw }, ap (λ r. record { raw = r }) (fixed_raw x.raw (ap (λ v. v.raw) h) ∙ sym (constant_is (constant_raw x.raw))))
