-- The rows of the powers.
--   powers_more     one more row, which is made of the last one by a step
--   null_some, null_is    the first dependence isn't 0, and is a certificate
--   null_none       among more powers than they have items there is one
use Rattle.std.proofs.Common.{◌≡◌, ℕ, zero, suc, ◌+◌, ◌*◌, ◌-◌, ◌<◌, ◌⊎◌, inl, inr, refl, sym, ◌∙◌, subst, List, [], ◌∷◌, ◌++◌, length, map, get_or, arith}
use Rattle.sg_algebra.proofs.Lists.{length_map}
use Rattle.sg_algebra.proofs.Value.{Value}
use Rattle.sg_algebra.proofs.ValueField.{ValueR, value_one_ne}
use Rattle.sg_algebra.proofs.Rows.{Builds, past_row}
use Rattle.sg_algebra.proofs.Linear.{table}
use Rattle.sg_algebra.proofs.NullSpace.{axis_one}
use Rattle.sg_algebra.proofs.Tables.{get_below, get_last, push_size}
use Rattle.sg_num.specs.Value.{number}
use Rattle.sg_num.specs.declared.rat.Rat.{Rat}
use Rattle.sg_dispersion_theory.proofs.Step.{iterate}
use Rattle.sg_dispersion_theory.proofs.StepRow.{Stands, step_at}
use Rattle.sg_dispersion_theory.proofs.ValueRows.{step_built}
use Rattle.sg_dispersion_theory.proofs.Certificate.{Certificate}
use Rattle.sg_dispersion_theory.proofs.PowerTable.{null_certificate, basis_some}
use Rattle.sg_spread.specs.Powers.{ArePowers, IsNullBasis, IsSome}

pub product_some : (m n : ℕ) → 0 < m → 0 < n → 0 < m * n
product_some zero n h k = absurd (omega arith)
product_some (suc m) zero h k = absurd (omega arith)
product_some (suc m) (suc n) h k = omega arith

module _ (d e : ℕ) (a b : List (Value 0)) where
  before : (t n : ℕ) → t < n + 1 → (t < n) ⊎ (t ≡ n)
  before t n h = grind arith

  pub powers_more : (rows new : List (List Rat)) (last next : List Rat) → 0 < length rows → get_or rows (length rows - 1) [] ≡ last → ArePowers d e a b rows
      → Builds number (step_at (ValueR 0) d e a b (map number last)) (length last) next → new ≡ rows ++ next ∷ [] → ArePowers d e a b new
  powers_more rows new last next some is h built e' = subst (ArePowers d e a b) (sym e') all
    where
      stood : Stands (ValueR 0) d e (map number last) (iterate (ValueR 0) d e a b (length rows - 1))
      stood = subst (λ r. Stands (ValueR 0) d e (map number r) (iterate (ValueR 0) d e a b (length rows - 1))) is (h (length rows - 1) (omega arith))

      size : length last ≡ d * e
      size = sym (length_map number last) ∙ stood.size

      stepped : Stands (ValueR 0) d e (map number next) (iterate (ValueR 0) d e a b (suc (length rows - 1)))
      stepped = step_built number d e a b last next (iterate (ValueR 0) d e a b (length rows - 1)) stood
          (subst (λ n. Builds number (step_at (ValueR 0) d e a b (map number last)) n next) size built)

      count : suc (length rows - 1) ≡ length rows
      count = omega arith

      own : Stands (ValueR 0) d e (map number next) (iterate (ValueR 0) d e a b (length rows))
      own = subst (λ n. Stands (ValueR 0) d e (map number next) (iterate (ValueR 0) d e a b n)) count stepped

      all : ArePowers d e a b (rows ++ next ∷ [])
      all t l = elim (before t (length rows) (omega (arith, push_size rows next))) [
        | inl k ↦ subst (λ r. Stands (ValueR 0) d e (map number r) (iterate (ValueR 0) d e a b t)) (sym (get_below rows next t k)) (h t k)
        | inr k ↦ subst (λ r. Stands (ValueR 0) d e (map number r) (iterate (ValueR 0) d e a b t)) (sym (get_last rows next t k))
            (subst (λ n. Stands (ValueR 0) d e (map number next) (iterate (ValueR 0) d e a b n)) (sym k) own)
      ]

  -- ---- The first dependence

  module _ (n : ℕ) (basis : List (List Rat)) (m : IsNullBasis d e a b n basis) where
    pub null_some : 0 < length basis → IsSome (map number (get_or basis 0 []))
    null_some l = record { place = m.form.own 0; some = λ z. value_one_ne 0 (sym (m.form.one 0 0 l l ∙ axis_one 0 0 refl) ∙ z) }

    pub null_is : 0 < length basis → Certificate (ValueR 0) d e a b (map number (get_or basis 0 []))
    null_is l = null_certificate number d e a b n m.rows m.is (map number (get_or basis 0 []))
        (λ k h. past_row number (get_or basis 0 []) k (omega (arith, m.sized 0 l))) (λ j h. m.sound j h 0)

    pub null_none : basis ≡ [] → d * e < n → ⊥
    null_none is l = let h = basis_some number d e a b n m.rows m.is (table number basis) l m.complete in none basis is h
      where
        none : (bs : List (List Rat)) → bs ≡ [] → 0 < length (table number bs) → ⊥
        none bs e h = let q : 0 < 0 = rw e at h in absurd (omega arith)
