-- Rows that Horner's scheme builds.
--   built_as            a row that is built for one target is built for an equal one
--   zeros_stand         the row of zeros stands for no coefficient
--   next_stands         the next row stands for one coefficient more
--   with_next, row_zero a row of items that are all 0, found one by one
use Rattle.std.proofs.Common.{◌≡◌, ℕ, suc, ◌+◌, ◌*◌, ◌-◌, ◌<◌, ◌⊎◌, inl, inr, ◌≤◌, sym, ap, subst, ◌∙◌, List, [], ◌∷◌, length, map, drop, get_or, arith}
use Rattle.std.proofs.Math.Seq.{drop-cons}
use Rattle.std.proofs.lemmas.List.{drop_all}
use Rattle.sg_algebra.proofs.Lists.{length_map}
use Rattle.sg_algebra.proofs.Value.{Value, zero_value, ◌+ᵛ◌}
use Rattle.sg_algebra.proofs.ValueField.{ValueR}
use Rattle.sg_algebra.proofs.Polynomial.{coefficient}
use Rattle.sg_algebra.proofs.Rows.{Builds, past_row}
use Rattle.sg_num.specs.Value.{number}
use Rattle.sg_num.specs.declared.rat.Rat.{Rat}
use Rattle.sg_dispersion_theory.proofs.Horner.{powers, none_stands, first_stands}
use Rattle.sg_dispersion_theory.proofs.StepRow.{Stands, step_at}

pub built_as : (f g : ℕ → Value 0) (n : ℕ) (xs : List Rat) → Builds number f n xs → ((p : ℕ) → p < n → f p ≡ g p) → Builds number g n xs
built_as f g n xs b h = record { size = b.size; built = λ k l. b.built k l ∙ h k l }

split_lt : (k n : ℕ) → (k < n) ⊎ (n ≤ k)
split_lt k n = grind arith

-- one more item of a row is 0
pub with_next : (xs : List Rat) (i : ℕ) → coefficient (map number xs) i ≡ zero_value → ((p : ℕ) → p < i → coefficient (map number xs) p ≡ zero_value) → (p : ℕ) → p < i + 1 → coefficient (map number xs) p ≡ zero_value
with_next xs i z h p l = elim (split_lt p i) [
  | inl k ↦ h p k
  | inr k ↦ let e : i ≡ p = omega arith in subst (λ j. coefficient (map number xs) j ≡ zero_value) e z
]

pub row_zero : (xs : List Rat) → ((p : ℕ) → p < length xs → coefficient (map number xs) p ≡ zero_value) → (p : ℕ) → coefficient (map number xs) p ≡ zero_value
row_zero xs h p = elim (split_lt p (length xs)) [
  | inl l ↦ h p l
  | inr l ↦ past_row number xs p l
]

module _ (d e : ℕ) (a b : List (Value 0)) where
  pub zeros_stand : (row list : List Rat) → Builds number (λ p. zero_value) (d * e) row → Stands (ValueR 0) d e (map number row) (powers (ValueR 0) d e a b (map number (drop (length list - 0) list)))
  zeros_stand row list z =
      subst (λ (l : List Rat). Stands (ValueR 0) d e (map number row) (powers (ValueR 0) d e a b (map number l))) (sym (drop_all (length list - 0) list (omega arith)))
      (none_stands (ValueR 0) d e a b (map number row) (length_map number row ∙ z.size) z.built)

  pub next_stands : (row new list : List Rat) (c : Rat) (t : ℕ) → t < length list → c ≡ get_or list (length list - 1 - t) c
      → Stands (ValueR 0) d e (map number row) (powers (ValueR 0) d e a b (map number (drop (length list - t) list)))
      → Builds number (λ p. step_at (ValueR 0) d e a b (map number row) p +ᵛ coefficient (number c ∷ []) p) (length row) new
      → Stands (ValueR 0) d e (map number new) (powers (ValueR 0) d e a b (map number (drop (length list - (t + 1)) list)))
  next_stands row new list c t l is s h =
      let size : length row ≡ d * e = sym (length_map number row) ∙ s.size in
      let built : Builds number (λ p. step_at (ValueR 0) d e a b (map number row) p +ᵛ coefficient (number c ∷ []) p) (d * e) new = subst (λ n. Builds number (λ p. step_at (ValueR 0) d e a b (map number row) p +ᵛ coefficient (number c ∷ []) p) n new) size h in
      let last : drop (length list - (t + 1)) list ≡ c ∷ drop (length list - t) list = cut in
      subst (λ (r : List Rat). Stands (ValueR 0) d e (map number new) (powers (ValueR 0) d e a b (map number r))) (sym last)
      (first_stands (ValueR 0) d e a b (map number row) (map number new) (number c) (map number (drop (length list - t) list)) s (length_map number new ∙ built.size) built.built)
    where
      at : length list - 1 - t ≡ length list - (t + 1)
      at = omega arith

      after : suc (length list - (t + 1)) ≡ length list - t
      after = omega (arith, l)

      cut : drop (length list - (t + 1)) list ≡ c ∷ drop (length list - t) list
      cut = drop-cons list (length list - (t + 1)) c (omega (arith, l))
          ∙ ap (λ x. x ∷ drop (suc (length list - (t + 1))) list) (sym (subst (λ i. c ≡ get_or list i c) at is))
          ∙ ap (λ i. c ∷ drop i list) after
