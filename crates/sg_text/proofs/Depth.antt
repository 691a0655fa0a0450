-- Open parentheses, counted byte by byte.
--   open_after-take     one more byte
--   Flat                so far no more than these are open
--   flat-next, flat-deep     after a byte, at a byte that is too deep
use Rattle.std.specs.Prelude.{◌≡◌, ◌==◌, ℕ, ◌+◌, ◌-◌, ◌≤◌, ◌<◌, ◌⊎◌, cond, List, [], ◌∷◌, ◌++◌, length, take, slice_index_or}
use Rattle.std.proofs.Common.{refl, sym, ap, ◌∙◌, subst, arith, add-one, inl, inr}
use Rattle.std.proofs.Math.Seq.{take-suc}
use Rattle.sg_spec.specs.Reading.{open_from, open_after, IsDeep}

abbrev pub with_byte : ℕ → ℕ → ℕ
with_byte n b = cond (b == 40) (n + 1) (cond (b == 41) (n - 1) n)

open_from-one_more : (n : ℕ) (u : List ℕ) (b : ℕ) → open_from n (u ++ (b ∷ [])) ≡ with_byte (open_from n u) b
open_from-one_more n [] b = refl
open_from-one_more n (c ∷ u) b = open_from-one_more (with_byte n c) u b

pub open_after-take : (w : List ℕ) (i : ℕ) → i < length w → open_after (take (i + 1) w) ≡ with_byte (open_after (take i w)) (slice_index_or w i 0)
open_after-take w i h = ap (λ q. open_after (take q w)) (add-one i) ∙ (ap open_after (take-suc w i 0 h) ∙ open_from-one_more 0 (take i w) (slice_index_or w i 0))

pub record Flat (w : List ℕ) (most i count : ℕ) : Type 0 where
  pub counts : count ≡ open_after (take i w)
  pub small : count ≤ most
  pub below : (q : ℕ) → q < i → open_after (take (q + 1) w) ≤ most

before_or_at : (q i : ℕ) → q < i + 1 → (q < i) ⊎ (q ≡ i)
before_or_at q i h = grind arith

pub flat-next : (w : List ℕ) (most i count next : ℕ) → i < length w → Flat w most i count → next ≡ with_byte count (slice_index_or w i 0) → next ≤ most → Flat w most (i + 1) next
flat-next w most i count next h f e m =
    let a : next ≡ open_after (take (i + 1) w) = e ∙ (ap (λ n. with_byte n (slice_index_or w i 0)) f.counts ∙ sym (open_after-take w i h)) in
    record {
      counts = a;
      small = m;
      below = λ q l. elim (before_or_at q i l) [ inl k ↦ f.below q k | inr k ↦ subst (λ n. n ≤ most) (a ∙ ap (λ n. open_after (take (n + 1) w)) (sym k)) m ];
    }

pub flat-deep : (w : List ℕ) (most i count next : ℕ) → i < length w → Flat w most i count → next ≡ with_byte count (slice_index_or w i 0) → most < next → IsDeep most w i
flat-deep w most i count next h f e m =
    record {
      within = h;
      deep = subst (λ n. most < n) (e ∙ (ap (λ n. with_byte n (slice_index_or w i 0)) f.counts ∙ sym (open_after-take w i h))) m;
      before = f.below;
    }
