-- A probe of fractions, which have no variable: each is its own value.
--   probed    a list of fractions is the list of its values
use Rattle.std.proofs.Common.{◌≡◌, ℕ, suc, zero, ◌≤◌, List, [], ◌∷◌, length, take, refl, arith}
use Rattle.sg_algebra.proofs.Value.{zero_value}
use Rattle.sg_algebra.proofs.Place.{Pairwise, HasValue}
use Rattle.sg_num.specs.Value.{number}
use Rattle.sg_num.specs.Probe.{IsProbe}
use Rattle.sg_num.specs.declared.rat.Rat.{Rat}

with_itself : {A : Type 0} (R : A → A → Type 0) → ((x : A) → R x x) → (xs : List A) → Pairwise R xs xs
with_itself R h [] = tt
with_itself R h (x ∷ xs) = (h x, with_itself R h xs)

pub probed : (list : List Rat) → IsProbe 0 number list [] list
probed list = record {
  count = refl;
  each = with_itself (λ x r. HasValue 0 (number x) [] (number r)) (λ x. (refl, refl)) list;
  nonzero = with_itself (λ x r. ¬ (number x ≡ zero_value) → ¬ (number r ≡ zero_value)) (λ x n. n) list;
}

pub taken_whole : {A : Type 0} (xs : List A) (n : ℕ) → length xs ≤ n → take n xs ≡ xs
taken_whole [] zero h = refl
taken_whole [] (suc n) h = refl
taken_whole (x ∷ xs) zero h = absurd (omega arith)
taken_whole (x ∷ xs) (suc n) h = let e : take n xs ≡ xs = taken_whole xs n (omega arith) in rw e refl
