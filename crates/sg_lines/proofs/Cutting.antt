-- The first piece of a text.
--   piece-cut      a separator stands at i and none before it
--   piece-whole    no separator stands in the text
use Rattle.std.specs.Prelude.{◌≡◌, ℕ, zero, suc, ◌+◌, ◌-◌, ◌<◌, ◌==◌, cond, true, false, List, [], ◌∷◌, length, take, drop}
use Rattle.std.proofs.Common.{refl, ap, ◌∙◌, arith, get_or, add-one, length-drop}
use Rattle.std.proofs.Math.Seq.{take-length}
use Rattle.std.proofs.lemmas.Bool.Decides.{nat_tests}
use Rattle.sg_lines.specs.Lines.{with_byte, pieces}

other-byte : (b s : ℕ) → (b ≡ s → ⊥) → (b == s) ≡ false
other-byte b s h = grind (arith, nat_tests)

same-byte : (b s : ℕ) → b ≡ s → (b == s) ≡ true
same-byte b s h = grind (arith, nat_tests)

cut-at : (s : ℕ) (xs : List ℕ) (i : ℕ) → i < length xs → ((k : ℕ) → k < i → get_or xs k 0 ≡ s → ⊥) → get_or xs i 0 ≡ s
    → pieces s xs ≡ take i xs ∷ pieces s (drop (suc i) xs)
cut-at s [] i l before at = absurd (omega arith)
cut-at s (x ∷ xs) zero l before at = rw (same-byte x s at) refl
cut-at s (x ∷ xs) (suc i) l before at =
    let no : (x == s) ≡ false = other-byte x s (before 0 (omega arith)) in
    let cut : pieces s xs ≡ take i xs ∷ pieces s (drop (suc i) xs) = cut-at s xs i (omega arith) (λ k h. before (suc k) (omega arith)) at in
    rw (no, cut) refl

-- what is left from a place on, whole
all-left : (n : ℕ) (xs : List ℕ) → take (length xs - n) (drop n xs) ≡ drop n xs
all-left n xs = rw (← length-drop n xs) (take-length (drop n xs))

pub piece-cut : (s : ℕ) (xs : List ℕ) (i : ℕ) → i < length xs → ((k : ℕ) → k < i → get_or xs k 0 ≡ s → ⊥) → get_or xs i 0 ≡ s
    → pieces s xs ≡ take i xs ∷ pieces s (take (length xs - (i + 1)) (drop (i + 1) xs))
piece-cut s xs i l before at = rw (all-left (i + 1) xs, add-one i) (cut-at s xs i l before at)

whole : (s : ℕ) (xs : List ℕ) → 0 < length xs → ((k : ℕ) → k < length xs → get_or xs k 0 ≡ s → ⊥) → pieces s xs ≡ xs ∷ []
whole s [] l none = absurd (omega arith)
whole s (x ∷ []) l none = rw (other-byte x s (none 0 (omega arith))) refl
whole s (x ∷ (y ∷ xs)) l none =
    let no : (x == s) ≡ false = other-byte x s (none 0 (omega arith)) in
    let more : pieces s (y ∷ xs) ≡ (y ∷ xs) ∷ [] = whole s (y ∷ xs) (omega arith) (λ k h. none (suc k) (omega arith)) in
    ap (λ t. cond t ([] ∷ pieces s (y ∷ xs)) (with_byte x (pieces s (y ∷ xs)))) no ∙ ap (with_byte x) more

pub piece-whole : (s : ℕ) (xs : List ℕ) → (length xs == 0) ≡ false → ((k : ℕ) → k < length xs → get_or xs k 0 ≡ s → ⊥)
    → pieces s xs ≡ xs ∷ pieces s (take (length xs - length xs) (drop (length xs) xs))
piece-whole s xs l none =
    let no : length xs - length xs ≡ 0 = omega arith in
    let some : 0 < length xs = grind (arith, nat_tests) in
    rw no (whole s xs some none)
