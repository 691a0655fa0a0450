-- Pieces of the whole numbers.
--   pieces_none     before there is one
--   pieces_more     one more
--   pieces_one      one for a constant
--   pieces_monotone pieces of the differences, as pieces of the values
use Rattle.std.proofs.Common.{◌≡◌, ℕ, zero, suc, ◌+◌, ◌<◌, ◌≤◌, refl, sym, ◌∙◌, ap, subst, List, [], ◌∷◌, ◌++◌, length, get_or, ℤ, pos, ◌+ℤ◌, ◌-ℤ◌, ◌<ℤ◌, ◌⊎◌, inl, inr, arith}
use Rattle.std.proofs.lemmas.Int.{ints}
use Rattle.std.proofs.lemmas.List.{length-append}
use Rattle.sg_algebra.proofs.Solver.{ring}
use Rattle.sg_algebra.proofs.Whole.{ℤR, readsℤ}
use Rattle.sg_num.specs.Roots.{whole_at}
use Rattle.sg_roots.specs.Signs.{IsSameSign, KeepsSign, ArePieces, AreMonotonePieces}
use Rattle.sg_roots.proofs.Sizes.{same_sign-refl}
use Rattle.sg_roots.proofs.Monotone.{monotone}

-- the start of the piece at i, with one more at the end
pub starts : (s : List ℤ) (x y : ℤ) (i : ℕ) → i ≤ length s → get_or (s ++ x ∷ []) i y ≡ get_or s i x
starts [] x y zero h = refl
starts [] x y (suc i) h = absurd (omega arith)
starts (z ∷ s) x y zero h = refl
starts (z ∷ s) x y (suc i) h = starts s x y i (omega arith)

pub inside : (s : List ℤ) (x y z : ℤ) (i : ℕ) → i < length s → get_or s i y ≡ get_or s i z
inside [] x y z i h = absurd (omega arith)
inside (w ∷ s) x y z zero h = refl
inside (w ∷ s) x y z (suc i) h = inside s x y z i (omega arith)

pub past : (s : List ℤ) (y : ℤ) (i : ℕ) → length s ≤ i → get_or s i y ≡ y
past [] y i h = refl
past (x ∷ s) y zero h = absurd (omega arith)
past (x ∷ s) y (suc i) h = past s y i (omega arith)

pub earlier : (i n : ℕ) → i < n + 1 → (i < n) ⊎ (i ≡ n)
earlier i n h = grind arith

pub pieces_none : (c : List ℤ) (low : ℤ) → ArePieces c low low []
pieces_none c low = record { first = refl; up = λ i h. absurd (omega arith); keeps = λ i h. absurd (omega arith) }

module _ (c : List ℤ) (low x y : ℤ) (s t : List ℤ) (is : t ≡ s ++ x ∷ []) (f : ArePieces c low x s) (above : x <ℤ y) (k : KeepsSign c x y) where
  at_start : (i : ℕ) → i < length s → get_or (s ++ x ∷ []) i (pos 0) ≡ get_or s i (pos 0)
  at_start i h = starts s x (pos 0) i (omega arith) ∙ inside s x x (pos 0) i h

  at_end : (i : ℕ) → i < length s → get_or (s ++ x ∷ []) (i + 1) y ≡ get_or s (i + 1) x
  at_end i h = starts s x y (i + 1) (omega arith)

  last_start : (z : ℤ) → get_or (s ++ x ∷ []) (length s) z ≡ x
  last_start z = starts s x z (length s) (omega arith) ∙ past s x (length s) (omega arith)

  last_end : get_or (s ++ x ∷ []) (length s + 1) y ≡ y
  last_end = past (s ++ x ∷ []) y (length s + 1) (omega (arith, length-append s (x ∷ [])))

  keeps_moved : (a b a' b' : ℤ) → a ≡ a' → b ≡ b' → KeepsSign c a' b' → KeepsSign c a b
  keeps_moved a b a' b' e g h = subst (λ z. KeepsSign c z b) (sym e) (subst (λ z. KeepsSign c a' z) (sym g) h)

  less_moved : (a b a' b' : ℤ) → a ≡ a' → b ≡ b' → a' <ℤ b' → a <ℤ b
  less_moved a b a' b' e g h = omega (arith, ints)

  all : ArePieces c low y (s ++ x ∷ [])
  all = record {
    first = starts s x y 0 (omega arith) ∙ f.first;
    up = λ i h. elim (earlier i (length s) (omega (arith, length-append s (x ∷ [])))) [
      | inl l ↦ less_moved (get_or (s ++ x ∷ []) i (pos 0)) (get_or (s ++ x ∷ []) (i + 1) y) (get_or s i (pos 0)) (get_or s (i + 1) x) (at_start i l) (at_end i l) (f.up i l)
      | inr e ↦ less_moved (get_or (s ++ x ∷ []) i (pos 0)) (get_or (s ++ x ∷ []) (i + 1) y) x y (ap (λ j. get_or (s ++ x ∷ []) j (pos 0)) e ∙ last_start (pos 0)) (ap (λ j. get_or (s ++ x ∷ []) (j + 1) y) e ∙ last_end) above
    ];
    keeps = λ i h. elim (earlier i (length s) (omega (arith, length-append s (x ∷ [])))) [
      | inl l ↦ keeps_moved (get_or (s ++ x ∷ []) i (pos 0)) (get_or (s ++ x ∷ []) (i + 1) y) (get_or s i (pos 0)) (get_or s (i + 1) x) (at_start i l) (at_end i l) (f.keeps i l)
      | inr e ↦ keeps_moved (get_or (s ++ x ∷ []) i (pos 0)) (get_or (s ++ x ∷ []) (i + 1) y) x y (ap (λ j. get_or (s ++ x ∷ []) j (pos 0)) e ∙ last_start (pos 0)) (ap (λ j. get_or (s ++ x ∷ []) (j + 1) y) e ∙ last_end) k
    ];
  }

  pub pieces_more : ArePieces c low y t
  pieces_more = subst (ArePieces c low y) (sym is) all

constant : (c : List ℤ) → length c < 2 → (m n : ℤ) → whole_at c m ≡ whole_at c n
constant [] h m n = refl
constant (x ∷ []) h m n = ring ℤR (x ∷ m ∷ n ∷ []) (search readsℤ depth 16) refl
constant (x ∷ y ∷ c) h m n = absurd (omega arith)

pub pieces_one : (c s : List ℤ) (low high : ℤ) → length c < 2 → s ≡ low ∷ [] → low <ℤ high → ArePieces c low high s
pieces_one c s low high h e l = pieces_more c low low high [] s e (pieces_none c low) l
    (record { same = λ m a b. subst (λ v. IsSameSign (whole_at c low) v) (constant c h low m) (same_sign-refl (whole_at c low)) })

pub pieces_monotone : (c d s : List ℤ) (low high : ℤ) → ((m : ℤ) → whole_at d m ≡ whole_at c (m +ℤ pos 1) -ℤ whole_at c m) → ArePieces d low high s → AreMonotonePieces c low high s
pieces_monotone c d s low high e f = record {
  first = f.first;
  up = f.up;
  monotone = λ i h. monotone c d (get_or s i (pos 0)) (get_or s (i + 1) high) e (f.keeps i h);
}
