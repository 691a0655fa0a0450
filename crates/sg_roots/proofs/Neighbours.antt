-- Differences of neighbouring values, by coefficients.
--   entry_of q d j      the coefficient at j of q(k) + (k + 1) d(k)
--   entry_more          one coefficient more is known
--   next_value          where all coefficients are these, so are the values
--   differences_none, differences_next    before any coefficient, and with one more before the others
--   with_rest           the same, of the same lists
use Rattle.std.proofs.Common.{◌≡◌, ℕ, zero, suc, ◌+◌, ◌-◌, ◌<◌, ◌≤◌, refl, sym, ◌∙◌, ap, ap₂, List, [], ◌∷◌, ◌++◌, length, drop, get_or, ℤ, pos, ◌+ℤ◌, ◌-ℤ◌, ◌*ℤ◌, ◌⊎◌, inl, inr, arith}
use Rattle.std.proofs.lemmas.Int.{ints}
use Rattle.sg_algebra.specs.Coefficients.{zip_longest}
use Rattle.sg_algebra.proofs.Evaluation.{eval-add, eval_cong}
use Rattle.sg_algebra.proofs.PolynomialRing.{coef-zip}
use Rattle.sg_algebra.proofs.Solver.{ring, by, scale}
use Rattle.sg_algebra.proofs.Whole.{ℤR, readsℤ}
use Rattle.sg_num.specs.Roots.{whole_at}
use Rattle.sg_roots.proofs.Cuts.{starts, inside, past, earlier}
use Rattle.sg_roots.proofs.Values.{value_next}

abbrev pub entry_of : List ℤ → List ℤ → ℕ → ℤ
entry_of q d j = get_or q j (pos 0) +ℤ (get_or d j (pos 0) +ℤ get_or (pos 0 ∷ d) j (pos 0))

pub entry_more : (f : ℕ → ℤ) (old new : List ℤ) (x : ℤ) → new ≡ old ++ x ∷ [] → x ≡ f (length old) → ((i : ℕ) → i < length old → get_or old i (pos 0) ≡ f i) → (i : ℕ) → i < length old + 1 → get_or new i (pos 0) ≡ f i
entry_more f old new x e is h i l = ap (λ s. get_or s i (pos 0)) e ∙ elim (earlier i (length old) l) [
  | inl k ↦ starts old x (pos 0) i (omega arith) ∙ inside old x x (pos 0) i k ∙ h i k
  | inr k ↦ ap (λ j. get_or (old ++ x ∷ []) j (pos 0)) k ∙ starts old x (pos 0) (length old) (omega arith) ∙ past old x (length old) (omega arith) ∙ is ∙ ap f (sym k)
]

module _ (q d r : List ℤ) (short : length d ≤ length q - 1) (size : length r ≡ length q) (each : (i : ℕ) → i < length q → get_or r i (pos 0) ≡ entry_of q d i) where
  abbrev list : List ℤ
  list = zip_longest ◌+ℤ◌ q (zip_longest ◌+ℤ◌ d (pos 0 ∷ d))

  far : (i : ℕ) → length q ≤ i → get_or r i (pos 0) ≡ entry_of q d i
  far i h = past r (pos 0) i (omega arith) ∙ sym (zeros (get_or q i (pos 0)) (get_or d i (pos 0)) (get_or (pos 0 ∷ d) i (pos 0)) (past q (pos 0) i h) (past d (pos 0) i (omega arith)) (last i h))
    where
      zeros : (x y z : ℤ) → x ≡ pos 0 → y ≡ pos 0 → z ≡ pos 0 → x +ℤ (y +ℤ z) ≡ pos 0
      zeros x y z a b c = omega (arith, ints)

      last : (i : ℕ) → length q ≤ i → get_or (pos 0 ∷ d) i (pos 0) ≡ pos 0
      last zero h = refl
      last (suc i) h = past d (pos 0) i (omega arith)

  any : (i : ℕ) → get_or r i (pos 0) ≡ entry_of q d i
  any i = elim (where_is i (length q)) [ inl h ↦ each i h | inr h ↦ far i h ]
    where
      where_is : (i n : ℕ) → (i < n) ⊎ (n ≤ i)
      where_is i n = grind arith

  pub next_value : (m : ℤ) → whole_at r m ≡ whole_at q m +ℤ (m +ℤ pos 1) *ℤ whole_at d m
  next_value m =
      eval_cong ℤR r list m m (record { image = record { at = λ j. any j ∙ ap (λ x. get_or q j (pos 0) +ℤ x) (sym (coef-zip ℤR d (pos 0 ∷ d) j)) ∙ sym (coef-zip ℤR q (zip_longest ◌+ℤ◌ d (pos 0 ∷ d)) j) } }) refl
      ∙ eval-add ℤR q (zip_longest ◌+ℤ◌ d (pos 0 ∷ d)) m ∙ ap (λ x. whole_at q m +ℤ x) (eval-add ℤR d (pos 0 ∷ d) m) ∙ ring ℤR (whole_at q m ∷ whole_at d m ∷ m ∷ []) (search readsℤ depth 20) refl

pub differences_none : (c d : List ℤ) → d ≡ [] → length c ≤ 1 → (m : ℤ) → whole_at d m ≡ whole_at c (m +ℤ pos 1) -ℤ whole_at c m
differences_none [] d e h m = ap (λ x. whole_at x m) e ∙ ring ℤR (m ∷ []) (search readsℤ depth 16) refl
differences_none (x ∷ []) d e h m = ap (λ x. whole_at x m) e ∙ ring ℤR (x ∷ m ∷ []) (search readsℤ depth 16) refl
differences_none (x ∷ y ∷ c) d e h m = absurd (omega arith)

-- with the coefficient x before those of q, whose differences are d
joined : (x m q q' d : ℤ) → d ≡ q' -ℤ q → q +ℤ (m +ℤ pos 1) *ℤ d ≡ (x +ℤ (m +ℤ pos 1) *ℤ q') -ℤ (x +ℤ m *ℤ q)
joined x m q q' d e = by ℤR (x ∷ m ∷ q ∷ q' ∷ d ∷ []) (scale ℤR (m +ℤ pos 1) e) (search readsℤ depth 20) refl

pub differences_next : (c d r : List ℤ) (i j : ℕ) → j ≡ suc i → i < length c → ((m : ℤ) → whole_at d m ≡ whole_at (drop j c) (m +ℤ pos 1) -ℤ whole_at (drop j c) m)
    → ((m : ℤ) → whole_at r m ≡ whole_at (drop j c) m +ℤ (m +ℤ pos 1) *ℤ whole_at d m) → (m : ℤ) → whole_at r m ≡ whole_at (drop i c) (m +ℤ pos 1) -ℤ whole_at (drop i c) m
differences_next c d r i j e h before is m =
    is m ∙ joined (get_or c i (pos 0)) m (whole_at (drop j c) m) (whole_at (drop j c) (m +ℤ pos 1)) (whole_at d m) (before m)
    ∙ ap₂ ◌-ℤ◌ (sym (value_next c i j (m +ℤ pos 1) e h)) (sym (value_next c i j m e h))

pub with_rest : (c q r d e : List ℤ) (i : ℕ) → q ≡ drop i c → e ≡ d → ((m : ℤ) → whole_at r m ≡ whole_at q m +ℤ (m +ℤ pos 1) *ℤ whole_at e m) → (m : ℤ) → whole_at r m ≡ whole_at (drop i c) m +ℤ (m +ℤ pos 1) *ℤ whole_at d m
with_rest c q r d e i rest is f m = f m ∙ ap₂ ◌+ℤ◌ (ap (λ (s : List ℤ). whole_at s m) rest) (ap (λ (s : List ℤ). (m +ℤ pos 1) *ℤ whole_at s m) is)
