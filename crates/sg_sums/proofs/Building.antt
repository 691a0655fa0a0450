-- Lists of items that stand for elements of a ring, built by pushes.
use Rattle.std.proofs.Common.{◌≡◌, ℕ, zero, suc, ◌+◌, ◌<◌, ◌≤◌, refl, sym, ap, subst, List, [], ◌∷◌, ◌++◌, map, length, take, get_or, ◌⊎◌, inl, inr, arith}
use Rattle.sg_algebra.specs.Ring.{Ring}
use Rattle.sg_algebra.specs.Coefficients.{coef, Each}
use Rattle.sg_algebra.proofs.Place.{Pairwise}
use Rattle.sg_tower_theory.proofs.Difference.{Difference, total}

split_lt : (k n : ℕ) → (k < n) ⊎ (n ≤ k)
split_lt k n = grind arith

pub push_length : {E : Type 0} (xs : List E) (x : E) → length (xs ++ x ∷ []) ≡ length xs + 1
push_length [] x = refl
push_length (y ∷ xs) x = omega (arith, push_length xs x)

module _ (R : Ring) {E : Type 0} (m : E → R.A) where
  open R use {A, ◌≈◌, O, rfl, symm, trans}

  pub at_read : (xs : List E) (i : ℕ) (x : E) → i < length xs → x ≡ get_or xs i x → coef R (map m xs) i ≡ m x
  at_read [] i x h e = absurd (omega arith)
  at_read (y ∷ xs) zero x h e = ap m (sym e)
  at_read (y ∷ xs) (suc i) x h e = at_read xs i x (omega arith) e

  pub at_past : (xs : List E) (i : ℕ) → length xs ≤ i → coef R (map m xs) i ≡ O
  at_past [] i h = refl
  at_past (y ∷ xs) zero h = absurd (omega arith)
  at_past (y ∷ xs) (suc i) h = at_past xs i (omega arith)

  pub record Builds (target : ℕ → A) (n : ℕ) (xs : List E) : Type 0 where
    pub size : length xs ≡ n
    pub built : (k : ℕ) → k < n → coef R (map m xs) k ≈ target k

  at_push : (xs : List E) (x : E) (k : ℕ) → k ≡ length xs → coef R (map m (xs ++ x ∷ [])) k ≡ m x
  at_push [] x zero h = refl
  at_push [] x (suc k) h = absurd (omega arith)
  at_push (y ∷ xs) x zero h = absurd (omega arith)
  at_push (y ∷ xs) x (suc k) h = at_push xs x k (omega arith)

  below_push : (xs : List E) (x : E) (k : ℕ) → k < length xs → coef R (map m (xs ++ x ∷ [])) k ≡ coef R (map m xs) k
  below_push [] x k h = absurd (omega arith)
  below_push (y ∷ xs) x zero h = refl
  below_push (y ∷ xs) x (suc k) h = below_push xs x k (omega arith)

  builds_more : (target : ℕ → A) (n : ℕ) (xs : List E) (x : E) → Builds target n xs → m x ≈ target n → Builds target (n + 1) (xs ++ x ∷ [])
  builds_more target n xs x b e = record { size = omega (arith, push_length xs x, b.size); built = go }
    where
      go : (k : ℕ) → k < n + 1 → coef R (map m (xs ++ x ∷ [])) k ≈ target k
      go k h = elim (split_lt k n) [
        | inl l ↦ rw (below_push xs x k (omega (arith, b.size))) (b.built k l)
        | inr g ↦ let same : k ≡ n = omega arith in rw (at_push xs x k (omega (arith, b.size))) (subst (λ (j : ℕ). m x ≈ target j) (sym same) e)
      ]

  pub builds_push : (target : ℕ → A) (n : ℕ) (xs new : List E) (x : E) → Builds target n xs → m x ≈ target n → new ≡ xs ++ x ∷ [] → Builds target (n + 1) new
  builds_push target n xs new x b e s = rw s (builds_more target n xs x b e)

  pub builds_all : (target : ℕ → A) (n : ℕ) (xs : List E) → Builds target n xs → ((k : ℕ) → n ≤ k → target k ≈ O) → (k : ℕ) → coef R (map m xs) k ≈ target k
  builds_all target n xs b z k = elim (split_lt k n) [
    | inl l ↦ b.built k l
    | inr g ↦ rw (at_past xs k (omega (arith, b.size))) (symm (z k g))
  ]

-- ---- Pairs of lists
pub pairwise_push : {X Y : Type 0} (P : X → Y → Type 0) (xs : List X) (ys : List Y) (x : X) (y : Y) → Pairwise P xs ys → P x y → Pairwise P (xs ++ x ∷ []) (ys ++ y ∷ [])
pairwise_push P [] [] x y p h = (h, tt)
pairwise_push P [] (b ∷ ys) x y p h = absurd p
pairwise_push P (a ∷ xs) [] x y p h = absurd p
pairwise_push P (a ∷ xs) (b ∷ ys) x y p h = (p.0, pairwise_push P xs ys x y p.1 h)

pub pairwise_more : {X Y : Type 0} (P : X → Y → Type 0) (xs : List X) (ys new : List Y) (x : X) (y : Y) → Pairwise P xs ys → P x y → new ≡ ys ++ y ∷ [] → Pairwise P (xs ++ x ∷ []) new
pairwise_more P xs ys new x y p h s = rw s (pairwise_push P xs ys x y p h)

pub take_next : {X : Type 0} (xs : List X) (i : ℕ) (x : X) → i < length xs → x ≡ get_or xs i x → take (i + 1) xs ≡ take i xs ++ x ∷ []
take_next [] i x h e = absurd (omega arith)
take_next (y ∷ xs) zero x h e = ap (λ z. z ∷ []) (sym e)
take_next (y ∷ xs) (suc i) x h e = rw (more i) (ap (◌∷◌ y) (take_next xs i x (omega arith) e))
  where
    more : (i : ℕ) → suc i + 1 ≡ suc (i + 1)
    more i = omega arith

pub take_whole : {X : Type 0} (xs : List X) (i : ℕ) → i ≡ length xs → take i xs ≡ xs
take_whole [] i e = rw e refl
take_whole (x ∷ xs) zero e = absurd (omega arith)
take_whole (x ∷ xs) (suc i) e = ap (◌∷◌ x) (take_whole xs i (omega arith))

-- the first i items so far
pub pairwise_next : {X Y : Type 0} (P : X → Y → Type 0) (xs : List X) (ys new : List Y) (i : ℕ) (x : X) (y : Y) → Pairwise P (take i xs) ys → i < length xs → x ≡ get_or xs i x → P x y → new ≡ ys ++ y ∷ [] → Pairwise P (take (i + 1) xs) new
pairwise_next P xs ys new i x y p l e h s = rw (s, take_next xs i x l e) (pairwise_push P (take i xs) ys x y p h)

pub pairwise_whole : {X Y : Type 0} (P : X → Y → Type 0) (xs : List X) (ys : List Y) (i : ℕ) → Pairwise P (take i xs) ys → i ≡ length xs → Pairwise P xs ys
pairwise_whole P xs ys i p e = rw (take_whole xs i e) at p

pub length_take : {X : Type 0} (xs : List X) (i : ℕ) → i < length xs → length (take i xs) ≡ i
length_take [] i h = absurd (omega arith)
length_take (x ∷ xs) zero h = refl
length_take (x ∷ xs) (suc i) h = ap suc (length_take xs i (omega arith))

pub each_push : {X : Type 0} (P : X → Type 0) (xs : List X) (x : X) → Each P xs → P x → Each P (xs ++ x ∷ [])
each_push P [] x e h = (h, tt)
each_push P (y ∷ xs) x e h = (e.0, each_push P xs x e.1 h)

-- ---- Sums along a list
module _ {C R : Ring} (B : Difference C R) where
  open B use {κ}
  open R use {A, ◌≈◌, ◌⊞◌, ◌⊠◌, O, rfl, symm, trans, add_cong, add_assoc, add_comm, add_O}

  total_push : {X : Type 0} (f : X → A) (c : ℕ → C.A) (xs : List X) (x : X) → total B f c (xs ++ x ∷ []) ≈ total B f c xs ⊞ κ.on (c (length xs)) ⊠ f x
  total_push f c [] x = add_comm
  total_push f c (y ∷ xs) x = trans (add_cong rfl (total_push f (λ i. c (suc i)) xs x)) (symm add_assoc)

  pub total_next : {X : Type 0} (f : X → A) (c : ℕ → C.A) (xs : List X) (i : ℕ) (x : X) → i < length xs → x ≡ get_or xs i x → total B f c (take (i + 1) xs) ≈ total B f c (take i xs) ⊞ κ.on (c i) ⊠ f x
  total_next f c xs i x l e = rw (take_next xs i x l e) (subst (λ (j : ℕ). total B f c (take i xs ++ x ∷ []) ≈ total B f c (take i xs) ⊞ κ.on (c j) ⊠ f x) (length_take xs i l) (total_push f c (take i xs) x))

  pub total_whole : {X : Type 0} (f : X → A) (c : ℕ → C.A) (xs : List X) (i : ℕ) → i ≡ length xs → total B f c (take i xs) ≈ total B f c xs
  total_whole f c xs i e = rw (take_whole xs i e) rfl
