-- The roots that a scan finds.
--   found_more, found_same     after a number that is a root; after one that isn't
--   all_found                  below a bound every root is found
use Rattle.std.proofs.Common.{◌≡◌, ◌≢◌, ℕ, ◌<◌, ◌≤◌, sym, subst, List, [], ◌∷◌, ◌++◌, get_or, ℤ, pos, neg_ℤ, ◌+ℤ◌, ◌≤ℤ◌, ◌<ℤ◌, unsigned_abs, Contains, ◌⊎◌, inl, inr, ◌↔◌, arith}
use Rattle.std.proofs.lemmas.Int.{ints}
use Rattle.std.proofs.lemmas.List.Elements.{Contains-get_or, Contains-append_left, Contains-push, Contains-push_cases}
use Rattle.std.proofs.lemmas.List.Quantifiers.{all_pairs_push}
use Rattle.sg_num.specs.Roots.{whole_at, IsBound, AreRoots}

up : (m n x : ℤ) → n ≡ m +ℤ pos 1 → x <ℤ m → x <ℤ n
up m n x e h = omega (arith, ints)

self : (m n : ℤ) → n ≡ m +ℤ pos 1 → m <ℤ n
self m n e = omega (arith, ints)

split : (m n x : ℤ) → n ≡ m +ℤ pos 1 → x <ℤ n → (x <ℤ m) ⊎ (x ≡ m)
split m n x e h = grind (arith, ints)

module _ (c : List ℤ) (low m n : ℤ) (r : List ℤ) (from : low ≤ℤ m) (next : n ≡ m +ℤ pos 1) (f : AreRoots c low m r) where
  pub found_more : whole_at c m ≡ pos 0 → AreRoots c low n (r ++ m ∷ [])
  found_more root = record {
    ascending = all_pairs_push ◌<ℤ◌ r m f.ascending (λ k d inside. f.below (get_or r k d) (Contains-get_or r k d inside));
    above = λ x h. elim (Contains-push_cases r m x h) [ inl k ↦ f.above x k | inr e ↦ subst (λ y. low ≤ℤ y) e from ];
    below = λ x h. elim (Contains-push_cases r m x h) [ inl k ↦ up m n x next (f.below x k) | inr e ↦ subst (λ y. y <ℤ n) e (self m n next) ];
    sound = λ x h. elim (Contains-push_cases r m x h) [ inl k ↦ f.sound x k | inr e ↦ subst (λ y. whole_at c y ≡ pos 0) e root ];
    complete = λ x l h z. elim (split m n x next h) [
      | inl k ↦ Contains-append_left r (m ∷ []) x (f.complete x l k z)
      | inr e ↦ subst (λ y. Contains (r ++ m ∷ []) y) (sym e) (Contains-push r m)
    ];
  }

  pub found_same : whole_at c m ≢ pos 0 → AreRoots c low n r
  found_same other = record {
    ascending = f.ascending;
    above = f.above;
    below = λ x h. up m n x next (f.below x h);
    sound = f.sound;
    complete = λ x l h z. elim (split m n x next h) [
      | inl k ↦ f.complete x l k z
      | inr e ↦ absurd (other (subst (λ y. whole_at c y ≡ pos 0) e z))
    ];
  }

below_size : (b : ℕ) (m : ℤ) → ¬ (b ≤ unsigned_abs m) → (neg_ℤ (pos b) ≤ℤ m) × (m <ℤ pos b)
below_size b m h = (left b m (omega arith), right b m (omega arith))
  where
    left : (b : ℕ) (m : ℤ) → unsigned_abs m < b → neg_ℤ (pos b) ≤ℤ m
    left b m h = omega (arith, ints)

    right : (b : ℕ) (m : ℤ) → unsigned_abs m < b → m <ℤ pos b
    right b m h = omega (arith, ints)

pub all_found : (c : List ℤ) (b : ℕ) (r : List ℤ) → IsBound c b → AreRoots c (neg_ℤ (pos b)) (pos b) r → (m : ℤ) → Contains r m ↔ (whole_at c m ≡ pos 0)
all_found c b r h f m = (f.sound m, λ z. let s = below_size b m (λ g. h.away m g z) in f.complete m s.0 s.1 z)
