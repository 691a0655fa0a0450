-- Lists with one more item at the end: places, values, pairs.
--   each-more, pairwise-more, pairwise-raised     of each item, of pairs
--   at_places-more, at_places-new                 the expressions at the places
--   ascending-more, up_to-all, up_to-more, up_to-new
--   values-parts                                  the values of a list with one more expression
--   values-unique                                 expressions have one value each
use Rattle.std.proofs.Common.{◌≡◌, ℕ, zero, suc, ◌<◌, ◌≤◌, ℤ, refl, ap, ap₂, ◌∙◌, List, [], ◌∷◌, ◌++◌, length, map, get_or, nat_le, cond, arith}
use Rattle.std.proofs.lemmas.List.{get_or_append_left}
use Rattle.std.proofs.Math.Seq.{get_or-append_seam}
use Rattle.std.proofs.lemmas.Bool.{lt-leb, le-leb}
use Rattle.sg_algebra.specs.Coefficients.{Each}
use Rattle.sg_algebra.proofs.Value.{Value}
use Rattle.sg_algebra.proofs.Place.{Pairwise}
use Rattle.sg_spec.specs.Tree.{Tree, here}
use Rattle.sg_spec.specs.Worth.{HasWorth}
use Rattle.sg_value_theory.proofs.TreePoints.{AreValues}
use Rattle.sg_value_theory.proofs.TowerOf.{at_places, up_to, Ascending}
use Rattle.sg_worth_theory.proofs.Worths.{worth_unique}

pub each-more : {C : Type 0} (P : C → Type 0) (xs : List C) (y : C) → Each P xs → P y → Each P (xs ++ y ∷ [])
each-more P [] y h p = (p, tt)
each-more P (x ∷ xs) y h p = (h.0, each-more P xs y h.1 p)

pub each-at : {C : Type 0} (P : C → Type 0) (xs : List C) (i : ℕ) (d : C) → i < length xs → Each P xs → P (get_or xs i d)
each-at P [] i d l h = absurd (omega (arith, l))
each-at P (x ∷ xs) zero d l h = h.0
each-at P (x ∷ xs) (suc i) d l h = each-at P xs i d (omega (arith, l)) h.1

pub pairwise-more : {A B : Type 0} (R : A → B → Type 0) (xs : List A) (ys : List B) (x : A) (y : B) → Pairwise R xs ys → R x y → Pairwise R (xs ++ x ∷ []) (ys ++ y ∷ [])
pairwise-more R [] [] x y h r = (r, tt)
pairwise-more R [] (b ∷ ys) x y h r = absurd h
pairwise-more R (a ∷ xs) [] x y h r = absurd h
pairwise-more R (a ∷ xs) (b ∷ ys) x y h r = (h.0, pairwise-more R xs ys x y h.1 r)

pub pairwise-raised : {A B C : Type 0} (R : A → B → Type 0) (S : A → C → Type 0) (f : B → C) (xs : List A) (ys : List B) → ((x : A) (y : B) → R x y → S x (f y)) → Pairwise R xs ys → Pairwise S xs (map f ys)
pairwise-raised R S f [] [] k h = tt
pairwise-raised R S f [] (b ∷ ys) k h = absurd h
pairwise-raised R S f (a ∷ xs) [] k h = absurd h
pairwise-raised R S f (a ∷ xs) (b ∷ ys) k h = (k a b h.0, pairwise-raised R S f xs ys k h.1)

pub at_places-more : (before : List Tree) (g : Tree) (places : List ℕ) → Each (λ i. i < length before) places → at_places (before ++ g ∷ []) places ≡ at_places before places
at_places-more before g [] h = refl
at_places-more before g (i ∷ is) h = ap₂ ◌∷◌ (get_or_append_left before (g ∷ []) here i h.0) (at_places-more before g is h.1)

at_places-push : (ss : List Tree) (places : List ℕ) (i : ℕ) → at_places ss (places ++ i ∷ []) ≡ at_places ss places ++ get_or ss i here ∷ []
at_places-push ss [] i = refl
at_places-push ss (j ∷ is) i = ap (λ xs. get_or ss j here ∷ xs) (at_places-push ss is i)

pub at_places-new : (before : List Tree) (g : Tree) (places : List ℕ) → Each (λ i. i < length before) places → at_places (before ++ g ∷ []) (places ++ length before ∷ []) ≡ at_places before places ++ g ∷ []
at_places-new before g places h = at_places-push (before ++ g ∷ []) places (length before) ∙ ap₂ (λ (xs : List Tree) (y : Tree). xs ++ y ∷ []) (at_places-more before g places h) (get_or-append_seam before g [] here)

pub ascending-more : (places : List ℕ) (n : ℕ) → Ascending places → Each (λ i. i < n) places → Ascending (places ++ n ∷ [])
ascending-more [] n a h = tt
ascending-more (i ∷ []) n a h = (h.0, tt)
ascending-more (i ∷ (j ∷ js)) n a h = (a.0, ascending-more (j ∷ js) n a.1 h.1)

pub up_to-all : (j : ℕ) (places : List ℕ) → Each (λ i. i < j) places → up_to j places ≡ length places
up_to-all j [] h = refl
up_to-all j (i ∷ is) h = let l : i ≤ j = omega (arith, h.0) in ap (λ b. cond b (suc (up_to j is)) (up_to j is)) (le-leb i j l) ∙ ap suc (up_to-all j is h.1)

pub up_to-more : (j : ℕ) (places : List ℕ) (n : ℕ) → j < n → up_to j (places ++ n ∷ []) ≡ up_to j places
up_to-more j [] n l = ap (λ b. cond b 1 0) (lt-leb n j l)
up_to-more j (i ∷ is) n l = ap (λ m. cond (nat_le i j) (suc m) m) (up_to-more j is n l)

pub up_to-new : (places : List ℕ) (n : ℕ) → Each (λ i. i < n) places → up_to n (places ++ n ∷ []) ≡ suc (length places)
up_to-new [] n h = let l : n ≤ n = omega arith in ap (λ b. cond b 1 0) (le-leb n n l)
up_to-new (i ∷ is) n h = let l : i ≤ n = omega (arith, h.0) in ap (λ b. cond b (suc (up_to n (is ++ n ∷ []))) (up_to n (is ++ n ∷ []))) (le-leb i n l) ∙ ap suc (up_to-new is n h.1)

module _ {d : ℕ} (letter : Value d) (k : ℤ) where
  pub values-parts : (xs : List Tree) (g : Tree) (ts : ℕ → Value d) → AreValues letter k (xs ++ g ∷ []) ts → AreValues letter k xs ts × HasWorth letter g k (ts (length xs))
  values-parts [] g ts h = (tt, h.0)
  values-parts (x ∷ xs) g ts h = let r = values-parts xs g (λ i. ts (suc i)) h.1 in ((h.0, r.0), r.1)

  pub values-unique : (xs : List Tree) (ts us : ℕ → Value d) → AreValues letter k xs ts → AreValues letter k xs us → (i : ℕ) → i < length xs → ts i ≡ us i
  values-unique [] ts us h i n l = absurd (omega (arith, l))
  values-unique (x ∷ xs) ts us h i zero l = worth_unique letter x k (ts 0) (us 0) h.0 i.0
  values-unique (x ∷ xs) ts us h i (suc n) l = values-unique xs (λ i. ts (suc i)) (λ i. us (suc i)) h.1 i.1 n (omega (arith, l))
