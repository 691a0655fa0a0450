-- The candidates that are confirmed one after the other.
--   confirmed_next    after one more
use Rattle.std.proofs.Common.{◌≡◌, ℕ, ◌+◌, ◌<◌, inl, inr, sym, subst, ◌∙◌, List, [], ◌∷◌, ◌++◌, length, take, get_or, ℤ, ◌<ℤ◌, AllPairs, Contains, arith}
use Rattle.std.proofs.lemmas.List.{get_or-take, take_more, length-take-le, get_or_default}
use Rattle.std.proofs.lemmas.List.Elements.{Contains-get_or, Contains-append_left, Contains-push, Contains-push_cases}
use Rattle.std.proofs.lemmas.List.Quantifiers.{all_pairs_push}
use Rattle.sg_algebra.proofs.Value.{Value}
use Rattle.sg_spread.specs.Shifts.{Meets, AreShifts, IsConfirmed}

module _ {d : ℕ} (a b : List (Value d)) where
  module _ (front r : List ℤ) (m : ℤ) (before : (x : ℤ) → Contains front x → x <ℤ m) (f : AreShifts a b front r) where
    met : Meets a b m → AreShifts a b (front ++ m ∷ []) (r ++ m ∷ [])
    met meets = record {
      ascending = all_pairs_push ◌<ℤ◌ r m f.ascending (λ k d inside. before (get_or r k d) ((f.kept (get_or r k d)).0 (Contains-get_or r k d inside)).0);
      kept = λ x. (
        λ h. elim (Contains-push_cases r m x h) [
          | inl k ↦ let (c, s) = (f.kept x).0 k in (Contains-append_left front (m ∷ []) x c, s)
          | inr e ↦ (subst (λ y. Contains (front ++ m ∷ []) y) e (Contains-push front m), subst (λ y. Meets a b y) e meets)
        ],
        λ h. elim (Contains-push_cases front m x h.0) [
          | inl k ↦ Contains-append_left r (m ∷ []) x ((f.kept x).1 (k, h.1))
          | inr e ↦ subst (λ y. Contains (r ++ m ∷ []) y) e (Contains-push r m)
        ],
      );
    }

    apart : ¬ Meets a b m → AreShifts a b (front ++ m ∷ []) r
    apart other = record {
      ascending = f.ascending;
      kept = λ x. (
        λ k. let (c, s) = (f.kept x).0 k in (Contains-append_left front (m ∷ []) x c, s),
        λ h. elim (Contains-push_cases front m x h.0) [
          | inl k ↦ (f.kept x).1 (k, h.1)
          | inr e ↦ absurd (other (subst (λ y. Meets a b y) (sym e) h.1))
        ],
      );
    }

    either : (new : List ℤ) → IsConfirmed a b m r new → AreShifts a b (front ++ m ∷ []) new
    either new c = elim c [
      | inl k ↦ subst (AreShifts a b (front ++ m ∷ [])) (sym k.1) (met k.0)
      | inr k ↦ subst (AreShifts a b (front ++ m ∷ [])) (sym k.1) (apart k.0)
    ]

  -- an item of the front stands before the next one
  below_next : (all : List ℤ) (i : ℕ) (m : ℤ) → AllPairs ◌<ℤ◌ all → i < length all → get_or all i m ≡ m → (x : ℤ) → Contains (take i all) x → x <ℤ m
  below_next all i m up l is x h =
      let (k, inside, at) = h in
      let size : length (take i all) ≡ i = length-take-le i all (omega arith) in
      let mine : get_or all k x ≡ x = sym (get_or-take i all k x (omega arith)) ∙ at in
      let next : get_or all i x ≡ m = get_or_default all i x m l ∙ is in
      let q : get_or all k x <ℤ get_or all i x = up k i x (omega arith) l in
      rw (mine, next) at q

  pub confirmed_next : (all r new : List ℤ) (i : ℕ) (m : ℤ) → AllPairs ◌<ℤ◌ all → i < length all → get_or all i m ≡ m → AreShifts a b (take i all) r → IsConfirmed a b m r new
      → AreShifts a b (take (i + 1) all) new
  confirmed_next all r new i m up l is f c =
      let t = take_more all i m l in
      let front : take (i + 1) all ≡ take i all ++ m ∷ [] = rw is at t in
      subst (λ front. AreShifts a b front new) (sym front) (either (take i all) r m (below_next all i m up l is) f new c)
