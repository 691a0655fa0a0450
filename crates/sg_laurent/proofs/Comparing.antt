-- Lists of exponents in order.
--   after_irrefl, after_trans, after_total    coming after is a total order on lists of one length
--   after_here          where the first difference decides
--   no_difference       without one, neither comes after the other
use Rattle.std.proofs.Common.{◌≡◌, ℕ, zero, suc, ◌+◌, ◌-◌, ◌<◌, ◌≤◌, refl, sym, ap₂, ◌∙◌, subst, List, [], ◌∷◌, length, take, get_or, reverse, ℤ, pos, ◌<ℤ◌, ◌⊎◌, inl, inr, Bool, false, arith}
use Rattle.std.specs.Bool.{IsTrue}
use Rattle.std.proofs.lemmas.Int.{ints}
use lib.IntN.{ℤ_discrete}
use Rattle.std.proofs.lemmas.List.{take_all, take_more_same, get_or-reverse, length-reverse}
use Rattle.sg_tower_theory.proofs.Flat.{IsAfter}

irrefl_z : (e : ℤ) → ¬ (e <ℤ e)
irrefl_z e l = omega (arith, ints)

trans_z : (e f g : ℤ) → f <ℤ e → g <ℤ f → g <ℤ e
trans_z e f g h k = omega (arith, ints)

three_z : (e f : ℤ) → (f <ℤ e) ⊎ ((e ≡ f) ⊎ (e <ℤ f))
three_z e f = grind (arith, ints)

pub after_irrefl : (es : List ℤ) → ¬ IsAfter es es
after_irrefl [] h = h
after_irrefl (e ∷ es) (inl l) = irrefl_z e l
after_irrefl (e ∷ es) (inr r) = after_irrefl es r.1

pub after_trans : (es fs gs : List ℤ) → IsAfter es fs → IsAfter fs gs → IsAfter es gs
after_trans [] fs gs h k = absurd h
after_trans (e ∷ es) [] gs h k = absurd h
after_trans (e ∷ es) (f ∷ fs) [] h k = absurd k
after_trans (e ∷ es) (f ∷ fs) (g ∷ gs) (inl h) (inl k) = inl (trans_z e f g h k)
after_trans (e ∷ es) (f ∷ fs) (g ∷ gs) (inl h) (inr k) = inl (subst (λ (z : ℤ). z <ℤ e) k.0 h)
after_trans (e ∷ es) (f ∷ fs) (g ∷ gs) (inr h) (inl k) = inl (subst (λ (z : ℤ). g <ℤ z) (sym h.0) k)
after_trans (e ∷ es) (f ∷ fs) (g ∷ gs) (inr h) (inr k) = inr (h.0 ∙ k.0, after_trans es fs gs h.1 k.1)

pub after_total : (es fs : List ℤ) → length es ≡ length fs → ¬ IsAfter es fs → ¬ (es ≡ fs) → IsAfter fs es
after_total [] [] l h d = absurd (d refl)
after_total [] (f ∷ fs) l h d = absurd (omega (arith, l))
after_total (e ∷ es) [] l h d = absurd (omega (arith, l))
after_total (e ∷ es) (f ∷ fs) l h d = go (three_z e f) (after_total es fs (omega (arith, l)))
  where
    go : (f <ℤ e) ⊎ ((e ≡ f) ⊎ (e <ℤ f)) → (¬ IsAfter es fs → ¬ (es ≡ fs) → IsAfter fs es) → IsAfter (f ∷ fs) (e ∷ es)
    go (inl l) again = absurd (h (inl l))
    go (inr (inl q)) again = inr (sym q, again (λ k. h (inr (q, k))) (λ k. d (ap₂ ◌∷◌ q k)))
    go (inr (inr l)) again = inl l

-- ---- The first difference

pub record Decided (es fs : List ℤ) (x y : ℤ) : Type 0 where
  pub comes : y <ℤ x → IsAfter es fs
  pub greater : IsAfter es fs → y <ℤ x

first_decides : (es fs : List ℤ) (i : ℕ) (x y : ℤ) → i < length es → i < length fs → take i es ≡ take i fs → get_or es i (pos 0) ≡ x → get_or fs i (pos 0) ≡ y → ¬ (x ≡ y) → Decided es fs x y
first_decides [] fs i x y l k t a b d = absurd (omega arith)
first_decides (e ∷ es) [] i x y l k t a b d = absurd (omega arith)
first_decides (e ∷ es) (f ∷ fs) zero x y l k t a b d = record { comes = λ h. inl (rw (a, b) h); greater = back }
  where
    back : (f <ℤ e) ⊎ ((e ≡ f) × IsAfter es fs) → y <ℤ x
    back (inl h) = rw (sym a, sym b) h
    back (inr h) = absurd (d (sym a ∙ h.0 ∙ b))
first_decides (e ∷ es) (f ∷ fs) (suc i) x y l k t a b d = go (cc) (first_decides es fs i x y (omega arith) (omega arith) (cc) a b d)
  where
    go : e ≡ f → Decided es fs x y → Decided (e ∷ es) (f ∷ fs) x y
    go q r = record { comes = λ h. inr (q, r.comes h); greater = back }
      where
        back : (f <ℤ e) ⊎ ((e ≡ f) × IsAfter es fs) → y <ℤ x
        back (inl h) = absurd (irrefl_z f (subst (λ (z : ℤ). f <ℤ z) q h))
        back (inr h) = r.greater h.1

-- the lists are compared from the end
pub after_here : (a b : List ℤ) (i : ℕ) (x y : ℤ) → length a ≡ length b → i < length a → take i (reverse a) ≡ take i (reverse b) → get_or a (length a - 1 - i) (pos 0) ≡ x → get_or b (length b - 1 - i) (pos 0) ≡ y → ¬ (x ≡ y) → Decided (reverse a) (reverse b) x y
after_here a b i x y s l t p q d = first_decides (reverse a) (reverse b) i x y (rw (length-reverse a) l) (rw (length-reverse b) (omega arith)) t (get_or-reverse a i (pos 0) l ∙ p) (get_or-reverse b i (pos 0) (omega arith) ∙ q) d

pub same_here : (a b : List ℤ) (i : ℕ) (x y : ℤ) → length a ≡ length b → i < length a → take i (reverse a) ≡ take i (reverse b) → get_or a (length a - 1 - i) (pos 0) ≡ x → get_or b (length b - 1 - i) (pos 0) ≡ y → x ≡ y → take (i + 1) (reverse a) ≡ take (i + 1) (reverse b)
same_here a b i x y s l t p q e = take_more_same (reverse a) (reverse b) i (pos 0) (rw (length-reverse a) l) (rw (length-reverse b) (omega arith)) t
    (get_or-reverse a i (pos 0) l ∙ p ∙ e ∙ sym q ∙ sym (get_or-reverse b i (pos 0) (omega arith)))

pub no_difference : (a b : List ℤ) (i : ℕ) → length a ≡ length b → length a ≤ i → take i (reverse a) ≡ take i (reverse b) → ¬ IsAfter (reverse a) (reverse b)
no_difference a b i s l t h = after_irrefl (reverse b) (subst (λ (z : List ℤ). IsAfter z (reverse b)) same h)
  where
    same : reverse a ≡ reverse b
    same = sym (take_all i (reverse a) (rw (length-reverse a) l)) ∙ t ∙ take_all i (reverse b) (rw (length-reverse b) (omega arith))

-- what a test for a difference says where it is false
pub not_different : (x y : ℤ) (b : Bool) → b ≡ false → (¬ (x ≡ y) → IsTrue b) → x ≡ y
not_different x y b f h = go (ℤ_discrete x y)
  where
    go : Dec (x ≡ y) → x ≡ y
    go (yes e) = e
    go (no e) = absurd (grind (arith, h e, f))
