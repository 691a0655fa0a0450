-- Which sums are new is determined, and so is the simplest form of an expression.
--   frees-same        two lists that say what the sums are have the same new sums
--   one-form          expressions over the same sums that agree from some point on have one simplest form
--   form-agrees       and those with one simplest form agree
use Rattle.std.proofs.Common.{◌≡◌, ℕ, suc, ◌<◌, ℤ, pos, ◌+ℤ◌, ◌-ℤ◌, ◌≤ℤ◌, unsigned_abs, refl, sym, ap, subst, List, [], ◌∷◌, length, take, get_or, Option, Some, None, arith}
use Rattle.std.proofs.lemmas.Int.{ints}
use Rattle.sg_spec.specs.Tree.{Tree, here}
use Rattle.sg_spec.specs.Value.{val, SameValue}
use Rattle.sg_spec.specs.Telescoping.{Agree}
use Rattle.sg_spec.specs.Canonical.{Plane}
use Rattle.sg_spec.proofs.Values.{val-proper, SameValue-sym, SameValue-trans}
use Rattle.sg_forms_theory.specs.Forms.{IsFormOver}
use Rattle.sg_forms_theory.specs.Sums.{IsFree, frees, IsExpressed, IsStanding, AreStandings, IsSimplest}

flipped : (f g : Tree) (k : ℤ) → SameValue (val f (pos 0) k) (val g (pos 0) k) → SameValue (val g (pos 0) k) (val f (pos 0) k)
flipped f g k h = SameValue-sym (val f (pos 0) k) (val g (pos 0) k) h

chained : (f g h : Tree) (k : ℤ) → SameValue (val f (pos 0) k) (val g (pos 0) k) → SameValue (val g (pos 0) k) (val h (pos 0) k) → SameValue (val f (pos 0) k) (val h (pos 0) k)
chained f g h k a b = SameValue-trans (val f (pos 0) k) (val g (pos 0) k) (val h (pos 0) k) (val-proper g (pos 0) k) a b

-- a place past both
later : (s K : ℤ) → (z : ℤ) × (s ≤ℤ z) × (K ≤ℤ z)
later s K = (s +ℤ pos (unsigned_abs (K -ℤ s)), first s K, second s K)
  where
    first : (s K : ℤ) → s ≤ℤ (s +ℤ pos (unsigned_abs (K -ℤ s)))
    first s K = grind (arith, ints)

    second : (s K : ℤ) → K ≤ℤ (s +ℤ pos (unsigned_abs (K -ℤ s)))
    second s K = grind (arith, ints)

up : (a b c : ℤ) → a ≤ℤ b → b ≤ℤ c → a ≤ℤ c
up a b c l m = omega (arith, ints, l, m)

agree_sym : (f g : Tree) → Agree f g → Agree g f
agree_sym f g a = record { from = a.from; same = λ k l. flipped f g k (a.same k l) }

-- ---- The new sums

abbrev SameMark : Option Tree → Option Tree → Type 0
SameMark None None = Unit {0}
SameMark None (Some h) = ⊥
SameMark (Some g) None = ⊥
SameMark (Some g) (Some h) = Unit {0}

frees-marked : (ss : List Tree) (os ps : List (Option Tree)) → length os ≡ length ss → length ps ≡ length ss → ((i : ℕ) → i < length ss → SameMark (get_or os i None) (get_or ps i None)) → frees ss os ≡ frees ss ps
frees-marked [] os ps a b h = refl
frees-marked (g ∷ gs) [] ps a b h = absurd (omega (arith, a))
frees-marked (g ∷ gs) (o ∷ os) [] a b h = absurd (omega (arith, b))
frees-marked (g ∷ gs) (None ∷ os) (None ∷ ps) a b h = ap (λ (l : List Tree). g ∷ l) (frees-marked gs os ps (omega (arith, a)) (omega (arith, b)) (λ i l. h (suc i) (omega (arith, l))))
frees-marked (g ∷ gs) (None ∷ os) (Some x ∷ ps) a b h = absurd (h 0 (omega arith))
frees-marked (g ∷ gs) (Some y ∷ os) (None ∷ ps) a b h = absurd (h 0 (omega arith))
frees-marked (g ∷ gs) (Some y ∷ os) (Some x ∷ ps) a b h = frees-marked gs os ps (omega (arith, a)) (omega (arith, b)) (λ i l. h (suc i) (omega (arith, l)))

module _ (Q : Plane → Plane → Type 0) where
  clash : (s : ℤ) (before gs : List Tree) (g h : Tree) → IsFree before g → IsExpressed Q s before gs g h → ⊥
  clash s before gs g h free e = free h e.over (record { from = s; same = e.same })

  marks : (s t : ℤ) (before gs gs' : List Tree) (g : Tree) (o p : Option Tree) → IsStanding Q s before gs g o → IsStanding Q t before gs' g p → SameMark o p
  marks s t before gs gs' g None None h k = tt
  marks s t before gs gs' g None (Some e) h k = clash t before gs' g e h k
  marks s t before gs gs' g (Some e) None h k = clash s before gs g e k h
  marks s t before gs gs' g (Some e) (Some e') h k = tt

  pub frees-same : (s t : ℤ) (ss : List Tree) (os ps : List (Option Tree)) → AreStandings Q s ss os → AreStandings Q t ss ps → frees ss os ≡ frees ss ps
  frees-same s t ss os ps a b =
      frees-marked ss os ps a.count b.count
      (λ i l. marks s t (take i ss) (frees (take i ss) (take i os)) (frees (take i ss) (take i ps)) (get_or ss i here) (get_or os i None) (get_or ps i None) (a.each i l) (b.each i l))

  -- ---- The form

  module _ (s t : ℤ) (ss : List Tree) (f g h e : Tree) (a : IsSimplest Q s ss f h) (b : IsSimplest Q t ss g e) where
    pub one-form : Agree f g → h ≡ e
    one-form agree =
        sym (a.only e (subst (λ (gs : List Tree). IsFormOver Q gs e) (frees-same t s ss b.standings a.standings b.are a.are) b.form) agrees)
      where
        agrees : Agree e f
        agrees = go (later t agree.from)
          where
            go : (z : ℤ) × (t ≤ℤ z) × (agree.from ≤ℤ z) → Agree e f
            go z = record { from = z.0; same = λ k l. chained e g f k (b.same k (up t z.0 k z.1 l)) (flipped f g k (agree.same k (up agree.from z.0 k z.2 l))) }

    pub form-agrees : h ≡ e → Agree f g
    form-agrees same = go (later s t)
      where
        go : (z : ℤ) × (s ≤ℤ z) × (t ≤ℤ z) → Agree f g
        go z = record {
          from = z.0;
          same = λ k l. chained f h g k (flipped h f k (a.same k (up s z.0 k z.1 l))) (subst (λ (x : Tree). SameValue (val x (pos 0) k) (val g (pos 0) k)) (sym same) (b.same k (up t z.0 k z.2 l)));
        }
