-- No poles, from the equation alone.
--   regular_of        an antidifference of an element that has a value at every place has one at every place: downwards from where it has one
--   regular_along     the same along a run of points of a formal tower
use Rattle.std.proofs.Common.{ℕ, zero, suc, ◌+◌, ◌≤◌, refl, [], ◌∷◌, arith}
use Rattle.sg_algebra.specs.Ring.{Ring, Hom}
use Rattle.sg_algebra.proofs.Solver.{by, reads}
use Rattle.sg_algebra.proofs.Value.{Value}
use Rattle.sg_algebra.proofs.ValueField.{ValueR}
use Rattle.sg_tower_theory.proofs.Difference.{delta}
use Rattle.sg_tower_theory.proofs.Nested.{Telescopes}
use Rattle.sg_tower_theory.proofs.Formal.{Formal, Element, elements, shifted}
use Rattle.sg_value_theory.proofs.Elements.{Point, HasElement}
use Rattle.sg_value_theory.proofs.Places.{Places}
use Rattle.sg_value_theory.proofs.FormalPlaces.{IsRun, places_along}

module _ (R V : Ring) (σ : Hom R R) (places : Places R V σ) where
  open R use {A, ◌≈◌, ◌⊞◌, ⊟}
  open places use {Has, from, has_past}

  -- where the next place has a value, and the right side here, there is one here: g = σ(g) - f
  back : (g f : A) → Telescopes R σ g f → ((k : ℕ) → (v : V.A) × Has f k v) → (k : ℕ) → (v : V.A) × Has g (suc k) v → (v : V.A) × Has g k v
  back g f e h k u = go (h k)
    where
      moved : (s g f : A) → s ⊞ ⊟ g ≈ f → s ⊞ ⊟ f ≈ g
      moved s g f e = by R (s ∷ g ∷ f ∷ []) e (search reads depth 12) refl

      go : (v : V.A) × Has f k v → (v : V.A) × Has g k v
      go v = (
        V.◌⊞◌ u.0 (V.⊟ v.0),
        places.has_same (σ.on g ⊞ ⊟ f) g k (V.◌⊞◌ u.0 (V.⊟ v.0)) (V.◌⊞◌ u.0 (V.⊟ v.0)) (moved (σ.on g) g f e) V.rfl
            (places.has_add (σ.on g) (⊟ f) k u.0 (V.⊟ v.0) (places.has_shift g k u.0 u.1) (places.has_neg f k v.0 v.1)),
      )

  down : (g f : A) → Telescopes R σ g f → ((k : ℕ) → (v : V.A) × Has f k v) → (d k : ℕ) → from g ≤ k + d → (v : V.A) × Has g k v
  down g f e h zero k l = has_past g k (omega arith)
  down g f e h (suc d) k l = back g f e h k (down g f e h d (suc k) (omega arith))

  pub regular_of : (g f : A) → Telescopes R σ g f → ((k : ℕ) → (v : V.A) × Has f k v) → (k : ℕ) → (v : V.A) × Has g k v
  regular_of g f e h k = down g f e h (from g) k (omega arith)

pub regular_along : {d : ℕ} (f : Formal d) (points : ℕ → Point d) → IsRun f points → (g x : Element f) → (elements f).◌≈◌ (delta (shifted f) g) x → ((k : ℕ) → (v : Value d) × HasElement f (points k) x v)
    → (k : ℕ) → (v : Value d) × HasElement f (points k) g v
regular_along {d} f points run g x telescopes has = regular_of (elements f) (ValueR d) (shifted f).σ (places_along f points run) g x telescopes has
