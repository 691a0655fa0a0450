-- Points at which products and sums have the values of expressions, one place after another.
--   HasValues letter g     the expression has a value at each place; `HasUnits`: one other than 0
--   sum_worth              a sum whose body has values has one at each place
--   point_at               the point at a place; `is-point`
--   run                    from the start of a tower on these points are a run of it
--   knowns                 along which each known element has the values of its sum, and so an element that agrees with an expression
use Rattle.std.proofs.Common.{◌≡◌, ℕ, zero, suc, ℤ, pos, ◌+ℤ◌, ◌≤ℤ◌, refl, List, [], ◌∷◌, arith}
use Rattle.std.proofs.lemmas.Int.{ints}
use Rattle.sg_algebra.specs.Coefficients.{Each}
use Rattle.sg_algebra.proofs.Value.{Value, ◌+ᵛ◌, zero_value, one_value}
use Rattle.sg_algebra.proofs.ValueField.{value_one_ne}
use Rattle.sg_algebra.proofs.Place.{Pairwise}
use Rattle.sg_spec.specs.Tree.{Tree, sum_from}
use Rattle.sg_spec.specs.Value.{how_many}
use Rattle.sg_tower_theory.proofs.Formal.{Formal, Element}
use Rattle.sg_spec.specs.Worth.{IsFolded, HasWorth}
use Rattle.sg_value_theory.proofs.Elements.{Point, HasElement}
use Rattle.sg_value_theory.proofs.TreePoints.{AreValues, IsPointOf, Agrees}
use Rattle.sg_value_theory.proofs.TowerOf.{IsTowerOf, at_places}
use Rattle.sg_value_theory.proofs.FormalPlaces.{IsRun}

module _ {d : ℕ} (letter : Value d) where
  abbrev pub HasValues : Tree → Type 0
  HasValues g = (k : ℤ) → (v : Value d) × HasWorth letter g k v

  abbrev pub HasUnits : Tree → Type 0
  HasUnits g = (k : ℤ) → (v : Value d) × HasWorth letter g k v × ¬ (v ≡ zero_value)

  folded-worth : (body : Tree) (from : ℤ) → ((j : ℤ) → from ≤ℤ j → (v : Value d) × HasWorth letter body j v) → (n : ℕ) → (v : Value d) × IsFolded ◌+ᵛ◌ zero_value (HasWorth letter body) from n v
  folded-worth body from h zero = (zero_value, refl)
  folded-worth body from h (suc n) =
      let r = folded-worth body from h n in
      let t = h (from +ℤ pos n) (omega (arith, ints)) in
      (r.0 +ᵛ t.0, (r.0, t.0, r.1, t.1, refl))

  pub sum_worth : (from : ℤ) (body : Tree) → ((j : ℤ) → from ≤ℤ j → (v : Value d) × HasWorth letter body j v) → HasValues (sum_from from body)
  sum_worth from body h k = folded-worth body from h (how_many from k)

  -- the values of sums at a place
  abbrev values_at : (gens : List Tree) → Each HasValues gens → ℤ → ℕ → Value d
  values_at [] h k i = zero_value
  values_at (g ∷ gs) h k zero = (h.0 k).0
  values_at (g ∷ gs) h k (suc i) = values_at gs h.1 k i

  are-values : (gens : List Tree) (h : Each HasValues gens) (k : ℤ) → AreValues letter k gens (values_at gens h k)
  are-values [] h k = tt
  are-values (g ∷ gs) h k = ((h.0 k).1, are-values gs h.1 k)

  -- the values of products at a place
  abbrev units_at : (gens : List Tree) → Each HasUnits gens → ℤ → ℕ → Value d
  units_at [] h k i = one_value
  units_at (g ∷ gs) h k zero = (h.0 k).0
  units_at (g ∷ gs) h k (suc i) = units_at gs h.1 k i

  pub units-nonzero : (gens : List Tree) (h : Each HasUnits gens) (k : ℤ) (i : ℕ) → ¬ (units_at gens h k i ≡ zero_value)
  units-nonzero [] h k i = value_one_ne d
  units-nonzero (g ∷ gs) h k zero = (h.0 k).2
  units-nonzero (g ∷ gs) h k (suc i) = units-nonzero gs h.1 k i

  are-units : (gens : List Tree) (h : Each HasUnits gens) (k : ℤ) → AreValues letter k gens (units_at gens h k)
  are-units [] h k = tt
  are-units (g ∷ gs) h k = ((h.0 k).1, are-units gs h.1 k)

  module _ (ps : List Tree) (units : Each HasUnits ps) (gens : List Tree) (values : Each HasValues gens) where
    abbrev pub point_at : ℤ → Point d
    point_at k = record { variable = k; products = units_at ps units k; sums = values_at gens values k; nonzero = units-nonzero ps units k }

    pub is-point : (k : ℤ) → IsPointOf letter ps gens (point_at k)
    is-point k = (are-units ps units k, are-values gens values k)

  -- ---- From the start of a tower on

  module _ (s : ℤ) (ps ss : List Tree) (f : Formal d) (places : List ℕ) (known : List (Element f)) (is : IsTowerOf letter s ps ss f places known) (units : Each HasUnits ps) (frees : Each HasValues (at_places ss places))
      (k0 : ℤ) (late : s ≤ℤ k0) where
    abbrev pub points : ℕ → Point d
    points j = point_at ps units (at_places ss places) frees (k0 +ℤ pos j)

    pub points-late : (j : ℕ) → s ≤ℤ (k0 +ℤ pos j)
    points-late j = omega (arith, ints, late)

    pub next-place : (j : ℕ) → k0 +ℤ pos (suc j) ≡ (k0 +ℤ pos j) +ℤ pos 1
    next-place j = omega (arith, ints)

    pub points-are : (j : ℕ) → IsPointOf letter ps (at_places ss places) (points j)
    points-are j = is-point ps units (at_places ss places) frees (k0 +ℤ pos j)

    pub run : IsRun f points
    run j = is.follows (points j) (points (suc j)) (points-late j) (next-place j) (points-are j) (points-are (suc j))

    -- an element has the values of the expression along the run
    abbrev pub KnownAlong : Tree → Element f → Type 0
    KnownAlong g x = (j : ℕ) → (v : Value d) × HasElement f (points j) x v × HasWorth letter g (k0 +ℤ pos j) v

    -- an element that agrees with an expression which has values from k0 on
    pub known-along : (g : Tree) (x : Element f) → ((k : ℤ) → k0 ≤ℤ k → (v : Value d) × HasWorth letter g k v) → ((p : Point d) → s ≤ℤ p.variable → IsPointOf letter ps (at_places ss places) p → Agrees letter f p x g) → KnownAlong g x
    known-along g x has agrees j = let v = has (k0 +ℤ pos j) (omega (arith, ints)) in (v.0, agrees (points j) (points-late j) (points-are j) v.0 v.1, v.1)

    each-known : (gs : List Tree) (xs : List (Element f)) → Each HasValues gs → Pairwise (λ g x. (p : Point d) → s ≤ℤ p.variable → IsPointOf letter ps (at_places ss places) p → Agrees letter f p x g) gs xs → Pairwise KnownAlong gs xs
    each-known [] [] w h = tt
    each-known [] (x ∷ xs) w h = absurd h
    each-known (g ∷ gs) [] w h = absurd h
    each-known (g ∷ gs) (x ∷ xs) w h = (known-along g x (λ k l. w.0 k) h.0, each-known gs xs w.1 h.1)

    pub knowns : Each HasValues ss → Pairwise KnownAlong ss known
    knowns all = each-known ss known all is.known_agree
