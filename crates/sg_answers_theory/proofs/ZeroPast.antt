-- In an independent tower an element whose values at the points of its expressions are 0 from some place on is 0.
--   zero_past      of the elements, at any depth of the constants
--   equal_past     two elements that have one value at each of these points are equal
--   next_has       an element that agrees with an expression has, shifted, at each point the value of the expression one place further
--   later          a place past both
use Rattle.std.proofs.Common.{◌≡◌, ℕ, suc, ℤ, pos, ◌+ℤ◌, ◌-ℤ◌, ◌≤ℤ◌, unsigned_abs, refl, ◌∙◌, List, [], ◌∷◌, arith}
use Rattle.std.proofs.lemmas.Int.{ints}
use Rattle.sg_algebra.specs.Coefficients.{Each}
use Rattle.sg_algebra.proofs.Solver.{by, ring, reads}
use Rattle.sg_algebra.proofs.Value.{Value, ◌+ᵛ◌, neg_value, zero_value}
use Rattle.sg_algebra.proofs.ValueField.{ValueR, ValueD}
use Rattle.sg_spec.specs.Tree.{Tree}
use Rattle.sg_tower_theory.proofs.Formal.{Formal, Element, domain_of, elements, shifted, IsIndependent, lawful_formal}
use Rattle.sg_value_theory.proofs.Elements.{Point, HasElement, Follows}
use Rattle.sg_value_theory.proofs.TreePoints.{IsPointOf}
use Rattle.sg_value_theory.proofs.PointsOf.{HasValues, HasUnits, point_at, is-point}
use Rattle.sg_value_theory.proofs.FormalPlaces.{IsRun, places_along}
use Rattle.sg_value_theory.proofs.Evaluations.{evaluation}
use Rattle.sg_value_theory.proofs.Moving.{moves}
use Rattle.sg_spec.specs.Worth.{HasWorth}
use Rattle.sg_answers_theory.proofs.ElementsOver.{AgreesFrom}
use Rattle.sg_value_theory.proofs.First.{zero_only}

pub later : (s K : ℤ) → (z : ℤ) × (s ≤ℤ z) × (K ≤ℤ z)
later s K = (s +ℤ pos (unsigned_abs (K -ℤ s)), before s K, beyond s K)
  where
    before : (s K : ℤ) → s ≤ℤ (s +ℤ pos (unsigned_abs (K -ℤ s)))
    before s K = grind (arith, ints)

    beyond : (s K : ℤ) → K ≤ℤ (s +ℤ pos (unsigned_abs (K -ℤ s)))
    beyond s K = grind (arith, ints)

module _ {d : ℕ} (letter : Value d) (s : ℤ) (ps gens : List Tree) (f : Formal d) where
  -- the equations of the tower hold of the values of its products and sums from the start on
  abbrev pub FollowFrom : Type 0
  FollowFrom = (p q : Point d) → s ≤ℤ p.variable → q.variable ≡ p.variable +ℤ pos 1 → IsPointOf letter ps gens p → IsPointOf letter ps gens q → Follows f p q

  module _ (follow : FollowFrom) (units : Each (HasUnits letter) ps) (values : Each (HasValues letter) gens) (independent : IsIndependent f) where
    abbrev at : ℤ → Point d
    at k = point_at letter ps units gens values k

    along : ℤ → ℕ → Point d
    along z j = at (z +ℤ pos j)

    runs : (z : ℤ) → s ≤ℤ z → IsRun f (λ j. at (z +ℤ pos j))
    runs z l j = follow (at (z +ℤ pos j)) (at (z +ℤ pos (suc j))) (late z j l) (next z j) (is-point letter ps units gens values (z +ℤ pos j)) (is-point letter ps units gens values (z +ℤ pos (suc j)))
      where
        late : (z : ℤ) (j : ℕ) → s ≤ℤ z → s ≤ℤ (z +ℤ pos j)
        late z j l = omega (arith, ints, l)

        next : (z : ℤ) (j : ℕ) → z +ℤ pos (suc j) ≡ (z +ℤ pos j) +ℤ pos 1
        next z j = omega (arith, ints)

    pub zero_past : (x : Element f) (K : ℤ)
        → ((p : Point d) (v : Value d) → s ≤ℤ p.variable → K ≤ℤ p.variable → IsPointOf letter ps gens p → HasElement f p x v → v ≡ zero_value)
        → (elements f).◌≈◌ x (elements f).O
    zero_past x K h = go (later s K)
      where
        go : (z : ℤ) × (s ≤ℤ z) × (K ≤ℤ z) → (elements f).◌≈◌ x (elements f).O
        go z = zero_only (domain_of f) (ValueD d) (shifted f).σ (places_along f (λ j. at (z.0 +ℤ pos j)) (runs z.0 z.1)) (lawful_formal f independent) x 0
            (λ j v l i. h (at (z.0 +ℤ pos j)) v (up s z.0 j z.1) (up K z.0 j z.2) (is-point letter ps units gens values (z.0 +ℤ pos j)) i)
          where
            up : (a z : ℤ) (j : ℕ) → a ≤ℤ z → a ≤ℤ (z +ℤ pos j)
            up a z j l = omega (arith, ints, l)

    pub equal_past : (x y : Element f) (K : ℤ)
        → ((p : Point d) → s ≤ℤ p.variable → K ≤ℤ p.variable → IsPointOf letter ps gens p → (v : Value d) × HasElement f p x v × HasElement f p y v)
        → (elements f).◌≈◌ x y
    equal_past x y K h = by (elements f) (x ∷ y ∷ []) (zero_past ((elements f).◌⊞◌ x ((elements f).⊟ y)) K none) (search reads depth 12) refl
      where
        none : (p : Point d) (v : Value d) → s ≤ℤ p.variable → K ≤ℤ p.variable → IsPointOf letter ps gens p
            → HasElement f p ((elements f).◌⊞◌ x ((elements f).⊟ y)) v → v ≡ zero_value
        none p v l m i has =
            let r = h p l m i in
            let e = evaluation f p in
            e.unique ((elements f).◌⊞◌ x ((elements f).⊟ y)) v (r.0 +ᵛ neg_value r.0) has (e.add_has x ((elements f).⊟ y) r.0 (neg_value r.0) r.1 (e.neg_has y r.0 r.2)) ∙ ring (ValueR d) (r.0 ∷ []) (search reads depth 12) refl

    pub next_has : (x : Element f) (e : Tree) → AgreesFrom letter s ps gens f x e → (p : Point d) → s ≤ℤ p.variable → IsPointOf letter ps gens p
        → (v : Value d) → HasWorth letter e (p.variable +ℤ pos 1) v → HasElement f p ((shifted f).σ.on x) v
    next_has x e agrees p l i v h =
        moves f p (at (p.variable +ℤ pos 1)) (follow p (at (p.variable +ℤ pos 1)) l refl i (is-point letter ps units gens values (p.variable +ℤ pos 1))) x v
        (agrees (at (p.variable +ℤ pos 1)) (up s p.variable l) (is-point letter ps units gens values (p.variable +ℤ pos 1)) v h)
      where
        up : (s z : ℤ) → s ≤ℤ z → s ≤ℤ (z +ℤ pos 1)
        up s z l = omega (arith, ints, l)
