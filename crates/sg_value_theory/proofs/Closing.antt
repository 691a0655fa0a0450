-- The closed form of a sum, from what the calls of a command answer.
--   closing      where g telescopes the element of f, and h says what the element y says, which is g one place further and a constant, h is a closed form of the sum of f
use Rattle.std.proofs.Common.{◌≡◌, ℕ, suc, ℤ, pos, ◌+ℤ◌, ◌-ℤ◌, ◌≤ℤ◌, sym, ◌∙◌, List, ◌∷◌, arith}
use Rattle.std.proofs.lemmas.Int.{ints}
use Rattle.sg_algebra.specs.Coefficients.{Each}
use Rattle.sg_algebra.proofs.Value.{Value, ◌+ᵛ◌, ◌-ᵛ◌}
use Rattle.sg_spec.specs.Tree.{Tree, sum_from}
use Rattle.sg_spec.specs.Generators.{sums, prods, start}
use Rattle.sg_spec.specs.Closed.{Closed, IsOverOwn}
use Rattle.sg_tower_theory.proofs.Difference.{delta}
use Rattle.sg_tower_theory.proofs.Formal.{Formal, Element, elements, shifted}
use Rattle.sg_spec.specs.Worth.{HasWorth}
use Rattle.sg_value_theory.proofs.Elements.{Point, HasElement}
use Rattle.sg_value_theory.proofs.TreePoints.{IsPointOf, Agrees, Expresses}
use Rattle.sg_value_theory.proofs.TowerOf.{IsTowerOf, at_places}
use Rattle.sg_value_theory.proofs.Evaluations.{evaluation}
use Rattle.sg_value_theory.proofs.Moving.{moves}
use Rattle.sg_value_theory.proofs.Regular.{regular_along}
use Rattle.sg_worth_theory.proofs.Closes.{no_letter}
use Rattle.sg_value_theory.proofs.Telescoped.{closed_by}
use Rattle.sg_value_theory.proofs.PointsOf.{HasValues, HasUnits, points, points-late, points-are, run}
use Rattle.sg_value_theory.proofs.Alike.{alike}

module _ (s : ℤ) (ps ss : List Tree) (F : Formal 0) (places : List ℕ) (known : List (Element F)) (is : IsTowerOf no_letter s ps ss F places known) (units : Each (HasUnits no_letter) ps) (frees : Each (HasValues no_letter) (at_places ss places)) where
  late : s ≤ℤ s
  late = omega (arith, ints)

  place : ℕ → Point 0
  place j = points no_letter s ps ss F places known is units frees s late j

  first-place : s +ℤ pos 0 ≡ s
  first-place = omega (arith, ints)

  IsPlace : Point 0 → Type 0
  IsPlace p = IsPointOf no_letter ps (at_places ss places) p

  pub closing : (f : Tree) (others : List Tree) (a : ℤ) (h : Tree) (x g y : Element F) (u c v₀ : Value 0) (p : Point 0) → p.variable ≡ s → IsPointOf no_letter ps (at_places ss places) p
      → s ≡ start (f ∷ others) a → a ≤ℤ s → IsOverOwn (prods (f ∷ others)) (sums (f ∷ others)) h
      → ((k : ℤ) → a ≤ℤ k → (v : Value 0) × HasWorth no_letter f k v)
      → ((q : Point 0) → s ≤ℤ q.variable → IsPointOf no_letter ps (at_places ss places) q → Agrees no_letter F q x f)
      → (elements F).◌≈◌ (delta (shifted F) g) x
      → HasWorth no_letter (sum_from a f) (s -ℤ pos 1) u → HasElement F p g v₀ → c ≡ u -ᵛ v₀
      → ((q : Point 0) (v : Value 0) → HasElement F q ((shifted F).σ.on g) v → HasElement F q y (v +ᵛ c))
      → ((q : Point 0) → IsPointOf no_letter ps (at_places ss places) q → Expresses no_letter F q y h)
      → Closed f others a h s
  unfolding place IsPlace
  closing f others a h x g y u c v₀ p at_start is_point starts le over has stands telescopes before first constant shifted-plus expresses =
      closed_by (elements F) (shifted F).σ.on (λ j. evaluation F (place j)) f others a s h x g u c v₀ starts le over
      (λ j e v i. moves F (place j) (place (suc j)) (run no_letter s ps ss F places known is units frees s late j) e v i)
      telescopes terms (regular_along F place (run no_letter s ps ss F places known is units frees s late) g x telescopes (λ j. ((terms j).0, (terms j).2))) before
      (alike no_letter s ps ss F places known is p (place 0) (at_start ∙ sym first-place) is_point (points-are no_letter s ps ss F places known is units frees s late 0) g v₀ first)
      constant
      (λ j v i. expresses (place j) (points-are no_letter s ps ss F places known is units frees s late j) (v +ᵛ c) (shifted-plus (place j) v i))
    where
      terms : (j : ℕ) → (v : Value 0) × HasWorth no_letter f (s +ℤ pos j) v × HasElement F (place j) x v
      terms j =
          let r = has (s +ℤ pos j) (omega (arith, ints, le)) in
          (r.0, r.1, stands (place j) (points-late no_letter s ps ss F places known is units frees s late j) (points-are no_letter s ps ss F places known is units frees s late j) r.0 r.1)
