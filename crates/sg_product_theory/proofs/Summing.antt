-- A summand in the tower over the products and sums of a command, where m says which element an item stands for.
--   known-at         at a point from the start on each known item agrees with its product or sum
--   somewhere        at some point the summand has a value, and the known items agree
--   no-closed        where nothing telescopes its element, no expression over the products and sums telescopes the summand
--   regular-start    what telescopes its element has a value at the start
--   closed-by        what telescopes it, one place further and with the right constant, is written as a closed form
use Rattle.std.proofs.Common.{◌≡◌, ℕ, ℤ, pos, ◌+ℤ◌, ◌-ℤ◌, ◌≤ℤ◌, refl, sym, ◌∙◌, List, [], ◌∷◌, ◌++◌, map, arith}
use Rattle.std.proofs.lemmas.Int.{ints}
use Rattle.sg_algebra.specs.Coefficients.{Each}
use Rattle.sg_algebra.proofs.Place.{Pairwise}
use Rattle.sg_algebra.proofs.Value.{Value, ◌+ᵛ◌, ◌-ᵛ◌}
use Rattle.sg_spec.specs.Tree.{Tree, sum_from}
use Rattle.sg_spec.specs.Generators.{sums, prods, start, BuiltOver as OwnBuilt}
use Rattle.sg_spec.specs.Closed.{Closed, IsOverOwn}
use Rattle.sg_spec.specs.Telescoping.{Tele}
use Rattle.sg_spec.specs.Worth.{HasWorth}
use Rattle.sg_worth_theory.proofs.Closes.{no_letter}
use Rattle.sg_tower_theory.proofs.Slices.{pairwise_to}
use Rattle.sg_tower_theory.proofs.Difference.{delta}
use Rattle.sg_tower_theory.proofs.Formal.{Formal, Element, elements, shifted, IsIndependent}
use Rattle.sg_value_theory.proofs.Elements.{Point, HasElement}
use Rattle.sg_value_theory.proofs.TreePoints.{IsPointOf, Agrees, Expresses}
use Rattle.sg_value_theory.proofs.TowerOf.{IsTowerOf, at_places}
use Rattle.sg_value_theory.proofs.PointsOf.{HasValues, HasUnits, points, points-late, points-are, run}
use Rattle.sg_value_theory.proofs.Alike.{alike}
use Rattle.sg_value_theory.proofs.Regular.{regular_along}
use Rattle.sg_value_theory.proofs.Evaluations.{evaluation, constant-has}
use Rattle.sg_value_theory.proofs.NoneMeansNone.{own}
use Rattle.sg_value_theory.proofs.Closing.{closing}
use Rattle.sg_product_theory.proofs.Standing.{AreUnitsOf}
use Rattle.sg_product_theory.proofs.None.{none-with-all}

pub pairwise_items : {A B C : Type 0} (R : A → C → Type 0) (m : B → C) (xs : List A) (ys : List B) → Pairwise R xs (map m ys)
    → Pairwise (λ x y. R x (m y)) xs ys
pairwise_items R m [] [] h = tt
pairwise_items R m [] (y ∷ ys) h = absurd h
pairwise_items R m (x ∷ xs) [] h = absurd h
pairwise_items R m (x ∷ xs) (y ∷ ys) h = (h.0, pairwise_items R m xs ys h.1)

module _ (s : ℤ) (qs ps ss : List Tree) {E : Type 0} (F : Formal 0) (m : E → Element F) (places : List ℕ) (known : List E)
    (is : IsTowerOf no_letter s qs (ps ++ ss) F places (map m known)) (units : Each (HasUnits no_letter) qs)
    (frees : Each (HasValues no_letter) (at_places (ps ++ ss) places)) where
  abbrev pub IsPlace : Point 0 → Type 0
  IsPlace p = IsPointOf no_letter qs (at_places (ps ++ ss) places) p

  abbrev pub KnownAgree : Point 0 → Type 0
  KnownAgree p = Pairwise (λ g x. Agrees no_letter F p (m x) g) (ps ++ ss) known

  pub known-at : (p : Point 0) → s ≤ℤ p.variable → IsPlace p → KnownAgree p
  known-at p l i =
      pairwise_items (λ g x. Agrees no_letter F p x g) m (ps ++ ss) known
      (pairwise_to (λ g x. (p : Point 0) → s ≤ℤ p.variable → IsPlace p → Agrees no_letter F p x g) (λ g x. Agrees no_letter F p x g) (ps ++ ss) (map m known) (λ g x h. h p l i) is.known_agree)

  least : (k : ℤ) → k ≤ℤ k
  least k = omega (arith, ints)

  place : ℕ → Point 0
  place j = points no_letter s qs (ps ++ ss) F places (map m known) is units frees s (least s) j

  place-is : (j : ℕ) → IsPlace (place j)
  unfolding place
  place-is j = points-are no_letter s qs (ps ++ ss) F places (map m known) is units frees s (least s) j

  place-late : (j : ℕ) → s ≤ℤ (place j).variable
  unfolding place
  place-late j = points-late no_letter s qs (ps ++ ss) F places (map m known) is units frees s (least s) j

  first-place : s ≡ s +ℤ pos 0
  first-place = omega (arith, ints)

  module _ (f : Tree) (a : ℤ) (le : a ≤ℤ s) (has : (k : ℤ) → a ≤ℤ k → (v : Value 0) × HasWorth no_letter f k v) where
    above : (j : ℕ) → a ≤ℤ (s +ℤ pos j)
    above j = omega (arith, ints, le)

    pub somewhere : (p : Point 0) × KnownAgree p × ((v : Value 0) × HasWorth no_letter f p.variable v)
    unfolding place
    somewhere = (place 0, known-at (place 0) (place-late 0) (place-is 0), has (s +ℤ pos 0) (above 0))

    module _ (x : E) (value : (p : Point 0) → KnownAgree p → Agrees no_letter F p (m x) f) where
      stands : (q : Point 0) → s ≤ℤ q.variable → IsPlace q → Agrees no_letter F q (m x) f
      stands q l i = value q (known-at q l i)

      pub no-closed : AreUnitsOf F ps (map m known) → IsIndependent F → ((g : Element F) → ¬ ((elements F).◌≈◌ (delta (shifted F) g) (m x))) → (e : Tree)
          → OwnBuilt (own ps ss) e → ¬ Tele e f
      no-closed known_units independent none = none-with-all s qs ps ss F places (map m known) is known_units units frees independent f (m x) stands none

      terms : (j : ℕ) → (v : Value 0) × HasElement F (place j) (m x) v
      unfolding place
      terms j = let v = has (s +ℤ pos j) (above j) in (v.0, stands (place j) (place-late j) (place-is j) v.0 v.1)

      module _ (g : Element F) (telescopes : (elements F).◌≈◌ (delta (shifted F) g) (m x)) where
        pub regular-start : (p : Point 0) → p.variable ≡ s → IsPlace p → (v : Value 0) × HasElement F p g v
        unfolding place
        regular-start p e i =
            let r = regular_along F place (run no_letter s qs (ps ++ ss) F places (map m known) is units frees s (least s)) g (m x) telescopes terms 0 in
            (r.0, alike no_letter s qs (ps ++ ss) F places (map m known) is (place 0) p (sym first-place ∙ sym e) (place-is 0) i g r.0 r.1)

        pub closed-by : (others : List Tree) (h : Tree) (y : Element F) (u w : Value 0) (p : Point 0) → p.variable ≡ s → IsPlace p
            → s ≡ start (f ∷ others) a → IsOverOwn (prods (f ∷ others)) (sums (f ∷ others)) h
            → HasWorth no_letter (sum_from a f) (s -ℤ pos 1) u → HasElement F p g w
            → (elements F).◌≈◌ y ((elements F).◌⊞◌ ((shifted F).σ.on g) ((shifted F).κ.on (u -ᵛ w)))
            → ((q : Point 0) → IsPlace q → Expresses no_letter F q y h)
            → Closed f others a h s
        closed-by others h y u w p at i starts over before found sum_is expresses =
            closing s qs (ps ++ ss) F places (map m known) is units frees f others a h (m x) g y u (u -ᵛ w) w p at i starts le over has stands telescopes before found refl
            (λ q v t. (evaluation F q).same ((elements F).◌⊞◌ ((shifted F).σ.on g) ((shifted F).κ.on (u -ᵛ w))) y (v +ᵛ (u -ᵛ w)) ((elements F).symm sum_is)
            ((evaluation F q).add_has ((shifted F).σ.on g) ((shifted F).κ.on (u -ᵛ w)) v (u -ᵛ w) t (constant-has F q (u -ᵛ w))))
            expresses
