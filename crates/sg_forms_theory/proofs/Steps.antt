-- Expressions in the tower over the sums of a command, from the start on.
--   here_point        the point at a place, where the sums at the places have their values
--   same_from         an expression that says what an element says agrees with each expression that the element agrees with
--   steps_from        where the elements telescope, so do the expressions, from the start on
--   fails_past        where they don't, the equation fails beyond every point
--   one_element       expressions that agree from some point on have equal elements, where one says what its element says
use Rattle.std.proofs.Common.{◌≡◌, ℕ, ◌+◌, ◌≤◌, ℤ, pos, ◌+ℤ◌, ◌-ℤ◌, ◌≤ℤ◌, unsigned_abs, refl, ap, ◌∙◌, subst, List, [], ◌∷◌, arith}
use Rattle.std.proofs.lemmas.Int.{ints}
use Rattle.sg_algebra.specs.Coefficients.{Each}
use Rattle.sg_algebra.proofs.Value.{Value, ◌+ᵛ◌, ◌-ᵛ◌, neg_value, zero_value}
use Rattle.sg_algebra.proofs.ValueField.{ValueR, ValueD}
use Rattle.sg_algebra.proofs.Solver.{by, ring, reads}
use Rattle.sg_spec.specs.Tree.{Tree}
use Rattle.sg_spec.specs.Value.{val, both, SameValue}
use Rattle.sg_spec.specs.Telescoping.{Steps, Failing, Agree, difference_of}
use Rattle.sg_spec.specs.Worth.{HasWorth}
use Rattle.sg_spec.proofs.Values.{val-proper}
use Rattle.sg_spec.proofs.Worth.{Worth, worth_same, same_worth}
use Rattle.sg_worth_theory.proofs.Worths.{worth_number}
use Rattle.sg_worth_theory.proofs.Closes.{no_letter}
use Rattle.sg_tower_theory.proofs.Difference.{delta}
use Rattle.sg_tower_theory.proofs.Formal.{Formal, Element, domain_of, elements, shifted, IsIndependent, lawful_formal}
use Rattle.sg_value_theory.proofs.Elements.{Point, HasElement, Follows}
use Rattle.sg_value_theory.proofs.TreePoints.{IsPointOf, Agrees, Expresses}
use Rattle.sg_value_theory.proofs.TowerOf.{IsTowerOf, at_places}
use Rattle.sg_value_theory.proofs.PointsOf.{HasValues, HasUnits, point_at, is-point, points, points-are, run}
use Rattle.sg_value_theory.proofs.Evaluations.{evaluation}
use Rattle.sg_value_theory.proofs.Moving.{moves}
use Rattle.sg_value_theory.proofs.First.{zero_only}
use Rattle.sg_value_theory.proofs.FormalPlaces.{places_along, past, place_of}
use Rattle.sg_value_theory.proofs.NoneMeansNone.{knows, fails_formally}
use Rattle.sg_value_theory.proofs.NumberParts.{number_unique}
use Rattle.sg_value_theory.proofs.Joined.{worth-difference, difference_proper}

to_number : (t : Tree) (k : ℤ) (v : Value 0) → HasWorth no_letter t k v → Worth (val t (pos 0) k) v
to_number t k v h = worth_number (pos 0) t k v h

module _ (s : ℤ) (ps ss : List Tree) (F : Formal 0) (places : List ℕ) (known : List (Element F)) (is : IsTowerOf no_letter s ps ss F places known) (units : Each (HasUnits no_letter) ps)
    (frees : Each (HasValues no_letter) (at_places ss places)) where
  abbrev pub here_point : ℤ → Point 0
  here_point k = point_at no_letter ps units (at_places ss places) frees k

  pub here_is : (k : ℤ) → IsPointOf no_letter ps (at_places ss places) (here_point k)
  here_is k = is-point no_letter ps units (at_places ss places) frees k

  abbrev pub Stands : Tree → Element F → Type 0
  Stands t x = (p : Point 0) → s ≤ℤ p.variable → IsPointOf no_letter ps (at_places ss places) p → Agrees no_letter F p x t

  -- an expression has values from the start on
  abbrev pub HasFrom : Tree → Type 0
  HasFrom t = (k : ℤ) → s ≤ℤ k → (v : Value 0) × HasWorth no_letter t k v

  pub same_from : (t h : Tree) (x : Element F) → HasFrom t → Stands t x → ((p : Point 0) → IsPointOf no_letter ps (at_places ss places) p → Expresses no_letter F p x h)
      → (k : ℤ) → s ≤ℤ k → SameValue (val h (pos 0) k) (val t (pos 0) k)
  same_from t h x has stands expresses k l =
      let v = has k l in
      worth_same (val h (pos 0) k) (val t (pos 0) k) v.0 (val-proper h (pos 0) k) (val-proper t (pos 0) k)
      (to_number h k v.0 (expresses (here_point k) (here_is k) v.0 (stands (here_point k) l (here_is k) v.0 v.1))) (to_number t k v.0 v.1)

  next_late : (k : ℤ) → s ≤ℤ k → s ≤ℤ (k +ℤ pos 1)
  next_late k l = omega (arith, ints, l)

  pub steps_from : (f g : Tree) (x y : Element F) → HasFrom f → HasFrom g → Stands f x → Stands g y → (elements F).◌≈◌ (delta (shifted F) y) x → (k : ℤ) → s ≤ℤ k → Steps g f k
  steps_from f g x y f_has g_has f_stands g_stands telescopes k l =
      let m = next_late k l in
      let p = here_point k in
      let q = here_point (k +ℤ pos 1) in
      let v = f_has k l in
      let u = g_has k l in
      let w = g_has (k +ℤ pos 1) m in
      let V = evaluation F p in
      let follows : Follows F p q = is.follows p q l refl (here_is k) (here_is (k +ℤ pos 1)) in
      let moved = moves F p q follows y w.0 (g_stands q m (here_is (k +ℤ pos 1)) w.0 w.1) in
      let grown = V.same (delta (shifted F) y) x (w.0 +ᵛ neg_value u.0) telescopes
      (V.add_has ((shifted F).σ.on y) ((elements F).⊟ y) w.0 (neg_value u.0) moved (V.neg_has y u.0 (g_stands p l (here_is k) u.0 u.1))) in
      let e : w.0 -ᵛ u.0 ≡ v.0 = V.unique x (w.0 +ᵛ neg_value u.0) v.0 grown (f_stands p l (here_is k) v.0 v.1) in
      worth_same (both difference_of (val g (pos 0) (k +ℤ pos 1)) (val g (pos 0) k)) (val f (pos 0) k) v.0
      (difference_proper (val g (pos 0) (k +ℤ pos 1)) (val g (pos 0) k) (val-proper g (pos 0) (k +ℤ pos 1)) (val-proper g (pos 0) k)) (val-proper f (pos 0) k)
      (subst (λ (z : Value 0). Worth (both difference_of (val g (pos 0) (k +ℤ pos 1)) (val g (pos 0) k)) z) e
      (worth-difference (val g (pos 0) (k +ℤ pos 1)) (val g (pos 0) k) w.0 u.0 (val-proper g (pos 0) (k +ℤ pos 1)) (val-proper g (pos 0) k)
      (to_number g (k +ℤ pos 1) w.0 w.1) (to_number g k u.0 u.1)))
      (to_number f k v.0 v.1)

  least : s ≤ℤ s
  least = omega (arith, ints)

  module _ (independent : IsIndependent F) where
    pub fails_past : (f g : Tree) (x y : Element F) → HasFrom f → HasFrom g → Stands f x → Stands g y → ¬ ((elements F).◌≈◌ (delta (shifted F) y) x) → (K : ℤ) → Failing g f K
    fails_past f g x y f_has g_has f_stands g_stands none =
        fails_formally s ps ss F places known is units frees s least independent g f y x
        (knows s ps ss F places known is units frees s least g y g_has g_stands)
        (knows s ps ss F places known is units frees s least f x f_has f_stands) none

    -- ---- Equal values

    place : ℕ → Point 0
    place j = points no_letter s ps ss F places known is units frees s least j

    bound : Element F → ℕ
    unfolding place
    bound z = place_of F place (run no_letter s ps ss F places known is units frees s least) z

    bounded : (z : Element F) (j : ℕ) → bound z ≤ j → (v : Value 0) × HasElement F (place j) z v
    unfolding place bound
    bounded z j l = past F place (run no_letter s ps ss F places known is units frees s least) z j l

    zero_past : (z : Element F) (b : ℕ) → ((j : ℕ) (v : Value 0) → b ≤ j → HasElement F (place j) z v → v ≡ zero_value) → (elements F).◌≈◌ z (elements F).O
    unfolding place
    zero_past z b none =
        zero_only (domain_of F) (ValueD 0) (shifted F).σ (places_along F place (run no_letter s ps ss F places known is units frees s least)) (lawful_formal F independent) z b none

    cancel : (a c : Value 0) → a ≡ c → a +ᵛ neg_value c ≡ zero_value
    cancel a c e = ap (λ b. b +ᵛ neg_value c) e ∙ ring (ValueR 0) (c ∷ []) (search reads depth 16) refl

    reach : (K : ℤ) (j : ℕ) → unsigned_abs (K -ℤ s) ≤ j → K ≤ℤ (s +ℤ pos j)
    reach K j l = grind (arith, ints)

    late : (j : ℕ) → s ≤ℤ (s +ℤ pos j)
    late j = omega (arith, ints)

    equal : (a b : Element F) → (elements F).◌≈◌ ((elements F).◌⊞◌ a ((elements F).⊟ b)) (elements F).O → (elements F).◌≈◌ a b
    equal a b h = by (elements F) (a ∷ b ∷ []) h (search reads depth 12) refl

    pub one_element : (t h : Tree) (x y : Element F) → HasFrom t → Stands t x → ((p : Point 0) → IsPointOf no_letter ps (at_places ss places) p → Expresses no_letter F p y h) → Agree h t → (elements F).◌≈◌ y x
    unfolding place
    one_element t h x y has stands expresses agree = equal y x (zero_past ((elements F).◌⊞◌ y ((elements F).⊟ x)) (bound y + unsigned_abs (agree.from -ℤ s)) none)
      where
        none : (j : ℕ) (v : Value 0) → bound y + unsigned_abs (agree.from -ℤ s) ≤ j → HasElement F (place j) ((elements F).◌⊞◌ y ((elements F).⊟ x)) v → v ≡ zero_value
        none j v l i =
            let k = s +ℤ pos j in
            let V = evaluation F (place j) in
            let a = bounded y j (omega (arith, l)) in
            let c = has k (late j) in
            let are = points-are no_letter s ps ss F places known is units frees s least j in
            let x_has = stands (place j) (late j) are c.0 c.1 in
            let h_has = expresses (place j) are a.0 a.1 in
            let e : a.0 ≡ c.0 = number_unique (val h (pos 0) k) a.0 c.0 (to_number h k a.0 h_has)
            (same_worth (val h (pos 0) k) (val t (pos 0) k) c.0 (val-proper h (pos 0) k) (val-proper t (pos 0) k) (agree.same k (reach agree.from j (omega (arith, l)))) (to_number t k c.0 c.1)) in
            V.unique ((elements F).◌⊞◌ y ((elements F).⊟ x)) v (a.0 +ᵛ neg_value c.0) i (V.add_has y ((elements F).⊟ x) a.0 (neg_value c.0) a.1 (V.neg_has x c.0 x_has))
            ∙ cancel a.0 c.0 e
