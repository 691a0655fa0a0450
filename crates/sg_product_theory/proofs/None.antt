-- What expressions over all products and sums of a command are in its tower, which stands over the free products alone.
--   product-at, sum-at      the element of a listed product, a unit, and of a listed sum
--   placed, known-sum       so each listed product is placed, and each listed sum has an element that agrees with it
--   element-of              an expression over the products and sums has an element that agrees with it from the start on
--   none-with-all           where nothing telescopes the element of a summand, no expression over the products and sums, with divisors
--                           that hold no sum, telescopes it
use Rattle.std.proofs.Common.{◌≡◌, ℕ, ◌⊎◌, inl, inr, ℤ, subst, List, [], ◌∷◌, ◌++◌, Contains}
use Rattle.std.proofs.lemmas.List.Elements.{Contains-append_right}
use Rattle.sg_algebra.specs.Coefficients.{Each}
use Rattle.sg_algebra.proofs.Place.{Pairwise}
use Rattle.sg_algebra.proofs.Value.{Value}
use Rattle.sg_spec.specs.Tree.{Tree}
use Rattle.sg_spec.specs.Generators.{BuiltOver as OwnBuilt}
use Rattle.sg_spec.specs.Telescoping.{Tele}
use Rattle.sg_worth_theory.proofs.Closes.{no_letter}
use Rattle.sg_tower_theory.proofs.Difference.{delta}
use Rattle.sg_tower_theory.proofs.Formal.{Formal, Element, elements, shifted, IsIndependent}
use Rattle.sg_tower_theory.proofs.Flat.{IsUnitPair}
use Rattle.sg_value_theory.proofs.TowerOf.{IsTowerOf, BuiltOver, at_places}
use Rattle.sg_value_theory.proofs.OwnSums.{contains_cons, nothing}
use Rattle.sg_value_theory.proofs.PointsOf.{HasValues, HasUnits}
use Rattle.sg_value_theory.proofs.NoneMeansNone.{own}
use Rattle.sg_answers_theory.proofs.ElementsOver.{AgreesFrom, IsPlaced, element_over}
use Rattle.sg_answers_theory.proofs.OwnProducts.{placed_unit}
use Rattle.sg_answers_theory.proofs.Answers.{none_moves, moves_of_tele}
use Rattle.sg_product_theory.proofs.Standing.{AreUnitsOf}

module _ {d : ℕ} (f : Formal d) (P : Tree → Element f → Type 0) where
  element-at : (gens : List Tree) (xs : List (Element f)) → Pairwise P gens xs → (t : Tree) → Contains gens t → (x : Element f) × P t x
  element-at [] xs h t c = absurd (nothing c)
  element-at (g ∷ gs) [] h t c = absurd h
  element-at (g ∷ gs) (x ∷ xs) h t c = go (contains_cons g t gs c) (λ k. element-at gs xs h.1 t k)
    where
      go : (g ≡ t) ⊎ Contains gs t → (Contains gs t → (y : Element f) × P t y) → (y : Element f) × P t y
      go (inl e) again = (x, subst (λ (z : Tree). P z x) e h.0)
      go (inr k) again = again k

  pub sum-at : (ps ss : List Tree) (xs : List (Element f)) → Pairwise P (ps ++ ss) xs → (t : Tree) → Contains ss t → (x : Element f) × P t x
  sum-at ps ss xs h t c = element-at (ps ++ ss) xs h t (Contains-append_right ps ss t c)

  pub product-at : (ps ss : List Tree) (xs : List (Element f)) → Pairwise P (ps ++ ss) xs → AreUnitsOf f ps xs → (t : Tree) → Contains ps t
      → (x : Element f) × P t x × ((y : Element f) × IsUnitPair f x y)
  product-at [] ss xs h u t c = absurd (nothing c)
  product-at (p ∷ ps) ss [] h u t c = absurd h
  product-at (p ∷ ps) ss (x ∷ xs) h u t c = go (contains_cons p t ps c) (λ k. product-at ps ss xs h.1 u.1 t k)
    where
      go : (p ≡ t) ⊎ Contains ps t → (Contains ps t → (z : Element f) × P t z × ((y : Element f) × IsUnitPair f z y))
          → (z : Element f) × P t z × ((y : Element f) × IsUnitPair f z y)
      go (inl e) again = (x, subst (λ (z : Tree). P z x) e h.0, u.0)
      go (inr k) again = again k

module _ {d : ℕ} (letter : Value d) (s : ℤ) (qs ps ss : List Tree) (f : Formal d) (places : List ℕ) (known : List (Element f))
    (is : IsTowerOf letter s qs (ps ++ ss) f places known) (known_units : AreUnitsOf f ps known) where
  abbrev Agreeing : Tree → Element f → Type 0
  Agreeing g x = AgreesFrom letter s qs (at_places (ps ++ ss) places) f x g

  pub placed : (g : Tree) → Contains ps g → IsPlaced letter s qs (at_places (ps ++ ss) places) f g
  placed g c =
      let r = product-at f Agreeing ps ss known is.known_agree known_units g c in
      placed_unit letter s qs (at_places (ps ++ ss) places) f g r.0 r.2.0 r.1 r.2.1

  pub known-sum : (g : Tree) → Contains ss g → (x : Element f) × AgreesFrom letter s qs (at_places (ps ++ ss) places) f x g
  known-sum g c = sum-at f Agreeing ps ss known is.known_agree g c

  pub element-of : (e : Tree) → BuiltOver ps ss e → (x : Element f) × AgreesFrom letter s qs (at_places (ps ++ ss) places) f x e
  element-of e over = element_over letter s qs (at_places (ps ++ ss) places) f ps placed ss known-sum e over

module _ (s : ℤ) (qs ps ss : List Tree) (F : Formal 0) (places : List ℕ) (known : List (Element F)) (is : IsTowerOf no_letter s qs (ps ++ ss) F places known)
    (known_units : AreUnitsOf F ps known) (units : Each (HasUnits no_letter) qs) (frees : Each (HasValues no_letter) (at_places (ps ++ ss) places))
    (independent : IsIndependent F) where
  pub none-with-all : (f : Tree) (x : Element F) → AgreesFrom no_letter s qs (at_places (ps ++ ss) places) F x f
      → ((g : Element F) → ¬ ((elements F).◌≈◌ (delta (shifted F) g) x)) → (e : Tree) → OwnBuilt (own ps ss) e → ¬ Tele e f
  none-with-all f x stands none e over tele =
      none_moves no_letter s qs (at_places (ps ++ ss) places) F is.follows units frees independent (own ps ss)
      (placed no_letter s qs ps ss F places known is known_units) (known-sum no_letter s qs ps ss F places known is known_units) f x stands none e over
      (moves_of_tele e f tele)
