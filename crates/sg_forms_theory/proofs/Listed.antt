-- Expressions in the tower over the sums of a command, where m says which element an item stands for.
--   stands             an item that has the values of an expression, where the known items have those of their sums, agrees with it from the start on
--   telescopes-from, fails-beyond     whether an expression telescopes another
--   equal-from         what says what its item says is equal to an expression from the start on
--   item-alone         forms that agree with it from some point on are of the same item
--   free-place         a sum at one of the places is new over all sums before it
--   are-new            so the sums at the places are new ones
--   known-stands       each other sum agrees with its item
--   known-below        its item holds no sum but those before it
use Rattle.std.proofs.Common.{◌≡◌, ℕ, zero, suc, ◌<◌, ℤ, ◌≤ℤ◌, refl, sym, ap, ◌∙◌, subst, List, [], ◌∷◌, ◌++◌, length, map, take, drop, get_or, arith}
use Rattle.std.proofs.lemmas.List.{length-map, length-take-le, get_or-map}
use Rattle.sg_algebra.specs.Coefficients.{Each}
use Rattle.sg_algebra.proofs.Place.{Pairwise}
use Rattle.sg_algebra.proofs.Value.{Value}
use Rattle.sg_spec.specs.Tree.{Tree, here}
use Rattle.sg_spec.specs.Telescoping.{Agree}
use Rattle.sg_spec.specs.Worth.{HasWorth}
use Rattle.sg_worth_theory.proofs.Closes.{no_letter}
use Rattle.sg_tower_theory.proofs.Slices.{pairwise_length}
use Rattle.sg_tower_theory.proofs.Difference.{delta}
use Rattle.sg_tower_theory.proofs.Formal.{Formal, Element, elements, shifted, IsIndependent}
use Rattle.sg_value_theory.proofs.Elements.{Point}
use Rattle.sg_value_theory.proofs.TreePoints.{IsPointOf, Agrees, Expresses}
use Rattle.sg_value_theory.proofs.TowerOf.{IsTowerOf, IsSound, at_places, up_to, HoldsBelow}
use Rattle.sg_value_theory.proofs.PointsOf.{HasValues, HasUnits}
use Rattle.sg_value_theory.proofs.Lists.{each-at}
use Rattle.sg_depth_theory.proofs.Sums.{units}
use Rattle.sg_depth_theory.proofs.Summing.{all-have, frees-all, KnownAgree, known-at}
use Rattle.sg_forms_theory.specs.Sums.{IsFree, AreNew, IsEqualFrom}
use Rattle.sg_forms_theory.specs.Checks.{TelescopesFrom, FailsBeyond}
use Rattle.sg_forms_theory.proofs.Steps.{Stands, same_from, steps_from, fails_past, one_element}
use Rattle.sg_forms_theory.proofs.Free.{free_at}

split_at : {A : Type 0} (n : ℕ) (xs : List A) (d : A) → n < length xs → xs ≡ take n xs ++ get_or xs n d ∷ drop (suc n) xs
split_at zero [] d l = absurd (omega (arith, l))
split_at (suc n) [] d l = absurd (omega (arith, l))
split_at zero (x ∷ xs) d l = refl
split_at (suc n) (x ∷ xs) d l = ap (λ ys. x ∷ ys) (split_at n xs d (omega (arith, l)))

pairwise_at : {A B : Type 0} (R : A → B → Type 0) (xs : List A) (ys : List B) (d : B) (c : A) → Pairwise R xs ys → (i : ℕ) → i < length xs → R (get_or xs i c) (get_or ys i d)
pairwise_at R [] ys d c h i l = absurd (omega (arith, l))
pairwise_at R (x ∷ xs) [] d c h i l = absurd h
pairwise_at R (x ∷ xs) (y ∷ ys) d c h zero l = h.0
pairwise_at R (x ∷ xs) (y ∷ ys) d c h (suc i) l = pairwise_at R xs ys d c h.1 i (omega (arith, l))

module _ (s : ℤ) (ps ss : List Tree) {E : Type 0} (F : Formal 0) (m : E → Element F) (places : List ℕ) (known : List E) (is : IsTowerOf no_letter s ps ss F places (map m known)) (sound : IsSound no_letter s ps ss) where
  pub own_units : Each (HasUnits no_letter) ps
  own_units = units no_letter s ps ss sound

  pub own_frees : Each (HasValues no_letter) (at_places ss places)
  own_frees = frees-all s ps ss F m places known is sound

  abbrev pub IsItemOf : Tree → E → Type 0
  IsItemOf t x = (p : Point 0) → KnownAgree s ps ss F m places known is sound p → Agrees no_letter F p (m x) t

  abbrev pub StandsHere : Tree → E → Type 0
  StandsHere t x = Stands s ps ss F places (map m known) is own_units own_frees t (m x)

  -- an expression has values from the start on
  abbrev pub HasFromStart : Tree → Type 0
  HasFromStart t = (k : ℤ) → s ≤ℤ k → (v : Value 0) × HasWorth no_letter t k v

  pub stands : (t : Tree) (x : E) → IsItemOf t x → StandsHere t x
  stands t x value q l i = value q (known-at s ps ss F m places known is sound q l i)

  module _ (f g : Tree) (x y : E) (f_has : HasFromStart f) (g_has : HasFromStart g) (f_is : IsItemOf f x) (g_is : IsItemOf g y) where
    pub telescopes-from : (elements F).◌≈◌ (delta (shifted F) (m y)) (m x) → TelescopesFrom s g f
    telescopes-from e = steps_from s ps ss F places (map m known) is own_units own_frees f g (m x) (m y) f_has g_has (stands f x f_is) (stands g y g_is) e

    pub fails-beyond : IsIndependent F → ¬ ((elements F).◌≈◌ (delta (shifted F) (m y)) (m x)) → FailsBeyond g f
    fails-beyond independent n = fails_past s ps ss F places (map m known) is own_units own_frees independent f g (m x) (m y) f_has g_has (stands f x f_is) (stands g y g_is) n

  -- ---- Equal values

  module _ (f : Tree) (x : E) (f_has : HasFromStart f) (f_stands : StandsHere f x) where
    pub equal-from : (h : Tree) → ((p : Point 0) → IsPointOf no_letter ps (at_places ss places) p → Expresses no_letter F p (m x) h) → IsEqualFrom s h f
    equal-from h expresses k l = same_from s ps ss F places (map m known) is own_units own_frees f h (m x) f_has f_stands expresses k l

    pub item-alone : IsIndependent F → (e : Tree) (y : Element F) → ((p : Point 0) → IsPointOf no_letter ps (at_places ss places) p → Expresses no_letter F p y e) → Agree e f → (elements F).◌≈◌ y (m x)
    item-alone independent e y expresses agree = one_element s ps ss F places (map m known) is own_units own_frees independent f e (m x) y f_has f_stands expresses agree

  -- ---- The sums themselves

  none : ps ≡ []
  none = sound.no_products

  pub free-place : IsIndependent F → (j i : ℕ) → j < length places → get_or places j 0 ≡ i → i < length ss → IsFree (take i ss) (get_or ss i here)
  free-place independent j i l at inside =
      let whole = split_at i ss here inside in
      let tower = subst (λ (gs : List Tree). IsTowerOf no_letter s [] gs F places (map m known)) whole (subst (λ (qs : List Tree). IsTowerOf no_letter s qs ss F places (map m known)) none is) in
      let e = length-take-le i ss (omega (arith, inside)) in
      free_at s (take i ss) (get_or ss i here) (drop (suc i) ss) F places (map m known) tower independent
      (subst (λ (gs : List Tree). Each (HasValues no_letter) gs) whole (all-have s ps ss F m places known is sound)) j l (at ∙ sym e)

  pub are-new : IsIndependent F → AreNew ss (at_places ss places)
  are-new independent = record {
    places = places;
    ascending = is.ascending;
    inside = is.inside;
    are = refl;
    new = each-new places (λ j l. free-place independent j (get_or places j 0) l refl (each-at (λ i. i < length ss) places j 0 l is.inside));
  }
    where
      each-new : (ks : List ℕ) → ((j : ℕ) → j < length ks → IsFree (take (get_or ks j 0) ss) (get_or ss (get_or ks j 0) here)) → Each (λ i. IsFree (take i ss) (get_or ss i here)) ks
      each-new [] h = tt
      each-new (k ∷ ks) h = (h 0 (omega arith), each-new ks (λ j l. h (suc j) (omega (arith, l))))

  pub sum-has : (i : ℕ) → i < length ss → HasFromStart (get_or ss i here)
  sum-has i l k late = each-at (HasValues no_letter) ss i here l (all-have s ps ss F m places known is sound) k

  pub known-length : length known ≡ length ss
  known-length = sym (pairwise_length (λ g x. (p : Point 0) → s ≤ℤ p.variable → IsPointOf no_letter ps (at_places ss places) p → Agrees no_letter F p x g) ss (map m known) is.known_agree ∙ length-map known m)

  reads : (i : ℕ) (x : E) → i < length known → x ≡ get_or known i x → get_or (map m known) i (elements F).O ≡ m x
  reads i x l e = get_or-map m known i x (elements F).O l ∙ ap m (sym e)

  pub known-stands : (i : ℕ) (x : E) → i < length ss → x ≡ get_or known i x → StandsHere (get_or ss i here) x
  known-stands i x l e =
      let n = known-length in
      subst (λ (y : Element F). Stands s ps ss F places (map m known) is own_units own_frees (get_or ss i here) y) (reads i x (omega (arith, l, n)) e)
      (pairwise_at (λ g x. (p : Point 0) → s ≤ℤ p.variable → IsPointOf no_letter ps (at_places ss places) p → Agrees no_letter F p x g) ss (map m known) (elements F).O here is.known_agree i l)

  pub known-below : (i : ℕ) (x : E) → i < length ss → x ≡ get_or known i x → HoldsBelow F (up_to i places) (m x)
  known-below i x l e = let n = known-length in subst (λ (y : Element F). HoldsBelow F (up_to i places) y) (reads i x (omega (arith, l, n)) e) (is.earlier i l)
