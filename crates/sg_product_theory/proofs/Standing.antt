-- How far a tower over products and sums has come.
--   AreUnitsOf f ps xs     the first elements, one for each of ps, are units
--   Stands .. r f qs places known      the tower f stands over all products and all but the last r of the sums: its products are qs, its own
--                          sums are those at the places among all products and sums, and known are the elements of all before these,
--                          products first
--   started                the tower over the free products stands over all products and no sum
--   whole                  where no sum is left, the tower stands over all
--   frees                  each sum at one of the places has a value everywhere
--   few-sums               the tower has at most as many sums as are listed
use Rattle.std.proofs.Common.{◌≡◌, ℕ, suc, ◌+◌, ◌-◌, ◌<◌, ◌≤◌, ℤ, sym, ap, ◌∙◌, subst, List, [], ◌∷◌, ◌++◌, length, take, get_or, arith}
use Rattle.std.proofs.lemmas.List.{take_all, length-append, length-take-le, get_or-take}
use Rattle.std.proofs.Math.Seq.{take-append_seam, get_or-append_right}
use Rattle.sg_algebra.specs.Coefficients.{Each}
use Rattle.sg_algebra.proofs.Place.{Pairwise}
use Rattle.sg_algebra.proofs.Value.{Value}
use Rattle.sg_spec.specs.Tree.{Tree, here}
use Rattle.sg_tower_theory.proofs.Slices.{pairwise_length}
use Rattle.sg_tower_theory.proofs.Formal.{Formal, Element, no_sums}
use Rattle.sg_tower_theory.proofs.Flat.{IsUnitPair}
use Rattle.sg_value_theory.proofs.TowerOf.{IsTowerOf, Ascending, at_places}
use Rattle.sg_value_theory.proofs.PointsOf.{HasValues, HasUnits}
use Rattle.sg_product_theory.proofs.Sound.{AreSound, sums-values}
use Rattle.sg_answers_theory.proofs.Relating.{AreProducts}
use Rattle.sg_product_theory.proofs.Products.{IsKnownProduct, term-unit, begun}

abbrev pub AreUnitsOf : {d : ℕ} (f : Formal d) → List Tree → List (Element f) → Type 0
AreUnitsOf f [] xs = Unit {0}
AreUnitsOf f (p ∷ ps) [] = Unit {0}
AreUnitsOf f (p ∷ ps) (x ∷ xs) = ((y : Element f) × IsUnitPair f x y) × AreUnitsOf f ps xs

pub record Stands {d : ℕ} (letter : Value d) (s : ℤ) (ps ss : List Tree) (r : ℕ) (f : Formal d) (qs : List Tree) (places : List ℕ)
    (known : List (Element f)) : Type 0 where
  pub sound : AreSound letter s ps ss
  pub units : Each (HasUnits letter) qs
  pub left : length ps + length ss ≡ length known + r
  pub all_products : length ps ≤ length known
  pub sums_alone : Each (λ i. length ps ≤ i) places
  pub tower : IsTowerOf letter s qs (take (length known) (ps ++ ss)) f places known
  pub known_units : AreUnitsOf f ps known

module _ {d : ℕ} (letter : Value d) (s : ℤ) (qs : List Tree) (αs : List (Value (suc d))) (fs : AreProducts letter s qs αs) where
  product-units : (ps : List Tree) (known : List (Element (no_sums αs))) → Pairwise (IsKnownProduct letter s qs αs fs) ps known
      → AreUnitsOf (no_sums αs) ps known
  product-units [] xs h = tt
  product-units (p ∷ ps) [] h = tt
  product-units (p ∷ ps) (x ∷ xs) h = (term-unit (no_sums αs) h.0.exponents h.0.function x h.0.term, product-units ps xs h.1)

  pub started : (ps ss : List Tree) (known : List (Element (no_sums αs))) → AreSound letter s ps ss → Each (HasUnits letter) qs
      → Pairwise (IsKnownProduct letter s qs αs fs) ps known → Stands letter s ps ss (length ss) (no_sums αs) qs [] known
  started ps ss known sound units h =
      let e = pairwise_length (IsKnownProduct letter s qs αs fs) ps known h in record {
        sound = sound;
        units = units;
        left = omega (arith, e);
        all_products = omega (arith, e);
        sums_alone = tt;
        tower = subst (λ (gs : List Tree). IsTowerOf letter s qs gs (no_sums αs) [] known) (sym (ap (λ n. take n (ps ++ ss)) (sym e) ∙ take-append_seam ps ss)) (begun letter s qs αs fs ps known h);
        known_units = product-units ps known h;
      }

-- ascending numbers below n are at most n
ascending-few : (n m i : ℕ) (is : List ℕ) → m ≤ i → Ascending (i ∷ is) → Each (λ j. j < n) (i ∷ is) → length (i ∷ is) + m ≤ n
ascending-few n m i [] l a h = let k = h.0 in omega (arith, l, k)
ascending-few n m i (j ∷ js) l a h = let k = a.0 in let r = ascending-few n (suc m) j js (omega (arith, l, k)) a.1 h.1 in omega (arith, r)

few_places : (n : ℕ) (places : List ℕ) → Ascending places → Each (λ j. j < n) places → length places ≤ n
few_places n [] a h = omega arith
few_places n (i ∷ is) a h = let r = ascending-few n 0 i is (omega arith) a h in omega (arith, r)

module _ {d : ℕ} (letter : Value d) (s : ℤ) (ps ss : List Tree) (r : ℕ) (f : Formal d) (qs : List Tree) (places : List ℕ) (known : List (Element f))
    (state : Stands letter s ps ss r f qs places known) where
  pub whole : r ≡ 0 → IsTowerOf letter s qs (ps ++ ss) f places known
  whole z = let e = state.left in let l = length-append ps ss in subst (λ (gs : List Tree). IsTowerOf letter s qs gs f places known) (take_all (length known) (ps ++ ss) (omega (arith, e, z, l))) state.tower

  -- each sum at one of the places has a value everywhere
  pub frees : Each (HasValues letter) (at_places (take (length known) (ps ++ ss)) places)
  frees = go places state.tower.inside state.sums_alone
    where
      enough : length known ≤ length (ps ++ ss)
      enough = let l = length-append ps ss in let e = state.left in omega (arith, l, e)

      one : (i : ℕ) → i < length (take (length known) (ps ++ ss)) → length ps ≤ i → HasValues letter (get_or (take (length known) (ps ++ ss)) i here)
      one i l m =
          let t = length-take-le (length known) (ps ++ ss) enough in
          let a = length-append ps ss in
          let e = state.left in
          subst (HasValues letter) (sym (get_or-take (length known) (ps ++ ss) i here (omega (arith, l, t)) ∙ get_or-append_right ps ss i here m))
          (sums-values letter s ps ss state.sound (i - length ps) (omega (arith, l, m, t, e)))

      go : (is : List ℕ) → Each (λ i. i < length (take (length known) (ps ++ ss))) is → Each (λ i. length ps ≤ i) is
          → Each (HasValues letter) (at_places (take (length known) (ps ++ ss)) is)
      go [] h k = tt
      go (i ∷ is) h k = (one i h.0 k.0, go is h.1 k.1)

  -- the tower has at most as many sums as are listed
  pub few-sums : f.sums ≤ length known
  few-sums =
      let e = state.left in
      let l = length-append ps ss in
      let t = length-take-le (length known) (ps ++ ss) (omega (arith, e, l)) in
      let a = few_places (length (take (length known) (ps ++ ss))) places state.tower.ascending state.tower.inside in
      let z = state.tower.size in
      omega (arith, a, t, z)
