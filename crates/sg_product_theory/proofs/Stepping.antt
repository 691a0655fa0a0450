-- The next sum, over the tower of the products and of the sums before it.
--   IsOwn f β x                      x is the new sum on top of f, which grows by β
--   IsStep, IsLevelled               as in the tower of sums alone, over the products qs and the products and sums before
--   fate-new         nothing telescopes its difference: the tower with one more sum stands over one more
--   fate-known       what telescopes it, with the right constant, is its element: the tower stands over one more
--   start-regular    what telescopes it has a value at the start
use Rattle.std.proofs.Common.{◌≡◌, ℕ, suc, ◌+◌, ◌<◌, ◌≤◌, ℤ, sym, ap, ◌∙◌, subst, List, [], ◌∷◌, ◌++◌, length, map, take, get_or, arith}
use Rattle.std.proofs.lemmas.List.{length-map, length_push, length-append, length-take-le, get_or-append-add}
use Rattle.std.proofs.Math.Seq.{take-suc}
use Rattle.sg_algebra.specs.Coefficients.{Each}
use Rattle.sg_algebra.proofs.Value.{Value}
use Rattle.sg_algebra.proofs.PolynomialRing.{constantH}
use Rattle.sg_spec.specs.Tree.{Tree, here, sum_from}
use Rattle.sg_tower_theory.proofs.Difference.{delta}
use Rattle.sg_tower_theory.proofs.Formal.{Formal, Element, elements, shifted, one_more}
use Rattle.sg_tower_theory.proofs.Flat.{IsUnitPair}
use Rattle.sg_value_theory.proofs.Elements.{Point, HasElement}
use Rattle.sg_value_theory.proofs.TreePoints.{IsPointOf}
use Rattle.sg_value_theory.proofs.TowerOf.{IsTowerOf, at_places}
use Rattle.sg_value_theory.proofs.PointsOf.{HasValues}
use Rattle.sg_worth_theory.proofs.Bodies.{StartsBy, HasBody}
use Rattle.sg_value_theory.proofs.Lists.{each-more}
use Rattle.sg_value_theory.proofs.OneMore.{free, expressed}
use Rattle.sg_value_theory.proofs.Along.{agrees, regular}
use Rattle.sg_depth_theory.proofs.Standing.{IsOwn, IsStep, IsLevelled}
use Rattle.sg_product_theory.proofs.Sound.{next-starts, next-has}
use Rattle.sg_product_theory.proofs.Standing.{AreUnitsOf, Stands, frees}

-- units stay units under one more sum
unit-raised : {d : ℕ} (f : Formal d) (β x y : Element f) → IsUnitPair f x y → IsUnitPair (one_more f β) (x ∷ []) (y ∷ [])
unit-raised f β x y u = record {
  exponents = u.exponents;
  sized = u.sized;
  function = u.function;
  nonzero = u.nonzero;
  left = (constantH (elements f)).on_cong x _ u.left;
  right = (constantH (elements f)).on_cong y _ u.right;
}

units-raised : {d : ℕ} (f : Formal d) (β : Element f) (ps : List Tree) (xs : List (Element f)) (own : Element (one_more f β)) → length ps ≤ length xs
    → AreUnitsOf f ps xs → AreUnitsOf (one_more f β) ps (map (λ y. y ∷ []) xs ++ own ∷ [])
units-raised f β [] xs own l h = tt
units-raised f β (p ∷ ps) [] own l h = absurd (omega (arith, l))
units-raised f β (p ∷ ps) (x ∷ xs) own l h = ((h.0.0 ∷ [], unit-raised f β x h.0.0 h.0.1), units-raised f β ps xs own (omega (arith, l)) h.1)

units-more : {d : ℕ} (f : Formal d) (ps : List Tree) (xs : List (Element f)) (y : Element f) → length ps ≤ length xs → AreUnitsOf f ps xs
    → AreUnitsOf f ps (xs ++ y ∷ [])
units-more f [] xs y l h = tt
units-more f (p ∷ ps) [] y l h = absurd (omega (arith, l))
units-more f (p ∷ ps) (x ∷ xs) y l h = (h.0, units-more f ps xs y (omega (arith, l)) h.1)

module _ {d : ℕ} (letter : Value d) (s : ℤ) (ps ss : List Tree) (r : ℕ) (f : Formal d) (qs : List Tree) (places : List ℕ) (known : List (Element f))
    (state : Stands letter s ps ss (suc r) f qs places known)
    (m : ℕ) (next : length known ≡ length ps + m) where
  abbrev n : ℕ
  n = length known

  abbrev gens : List Tree
  gens = ps ++ ss

  abbrev before : List Tree
  before = take (length known) (ps ++ ss)

  pub inside : m < length ss
  inside = let e = state.left in omega (arith, e, next)

  many : n < length gens
  many = let e = state.left in let l = length-append ps ss in omega (arith, e, l)

  before-length : length before ≡ n
  before-length = length-take-le (length known) (ps ++ ss) (let l = many in omega (arith, l))

  have : Each (HasValues letter) (at_places before places)
  have = frees letter s ps ss (suc r) f qs places known state

  module _ (from : ℤ) (body : Tree) (is : get_or ss m here ≡ sum_from from body) where
    one-further : take (suc (length known)) (ps ++ ss) ≡ before ++ sum_from from body ∷ []
    one-further =
        take-suc (ps ++ ss) (length known) here many
        ∙ ap (λ (g : Tree). before ++ g ∷ []) (ap (λ i. get_or (ps ++ ss) i here) next ∙ get_or-append-add ps ss m here ∙ is)

    -- the state after it
    after : (f' : Formal d) (places' : List ℕ) (known' : List (Element f')) → length known' ≡ suc n → Each (λ i. length ps ≤ i) places'
        → AreUnitsOf f' ps known' → IsTowerOf letter s qs (before ++ sum_from from body ∷ []) f' places' known'
        → Stands letter s ps ss r f' qs places' known'
    after f' places' known' e alone units t = record {
      sound = state.sound;
      units = state.units;
      left = let l = state.left in omega (arith, l, e);
      all_products = let l = state.all_products in omega (arith, l, e);
      sums_alone = alone;
      tower = subst (λ (gs : List Tree). IsTowerOf letter s qs gs f' places' known') (sym (ap (λ i. take i (ps ++ ss)) e ∙ one-further)) t;
      known_units = units;
    }

    starts : StartsBy s (sum_from from body)
    starts = next-starts letter s ps ss state.sound m inside from body is

    has : HasBody letter (sum_from from body)
    has = next-has letter s ps ss state.sound m inside from body is

    module _ (β : Element f) (step : IsStep letter s qs before f places body β) where
      pub fate-new : (own : Element (one_more f β)) → IsOwn f β own
          → Stands letter s ps ss r (one_more f β) qs (places ++ length known ∷ []) (map (λ y. y ∷ []) known ++ own ∷ [])
      fate-new own h =
          after (one_more f β) (places ++ length known ∷ []) (map (λ y. y ∷ []) known ++ own ∷ [])
          (let a = length_push (map (λ (y : Element f). y ∷ []) known) own in let b = length-map known (λ (y : Element f). y ∷ []) in omega (arith, a, b))
          (each-more (λ i. length ps ≤ i) places (length known) state.sums_alone state.all_products)
          (units-raised f β ps known own state.all_products state.known_units)
          (subst (λ i. IsTowerOf letter s qs (before ++ sum_from from body ∷ []) (one_more f β) (places ++ i ∷ []) (map (λ y. y ∷ []) known ++ own ∷ [])) before-length
          (free letter s qs before f places known state.tower from body starts has step.element β step.placed step.shifts own h))

      module _ (y : Element f) (telescopes : (elements f).◌≈◌ (delta (shifted f) y) β) where
        pub start-regular : (p : Point d) → p.variable ≡ s → IsPointOf letter qs (at_places before places) p → (v : Value d) × HasElement f p y v
        start-regular p e i = regular letter s qs before f places known state.tower state.units have from body starts has step.element β step.placed step.shifts y telescopes p e i

        pub fate-known : (h : Element f) → IsLevelled letter s qs before f places (sum_from from body) y h
            → Stands letter s ps ss r f qs places (known ++ h ∷ [])
        fate-known h l =
            after f places (known ++ h ∷ []) (let a = length_push known h in omega (arith, a)) state.sums_alone
            (units-more f ps known h state.all_products state.known_units)
            (expressed letter s qs before f places known state.tower from body h
            (agrees letter s qs before f places known state.tower state.units have from body starts has step.element β step.placed step.shifts y telescopes l.point l.at_start l.is_point
            h l.target l.found l.constant l.first l.here_has l.difference l.sum_is))
