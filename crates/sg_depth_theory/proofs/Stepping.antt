-- The next sum, over the tower of those before it.
--   fate-new         nothing telescopes its difference: the tower with one more sum stands over one more
--   fate-known       what telescopes it, with the right constant, is its element: the tower stands over one more
--   start-regular    what telescopes it has a value at the start
use Rattle.std.proofs.Common.{◌≡◌, ℕ, suc, ◌<◌, ℤ, sym, ap, ◌∙◌, subst, List, [], ◌∷◌, ◌++◌, length, map, take, get_or, arith}
use Rattle.std.proofs.lemmas.List.{length-map, length_push}
use Rattle.sg_algebra.specs.Coefficients.{Each}
use Rattle.sg_algebra.proofs.Value.{Value}
use Rattle.sg_spec.specs.Tree.{Tree, here, sum_from}
use Rattle.sg_tower_theory.proofs.Difference.{delta}
use Rattle.sg_tower_theory.proofs.Formal.{Formal, Element, elements, shifted, one_more}
use Rattle.sg_value_theory.proofs.Elements.{Point, HasElement}
use Rattle.sg_value_theory.proofs.TreePoints.{IsPointOf}
use Rattle.sg_value_theory.proofs.TowerOf.{IsTowerOf, at_places}
use Rattle.sg_value_theory.proofs.PointsOf.{HasValues}
use Rattle.sg_value_theory.proofs.OneMore.{free, expressed}
use Rattle.sg_value_theory.proofs.Along.{agrees, regular}
use Rattle.sg_depth_theory.proofs.Standing.{Stands, IsOwn, IsStep, IsLevelled}
use Rattle.sg_depth_theory.proofs.Sums.{units, frees-have, before-length, next-starts, next-has, one-further}

module _ {d : ℕ} (letter : Value d) (s : ℤ) (ps ss : List Tree) (r : ℕ) (f : Formal d) (places : List ℕ) (known : List (Element f)) (state : Stands letter s ps ss (suc r) f places known) where
  abbrev n : ℕ
  n = length known

  abbrev before : List Tree
  before = take n ss

  pub inside : n < length ss
  inside = let e = state.left in omega (arith, e)

  pub frees : Each (HasValues letter) (at_places before places)
  frees = frees-have letter s ps ss state.sound n inside places state.tower.inside

  module _ (from : ℤ) (body : Tree) (is : get_or ss n here ≡ sum_from from body) where
    -- the state after it
    after : (f' : Formal d) (places' : List ℕ) (known' : List (Element f')) → length known' ≡ suc n → IsTowerOf letter s ps (before ++ sum_from from body ∷ []) f' places' known' → Stands letter s ps ss r f' places' known'
    after f' places' known' e t = record {
      sound = state.sound;
      left = let l = state.left in omega (arith, l, e);
      tower = subst (λ (gs : List Tree). IsTowerOf letter s ps gs f' places' known') (sym (ap (λ i. take i ss) e ∙ one-further letter s ps ss state.sound n inside from body is)) t;
    }

    module _ (β : Element f) (step : IsStep letter s ps before f places body β) where
      pub fate-new : (own : Element (one_more f β)) → IsOwn f β own → Stands letter s ps ss r (one_more f β) (places ++ n ∷ []) (map (λ y. y ∷ []) known ++ own ∷ [])
      fate-new own h =
          after (one_more f β) (places ++ n ∷ []) (map (λ y. y ∷ []) known ++ own ∷ [])
          (let a = length_push (map (λ (y : Element f). y ∷ []) known) own in let b = length-map known (λ (y : Element f). y ∷ []) in omega (arith, a, b))
          (subst (λ i. IsTowerOf letter s ps (before ++ sum_from from body ∷ []) (one_more f β) (places ++ i ∷ []) (map (λ y. y ∷ []) known ++ own ∷ [])) (before-length letter s ps ss state.sound n inside)
          (free letter s ps before f places known state.tower from body (next-starts letter s ps ss state.sound n inside from body is) (next-has letter s ps ss state.sound n inside from body is) step.element β step.placed step.shifts own h))

      module _ (y : Element f) (telescopes : (elements f).◌≈◌ (delta (shifted f) y) β) where
        pub start-regular : (p : Point d) → p.variable ≡ s → IsPointOf letter ps (at_places before places) p → (v : Value d) × HasElement f p y v
        start-regular p e i =
            regular letter s ps before f places known state.tower (units letter s ps ss state.sound) frees from body (next-starts letter s ps ss state.sound n inside from body is) (next-has letter s ps ss state.sound n inside from body is)
            step.element β step.placed step.shifts y telescopes p e i

        pub fate-known : (h : Element f) → IsLevelled letter s ps before f places (sum_from from body) y h → Stands letter s ps ss r f places (known ++ h ∷ [])
        fate-known h l =
            after f places (known ++ h ∷ []) (let a = length_push known h in omega (arith, a))
            (expressed letter s ps before f places known state.tower from body h
            (agrees letter s ps before f places known state.tower (units letter s ps ss state.sound) frees from body (next-starts letter s ps ss state.sound n inside from body is) (next-has letter s ps ss state.sound n inside from body is)
            step.element β step.placed step.shifts y telescopes l.point l.at_start l.is_point
            h l.target l.found l.constant l.first l.here_has l.difference l.sum_is))
