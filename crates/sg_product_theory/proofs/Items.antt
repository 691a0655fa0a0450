-- The next sum, with the items that a program holds, where m says which element an item stands for.
--   KnownAgree          at a point each known item agrees with its product or sum
--   built, somewhere, agree-at        the body of the next sum is built over the products and the sums before it; at some point it has a
--                                     value, and the known items agree
--   step-is             what the shift of the placed body is
--   regular-is          what telescopes it has a value at the start
--   new-is, known-is    the state after the next sum
use Rattle.std.proofs.Common.{◌≡◌, ℕ, suc, ◌+◌, ◌<◌, ℤ, pos, ◌+ℤ◌, ◌≤ℤ◌, refl, sym, ap, ◌∙◌, subst, List, [], ◌∷◌, ◌++◌, length, map, take, get_or, arith}
use Rattle.std.proofs.lemmas.Int.{ints}
use Rattle.std.proofs.lemmas.List.{length-map, map-append}
use Rattle.std.proofs.Math.Seq.{take-append-add}
use Rattle.sg_algebra.specs.Coefficients.{Each}
use Rattle.sg_algebra.proofs.Place.{Pairwise}
use Rattle.sg_algebra.proofs.Value.{Value}
use Rattle.sg_spec.specs.Tree.{Tree, here, sum_from}
use Rattle.sg_spec.specs.Worth.{HasWorth}
use Rattle.sg_tower_theory.proofs.Slices.{pairwise_to}
use Rattle.sg_tower_theory.proofs.Difference.{delta}
use Rattle.sg_tower_theory.proofs.Formal.{Formal, Element, elements, shifted, one_more}
use Rattle.sg_value_theory.proofs.Elements.{Point, HasElement}
use Rattle.sg_value_theory.proofs.TreePoints.{IsPointOf, Agrees}
use Rattle.sg_value_theory.proofs.TowerOf.{BuiltOver, at_places}
use Rattle.sg_value_theory.proofs.PointsOf.{HasValues, point_at, is-point}
use Rattle.sg_depth_theory.proofs.Standing.{IsOwn, IsStep, IsLevelled}
use Rattle.sg_product_theory.proofs.Sound.{next-built, next-starts, next-has}
use Rattle.sg_product_theory.proofs.Standing.{Stands, frees}
use Rattle.sg_product_theory.proofs.Stepping.{inside, fate-new, fate-known, start-regular}
use Rattle.sg_product_theory.proofs.Summing.{pairwise_items}

map-raised : {A B : Type 0} (m : A → B) (xs : List A) (own : List A)
    → map (λ p. map m p) (map (λ e. e ∷ []) xs ++ own ∷ []) ≡ map (λ y. y ∷ []) (map m xs) ++ map m own ∷ []
map-raised m [] own = refl
map-raised m (x ∷ xs) own = ap (λ ys. (m x ∷ []) ∷ ys) (map-raised m xs own)

module _ {d : ℕ} (letter : Value d) (s : ℤ) (ps ss : List Tree) {E : Type 0} (f : Formal d) (m : E → Element f) (qs : List Tree) (places : List ℕ)
    (known : List E) where
  abbrev pub before : List Tree
  before = take (length known) (ps ++ ss)

  same : length (map m known) ≡ length known
  same = length-map known m

  abbrev pub IsPlace : Point d → Type 0
  IsPlace p = IsPointOf letter qs (at_places (take (length known) (ps ++ ss)) places) p

  abbrev pub KnownAgree : Point d → Type 0
  KnownAgree p = Pairwise (λ g x. Agrees letter f p (m x) g) (take (length known) (ps ++ ss)) known

  module _ (r : ℕ) (state : Stands letter s ps ss (suc r) f qs places (map m known)) (n : ℕ) (next : length known ≡ length ps + n) where
    next' : length (map m known) ≡ length ps + n
    next' = same ∙ next

    pub item-inside : n < length ss
    item-inside = inside letter s ps ss r f qs places (map m known) state n next'

    -- the products, and the first n sums
    pub first-gens : take (length known) (ps ++ ss) ≡ ps ++ take n ss
    first-gens = ap (λ i. take i (ps ++ ss)) next ∙ take-append-add ps ss n

    pub agree-at : (p : Point d) → s ≤ℤ p.variable → IsPlace p → KnownAgree p
    agree-at p l i =
        pairwise_items (λ g x. Agrees letter f p x g) m (take (length known) (ps ++ ss)) known
        (pairwise_to (λ g x. (p : Point d) → s ≤ℤ p.variable → IsPlace p → Agrees letter f p x g) (λ g x. Agrees letter f p x g) (take (length known) (ps ++ ss)) (map m known) (λ g x h. h p l i)
        (subst (λ n. Pairwise (λ g x. (p : Point d) → s ≤ℤ p.variable → IsPointOf letter qs (at_places (take n (ps ++ ss)) places) p → Agrees letter f p x g) (take n (ps ++ ss)) (map m known)) same state.tower.known_agree))

    module _ (from : ℤ) (body : Tree) (is : get_or ss n here ≡ sum_from from body) where
      pub built : BuiltOver ps (take n ss) body
      built = next-built letter s ps ss state.sound n item-inside from body is

      pub somewhere : (p : Point d) × KnownAgree p × ((v : Value d) × HasWorth letter body p.variable v)
      somewhere =
          let gens = at_places (take (length known) (ps ++ ss)) places in
          let w = subst (λ n. Each (HasValues letter) (at_places (take n (ps ++ ss)) places)) same (frees letter s ps ss (suc r) f qs places (map m known) state) in
          let k = s +ℤ pos 1 in
          let p = point_at letter qs state.units gens w k in
          let l = next-starts letter s ps ss state.sound n item-inside from body is in
          (p, agree-at p (omega (arith, ints)) (is-point letter qs state.units gens w k), next-has letter s ps ss state.sound n item-inside from body is k (omega (arith, ints, l)))

      pub step-is : (x b : E) → ((p : Point d) → KnownAgree p → Agrees letter f p (m x) body) → (elements f).◌≈◌ (m b) ((shifted f).σ.on (m x))
          → IsStep letter s qs (take (length known) (ps ++ ss)) f places body (m b)
      step-is x b value shift = record { element = m x; placed = λ p l i. value p (agree-at p l i); shifts = shift }

      module _ (b : E) (step : IsStep letter s qs (take (length known) (ps ++ ss)) f places body (m b)) where
        step-next : IsStep letter s qs (take (length (map m known)) (ps ++ ss)) f places body (m b)
        step-next = subst (λ n. IsStep letter s qs (take n (ps ++ ss)) f places body (m b)) (sym same) step

        pub new-is : (own : List E) → IsOwn f (m b) (map m own)
            → Stands letter s ps ss r (one_more f (m b)) qs (places ++ length known ∷ []) (map (λ p. map m p) (map (λ e. e ∷ []) known ++ own ∷ []))
        new-is own h =
            subst (λ (xs : List (Element (one_more f (m b)))). Stands letter s ps ss r (one_more f (m b)) qs (places ++ length known ∷ []) xs) (sym (map-raised m known own))
            (subst (λ n. Stands letter s ps ss r (one_more f (m b)) qs (places ++ n ∷ []) (map (λ y. y ∷ []) (map m known) ++ map m own ∷ [])) same
            (fate-new letter s ps ss r f qs places (map m known) state n next' from body is (m b) step-next (map m own) h))

        module _ (y : E) (telescopes : (elements f).◌≈◌ (delta (shifted f) (m y)) (m b)) where
          pub regular-is : (p : Point d) → p.variable ≡ s → IsPlace p → (v : Value d) × HasElement f p (m y) v
          regular-is p e i =
              start-regular letter s ps ss r f qs places (map m known) state n next' from body is (m b) step-next (m y) telescopes p e
              (subst (λ n. IsPointOf letter qs (at_places (take n (ps ++ ss)) places) p) (sym same) i)

          pub known-is : (h : E) → IsLevelled letter s qs (take (length known) (ps ++ ss)) f places (sum_from from body) (m y) (m h)
              → Stands letter s ps ss r f qs places (map m (known ++ h ∷ []))
          known-is h level =
              subst (λ (xs : List (Element f)). Stands letter s ps ss r f qs places xs) (sym (map-append m known (h ∷ [])))
              (fate-known letter s ps ss r f qs places (map m known) state n next' from body is (m b) step-next (m y) telescopes (m h)
              (subst (λ n. IsLevelled letter s qs (take n (ps ++ ss)) f places (sum_from from body) (m y) (m h)) (sym same) level))
