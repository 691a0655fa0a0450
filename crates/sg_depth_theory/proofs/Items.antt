-- The same with the items that a program holds, where m says which element an item stands for.
--   KnownAgree          at a point each known item agrees with its sum
--   built, somewhere, agree-at        the body of the next sum is built over those before it; at some point it has a value, and the known items agree
--   step-is             what the shift of the placed body is
--   regular-is          what telescopes it has a value at the start
--   new-is, known-is    the state after the next sum
use Rattle.std.proofs.Common.{◌≡◌, ℕ, suc, ◌<◌, ℤ, pos, ◌+ℤ◌, ◌≤ℤ◌, refl, sym, ap, ◌∙◌, subst, List, [], ◌∷◌, ◌++◌, length, map, take, get_or, arith}
use Rattle.std.proofs.lemmas.Int.{ints}
use Rattle.std.proofs.lemmas.List.{length-map, map-append}
use Rattle.sg_algebra.specs.Coefficients.{Each}
use Rattle.sg_algebra.proofs.Place.{Pairwise}
use Rattle.sg_algebra.proofs.Value.{Value}
use Rattle.sg_spec.specs.Tree.{Tree, here, sum_from}
use Rattle.sg_spec.specs.Worth.{HasWorth}
use Rattle.sg_tower_theory.proofs.Slices.{pairwise_to}
use Rattle.sg_tower_theory.proofs.Difference.{delta}
use Rattle.sg_tower_theory.proofs.Formal.{Formal, Element, elements, shifted, one_more}
use Rattle.sg_value_theory.proofs.Elements.{Point, HasElement}
use Rattle.sg_value_theory.proofs.TreePoints.{IsPointOf, Agrees}
use Rattle.sg_value_theory.proofs.TowerOf.{BuiltOver, at_places}
use Rattle.sg_value_theory.proofs.PointsOf.{HasValues, point_at, is-point}
use Rattle.sg_depth_theory.proofs.Standing.{Stands, IsOwn, IsStep, IsLevelled}
use Rattle.sg_depth_theory.proofs.Sums.{units, next-built, next-starts, next-has}
use Rattle.sg_depth_theory.proofs.Stepping.{inside, frees, fate-new, fate-known, start-regular}

pairwise_items : {A B C : Type 0} (R : A → C → Type 0) (m : B → C) (xs : List A) (ys : List B) → Pairwise R xs (map m ys) → Pairwise (λ x y. R x (m y)) xs ys
pairwise_items R m [] [] h = tt
pairwise_items R m [] (y ∷ ys) h = absurd h
pairwise_items R m (x ∷ xs) [] h = absurd h
pairwise_items R m (x ∷ xs) (y ∷ ys) h = (h.0, pairwise_items R m xs ys h.1)

map-raised : {A B : Type 0} (m : A → B) (xs : List A) (own : List A) → map (λ p. map m p) (map (λ e. e ∷ []) xs ++ own ∷ []) ≡ map (λ y. y ∷ []) (map m xs) ++ map m own ∷ []
map-raised m [] own = refl
map-raised m (x ∷ xs) own = ap (λ ys. (m x ∷ []) ∷ ys) (map-raised m xs own)

module _ {d : ℕ} (letter : Value d) (s : ℤ) (ps ss : List Tree) {E : Type 0} (f : Formal d) (m : E → Element f) (places : List ℕ) (known : List E) where
  abbrev before : List Tree
  before = take (length known) ss

  same : length (map m known) ≡ length known
  same = length-map known m

  abbrev IsPlace : Point d → Type 0
  IsPlace p = IsPointOf letter ps (at_places before places) p

  abbrev pub KnownAgree : Point d → Type 0
  KnownAgree p = Pairwise (λ g x. Agrees letter f p (m x) g) before known

  module _ (r : ℕ) (state : Stands letter s ps ss (suc r) f places (map m known)) where
    pub item-inside : length known < length ss
    item-inside = subst (λ i. i < length ss) same (inside letter s ps ss r f places (map m known) state)

    pub agree-at : (p : Point d) → s ≤ℤ p.variable → IsPlace p → KnownAgree p
    agree-at p l i =
        pairwise_items (λ g x. Agrees letter f p x g) m before known
        (pairwise_to (λ g x. (p : Point d) → s ≤ℤ p.variable → IsPlace p → Agrees letter f p x g) (λ g x. Agrees letter f p x g) before (map m known) (λ g x h. h p l i)
        (subst (λ n. Pairwise (λ g x. (p : Point d) → s ≤ℤ p.variable → IsPointOf letter ps (at_places (take n ss) places) p → Agrees letter f p x g) (take n ss) (map m known)) same state.tower.known_agree))

    module _ (from : ℤ) (body : Tree) (is : get_or ss (length known) here ≡ sum_from from body) where
      is-next : get_or ss (length (map m known)) here ≡ sum_from from body
      is-next = ap (λ i. get_or ss i here) same ∙ is

      pub built : BuiltOver ps before body
      built = next-built letter s ps ss state.sound (length known) item-inside from body is

      pub somewhere : (p : Point d) × KnownAgree p × ((v : Value d) × HasWorth letter body p.variable v)
      somewhere =
          let gens = at_places before places in
          let w = subst (λ n. Each (HasValues letter) (at_places (take n ss) places)) same (frees letter s ps ss r f places (map m known) state) in
          let u = units letter s ps ss state.sound in
          let k = s +ℤ pos 1 in
          let p = point_at letter ps u gens w k in
          let l = next-starts letter s ps ss state.sound (length known) item-inside from body is in
          (p, agree-at p (omega (arith, ints)) (is-point letter ps u gens w k), next-has letter s ps ss state.sound (length known) item-inside from body is k (omega (arith, ints, l)))

      pub step-is : (x b : E) → ((p : Point d) → KnownAgree p → Agrees letter f p (m x) body) → (elements f).◌≈◌ (m b) ((shifted f).σ.on (m x)) → IsStep letter s ps before f places body (m b)
      step-is x b value shift = record { element = m x; placed = λ p l i. value p (agree-at p l i); shifts = shift }

      module _ (b : E) (step : IsStep letter s ps before f places body (m b)) where
        step-next : IsStep letter s ps (take (length (map m known)) ss) f places body (m b)
        step-next = subst (λ n. IsStep letter s ps (take n ss) f places body (m b)) (sym same) step

        pub new-is : (own : List E) → IsOwn f (m b) (map m own) → Stands letter s ps ss r (one_more f (m b)) (places ++ length known ∷ []) (map (λ p. map m p) (map (λ e. e ∷ []) known ++ own ∷ []))
        new-is own h =
            subst (λ (xs : List (Element (one_more f (m b)))). Stands letter s ps ss r (one_more f (m b)) (places ++ length known ∷ []) xs) (sym (map-raised m known own))
            (subst (λ n. Stands letter s ps ss r (one_more f (m b)) (places ++ n ∷ []) (map (λ y. y ∷ []) (map m known) ++ map m own ∷ [])) same
            (fate-new letter s ps ss r f places (map m known) state from body is-next (m b) step-next (map m own) h))

        module _ (y : E) (telescopes : (elements f).◌≈◌ (delta (shifted f) (m y)) (m b)) where
          pub regular-is : (p : Point d) → p.variable ≡ s → IsPlace p → (v : Value d) × HasElement f p (m y) v
          regular-is p e i =
              start-regular letter s ps ss r f places (map m known) state from body is-next (m b) step-next (m y) telescopes p e
              (subst (λ n. IsPointOf letter ps (at_places (take n ss) places) p) (sym same) i)

          pub known-is : (h : E) → IsLevelled letter s ps before f places (sum_from from body) (m y) (m h) → Stands letter s ps ss r f places (map m (known ++ h ∷ []))
          known-is h level =
              subst (λ (xs : List (Element f)). Stands letter s ps ss r f places xs) (sym (map-append m known (h ∷ [])))
              (fate-known letter s ps ss r f places (map m known) state from body is-next (m b) step-next (m y) telescopes (m h)
              (subst (λ n. IsLevelled letter s ps (take n ss) f places (sum_from from body) (m y) (m h)) (sym same) level))
