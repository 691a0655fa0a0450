-- The values of sums at the start, and the constant that an element lacks there.
--   more-values        the values of one more place
--   has-value          a sum of the list has a value at the start
--   read-at, letter-at, value-at      the sum at one of the places
--   places-inside      the places of the tower's sums are places of the list
--   start-point        the point at the start, where the sums of the tower have their values
--   constant-is        what an element lacks there of the value of the next sum
--   raised-by          the element and a constant
--   levelled-to        what telescopes the difference of the next sum, with the constant that it lacks
use Rattle.std.proofs.Common.{◌≡◌, ℕ, zero, suc, ◌+◌, ◌<◌, ◌≤◌, ℤ, refl, sym, ap, ap₂, ◌∙◌, subst, List, [], ◌∷◌, ◌++◌, length, map, take, get_or, All, arith}
use Rattle.std.proofs.Math.Seq.{take-suc}
use Rattle.std.proofs.lemmas.List.{length-map, map-append, length-take-le, get_or-take, get_or-map}
use Rattle.std.proofs.lemmas.List.Elements.{All-get_or}
use Rattle.sg_algebra.specs.Ring.{Ring}
use Rattle.sg_algebra.specs.Coefficients.{Each}
use Rattle.sg_algebra.proofs.Lists.{each_to}
use Rattle.sg_algebra.proofs.Place.{Pairwise}
use Rattle.sg_algebra.proofs.Polynomial.{coefficient}
use Rattle.sg_algebra.proofs.Value.{Value, ◌-ᵛ◌}
use Rattle.sg_spec.specs.Tree.{Tree, here, sum_from}
use Rattle.sg_spec.specs.Worth.{HasWorth}
use Rattle.sg_expr.specs.Tree.{tree_of}
use Rattle.sg_expr.specs.declared.tree.Expr.{Expr}
use Rattle.sg_tower_theory.proofs.Slices.{pairwise_length}
use Rattle.sg_tower_theory.proofs.Formal.{Formal, Element, elements, shifted}
use Rattle.sg_value_theory.proofs.Elements.{Point, HasElement, plain_point}
use Rattle.sg_value_theory.proofs.TreePoints.{AreValues, IsPointOf}
use Rattle.sg_value_theory.proofs.TowerOf.{at_places}
use Rattle.sg_value_theory.proofs.Lists.{pairwise-more, each-at}
use Rattle.sg_depth_theory.proofs.Sums.{has-values}
use Rattle.sg_tower.specs.Elements.{Reading, IsOne, IsMultiple, IsSum}
use Rattle.sg_build.specs.Letters.{letter, HasNoLetter}
use Rattle.sg_build.specs.Points.{IsPointAt}
use Rattle.sg_limits.specs.declared.inspection.Facts.{Facts}
use Rattle.sg_depth.specs.Commands.{AreSound, sums_of, prods_of}
use Rattle.sg_depth.specs.Building.{IsBuilt, HasStart, IsConstant, IsRaisedBy, IsLevelledTo, AreStartValues, HasAtStart, HasNoneAtStart, earlier}
use Rattle.sg_depth.proofs.Calls.{next-inside}

module _ {d : ℕ} (R : Tree → Value d → Type 0) (ss : List Tree) where
  one-more : (places : List ℕ) (i p : ℕ) → i < length places → at_places ss (take (i + 1) places) ≡ at_places ss (take i places) ++ get_or ss (get_or places i p) here ∷ []
  one-more places i p l =
      ap (λ n. at_places ss (take n places)) (up i) ∙ ap (at_places ss) (take-suc places i p l) ∙ map-append (λ n. get_or ss n here) (take i places) (get_or places i p ∷ [])
    where
      up : (i : ℕ) → i + 1 ≡ suc i
      up i = omega arith

  pub more-values : {K : Type 0} (v : K → Value d) (places : List ℕ) (i p : ℕ) (xs new : List K) (x : K) → i < length places → p ≡ get_or places i p → Pairwise R (at_places ss (take i places)) (map v xs) → R (get_or ss p here) (v x) → new ≡ xs ++ x ∷ []
      → Pairwise R (at_places ss (take (i + 1) places)) (map v new)
  more-values v places i p xs new x l e h r n =
      subst (λ (gs : List Tree). Pairwise R gs (map v new)) (sym (one-more places i p l))
      (subst (λ (vs : List (Value d)). Pairwise R (at_places ss (take i places) ++ get_or ss (get_or places i p) here ∷ []) vs) (sym (ap (map v) n ∙ map-append v xs (x ∷ [])))
      (pairwise-more R (at_places ss (take i places)) (map v xs) (get_or ss (get_or places i p) here) (v x) h (subst (λ j. R (get_or ss j here) (v x)) e r)))

values-are : {d : ℕ} (letter : Value d) (k : ℤ) (gs : List Tree) (vs : List (Value d)) → Pairwise (λ g v. HasWorth letter g k v) gs vs → AreValues letter k gs (coefficient vs)
values-are letter k [] vs h = tt
values-are letter k (g ∷ gs) [] h = absurd h
values-are letter k (g ∷ gs) (v ∷ vs) h = (h.0, values-are letter k gs vs h.1)

module _ {d : ℕ} (facts : Facts) (sound : AreSound (letter d) facts) where
  pub has-value : (n : ℕ) → n < length (sums_of facts) → (v : Value d) × HasWorth (letter d) (get_or (sums_of facts) n here) facts.start v
  has-value n l = has-values (letter d) facts.start (prods_of facts) (sums_of facts) sound n l facts.start

  -- the sum that is read at one of the places
  module _ (places : List ℕ) (inside : Each (λ i. i < length (sums_of facts)) places) (i p : ℕ) (e : Expr) (l : i < length places) (at : p ≡ get_or places i p) (is : e ≡ get_or facts.sums p e) where
    place-inside : p < length (sums_of facts)
    place-inside = subst (λ n. n < length (sums_of facts)) (sym at) (each-at (λ i. i < length (sums_of facts)) places i p l inside)

    pub read-at : get_or (sums_of facts) p here ≡ tree_of e
    read-at = get_or-map tree_of facts.sums p e here (let m = length-map facts.sums tree_of in let h = place-inside in omega (arith, m, h)) ∙ ap tree_of (sym is)

    pub letter-at : All (HasNoLetter d) (sums_of facts) → HasNoLetter d (tree_of e)
    letter-at h = subst (λ (g : Tree). HasNoLetter d g) read-at (All-get_or (HasNoLetter d) (sums_of facts) p here place-inside h)

    pub value-at : (v : Value d) × HasWorth (letter d) (tree_of e) facts.start v
    value-at = subst (λ (g : Tree). (v : Value d) × HasWorth (letter d) g facts.start v) read-at (has-value p place-inside)

module _ {d : ℕ} {E : Type 0} (facts : Facts) (ρ : Reading d E) (places : List ℕ) (known : List E) (r : ℕ) (b : IsBuilt facts (suc r) ρ places known) where
  abbrev ss : List Tree
  ss = sums_of facts

  same : length (map ρ.of known) ≡ length known
  same = length-map known ρ.of

  before-length : length (earlier facts known) ≡ length known
  before-length = let l = next-inside facts ρ places known r b in length-take-le (length known) ss (omega (arith, l))

  inside-before : Each (λ i. i < length (earlier facts known)) places
  inside-before = subst (λ n. Each (λ i. i < length (take n ss)) places) same b.state.tower.inside

  pub places-inside : Each (λ i. i < length ss) places
  places-inside = each_to (λ i. i < length (earlier facts known)) (λ i. i < length ss) places (λ i l. let n = next-inside facts ρ places known r b in let e = before-length in omega (arith, l, n, e)) inside-before

  same-places : (m : ℕ) (is : List ℕ) → Each (λ i. i < m) is → at_places (take m ss) is ≡ at_places ss is
  same-places m [] h = refl
  same-places m (i ∷ is) h = ap₂ ◌∷◌ (get_or-take m ss i here h.0) (same-places m is h.1)

  earlier-places : at_places (earlier facts known) places ≡ at_places ss places
  earlier-places = same-places (length known) places (subst (λ n. Each (λ i. i < n) places) before-length inside-before)

  no-products : length ρ.formal.products ≡ 0
  no-products = sym b.state.tower.adjoined ∙ ap length b.state.sound.no_products

  module _ (vs : List (Value d)) (values : AreStartValues facts places vs) where
    pub one-each : length vs ≡ length ρ.formal.products + ρ.formal.sums
    one-each =
        let e = pairwise_length (λ g v. HasWorth (letter d) g facts.start v) (at_places ss places) vs values in
        let m = length-map places (λ i. get_or ss i here) in
        let z = b.state.tower.size in
        let p = no-products in
        omega (arith, e, m, z, p)

    pub point : Point d
    point = plain_point facts.start (coefficient vs)

    pub is-at : IsPointAt ρ.formal facts.start vs point
    unfolding point
    is-at = record {
      variable = refl;
      products = λ i l. let e = no-products in absurd (omega (arith, l, e));
      sums = λ i l. ap (coefficient vs) (let e = no-products in let z : i ≡ length ρ.formal.products + i = omega (arith, e) in z);
    }

    at-start : point.variable ≡ facts.start
    unfolding point
    at-start = refl

    is-point : IsPointOf (letter d) (prods_of facts) (at_places (earlier facts known) places) point
    unfolding point
    is-point = (
      subst (λ (qs : List Tree). AreValues (letter d) facts.start qs point.products) (sym b.state.sound.no_products) tt,
      subst (λ (gs : List Tree). AreValues (letter d) facts.start gs (coefficient vs)) (sym earlier-places) (values-are (letter d) facts.start (at_places ss places) vs values),
    )

    module _ (y : E) where
      -- so an answer that y has no value there is impossible
      pub never-none : HasStart facts ρ places known y → HasNoneAtStart facts ρ vs y → ⊥
      never-none regular none = let h = regular point at-start is-point in none point is-at h.0 h.1

      pub constant-is : (g : Tree) (target found c : Value d) → HasWorth (letter d) g facts.start target → HasAtStart facts ρ vs y found → c ≡ target -ᵛ found → IsConstant facts ρ places known g y c
      constant-is g target found c first has e = record {
        point = point;
        at_start = at-start;
        is_point = is-point;
        target = target;
        found = found;
        first = first;
        here_has = has point is-at;
        difference = e;
      }

module _ {d : ℕ} {E : Type 0} (ρ : Reading d E) where
  open (elements ρ.formal) use {◌≈◌, ◌⊞◌, ◌⊠◌, I, rfl, trans, add_cong, mul_cong, mul_I}

  pub raised-by : (c : Value d) (y one k h : E) → IsOne ρ one → IsMultiple ρ c one k → IsSum ρ y k h → IsRaisedBy ρ c y h
  raised-by c y one k h o m s = trans s (add_cong rfl (trans m (trans (mul_cong rfl o) mul_I)))

  pub levelled-to : (facts : Facts) (places : List ℕ) (known : List E) (g : Tree) (y h : E) (c : Value d) → IsConstant facts ρ places known g y c → IsRaisedBy ρ c y h → IsLevelledTo facts ρ places known g y h
  levelled-to facts places known g y h c k r = record {
    point = k.point;
    at_start = k.at_start;
    is_point = k.is_point;
    target = k.target;
    found = k.found;
    constant = c;
    first = k.first;
    here_has = k.here_has;
    difference = k.difference;
    sum_is = r;
  }
