-- A sum that is expressed: what telescopes its difference, with the right constant, agrees with it from the start on.
--   regular     it has a value at the start
--   agrees      with the constant the element agrees with the sum at each point from the start on
use Rattle.std.proofs.Common.{◌≡◌, ℕ, suc, ℤ, pos, ◌+ℤ◌, ◌-ℤ◌, ◌≤ℤ◌, refl, sym, ap, ◌∙◌, subst, List, [], ◌∷◌, arith}
use Rattle.std.proofs.lemmas.Int.{ints}
use Rattle.sg_algebra.specs.Coefficients.{Each}
use Rattle.sg_algebra.proofs.Solver.{ring, by, scale, reads}
use Rattle.sg_algebra.proofs.Value.{Value, ◌+ᵛ◌, ◌-ᵛ◌, one_value}
use Rattle.sg_algebra.proofs.ValueField.{ValueR}
use Rattle.sg_spec.specs.Tree.{Tree, sum_from}
use Rattle.sg_spec.proofs.Totals.{from_on}
use Rattle.sg_tower_theory.proofs.Difference.{delta}
use Rattle.sg_tower_theory.proofs.Formal.{Formal, Element, elements, shifted}
use Rattle.sg_spec.specs.Worth.{HasWorth}
use Rattle.sg_value_theory.proofs.Elements.{Point, HasElement}
use Rattle.sg_value_theory.proofs.TreePoints.{IsPointOf, Agrees}
use Rattle.sg_value_theory.proofs.TowerOf.{IsTowerOf, at_places}
use Rattle.sg_worth_theory.proofs.Worths.{worth_unique}
use Rattle.sg_value_theory.proofs.Evaluations.{evaluation, constant-has}
use Rattle.sg_value_theory.proofs.Regular.{regular_along}
use Rattle.sg_value_theory.proofs.PointsOf.{HasValues, HasUnits, sum_worth, points, points-late, points-are, next-place, run}
use Rattle.sg_value_theory.proofs.Alike.{alike}
use Rattle.sg_value_theory.proofs.Growing.{sum-grows, agrees-expressed}
use Rattle.sg_value_theory.proofs.OneMore.{grows}

module _ {d : ℕ} where
  first-value : (t v c : Value d) → c ≡ t -ᵛ v → v ≡ t -ᵛ c
  first-value t v c e = by (ValueR d) (t ∷ v ∷ c ∷ []) (scale (ValueR d) one_value e) (search reads depth 16) refl

  next-value : (t t' w c : Value d) → t' ≡ t +ᵛ w → t' -ᵛ c ≡ (t -ᵛ c) +ᵛ w
  next-value t t' w c e = by (ValueR d) (t ∷ t' ∷ w ∷ c ∷ []) e (search reads depth 16) refl

  whole-value : (t c : Value d) → (t -ᵛ c) +ᵛ c ≡ t
  whole-value t c = ring (ValueR d) (t ∷ c ∷ []) (search reads depth 16) refl

module _ {d : ℕ} (letter : Value d) (s : ℤ) (ps before : List Tree) (f : Formal d) (places : List ℕ) (known : List (Element f)) (is : IsTowerOf letter s ps before f places known)
    (units : Each (HasUnits letter) ps) (frees : Each (HasValues letter) (at_places before places))
    (from : ℤ) (body : Tree) (starts : (from -ℤ pos 1) ≤ℤ s) (has : (j : ℤ) → from ≤ℤ j → (v : Value d) × HasWorth letter body j v) (x β : Element f)
    (placed : (p : Point d) → s ≤ℤ p.variable → IsPointOf letter ps (at_places before places) p → Agrees letter f p x body) (shifts : (elements f).◌≈◌ β ((shifted f).σ.on x))
    (y : Element f) (telescopes : (elements f).◌≈◌ (delta (shifted f) y) β)
    (p₀ : Point d) (at_start : p₀.variable ≡ s) (is_point : IsPointOf letter ps (at_places before places) p₀) where
  abbrev g : Tree
  g = sum_from from body

  late : s ≤ℤ s
  late = omega (arith, ints)

  abbrev place : ℕ → Point d
  place j = points letter s ps before f places known is units frees s late j

  are : (j : ℕ) → IsPointOf letter ps (at_places before places) (place j)
  are j = points-are letter s ps before f places known is units frees s late j

  place-late : (j : ℕ) → s ≤ℤ (s +ℤ pos j)
  place-late j = points-late letter s ps before f places known is units frees s late j

  next : (j : ℕ) → s +ℤ pos (suc j) ≡ (s +ℤ pos j) +ℤ pos 1
  next j = next-place letter s ps before f places known is units frees s late j

  value : HasValues letter g
  value = sum_worth letter from body has

  T : ℕ → Value d
  T j = (value (s +ℤ pos j)).0

  T-has : (j : ℕ) → HasWorth letter g (s +ℤ pos j) (T j)
  unfolding T
  T-has j = (value (s +ℤ pos j)).1

  terms : (j : ℕ) → (w : Value d) × HasElement f (place j) β w × (T (suc j) ≡ T j +ᵛ w)
  terms j =
      let w = has ((s +ℤ pos j) +ℤ pos 1) (omega (arith, ints, starts)) in (
        w.0,
        grows letter s ps before f places known is from body starts has x β placed shifts (place j) (place (suc j)) (place-late j) (next j) (are j) (are (suc j)) w.0 w.1,
        sum-grows letter from body (s +ℤ pos j) (T j) (T (suc j)) w.0 (omega (arith, ints, starts)) (T-has j) (subst (λ (k : ℤ). HasWorth letter g k (T (suc j))) (next j) (T-has (suc j))) w.1,
      )

  first-place : s +ℤ pos 0 ≡ s
  first-place = omega (arith, ints)

  same : (p q : Point d) → p.variable ≡ q.variable → IsPointOf letter ps (at_places before places) p → IsPointOf letter ps (at_places before places) q → (z : Element f) (v : Value d) → HasElement f p z v → HasElement f q z v
  same = alike letter s ps before f places known is

  -- y has a value at the start
  pub regular : (v : Value d) × HasElement f p₀ y v
  regular =
      let r = regular_along f place (run letter s ps before f places known is units frees s late) y β telescopes (λ j. ((terms j).0, (terms j).1)) 0 in
      (r.0, same (place 0) p₀ (first-place ∙ sym at_start) (are 0) is_point y r.0 r.1)

  module _ (h : Element f) (t₀ v₀ c : Value d) (first : HasWorth letter (sum_from from body) s t₀) (here_has : HasElement f p₀ y v₀) (constant : c ≡ t₀ -ᵛ v₀)
      (sum_is : (elements f).◌≈◌ h ((elements f).◌⊞◌ y ((shifted f).κ.on c))) where
    steps : (j : ℕ) → (w : Value d) × HasElement f (place j) β w × ((T (suc j) -ᵛ c) ≡ (T j -ᵛ c) +ᵛ w)
    steps j = let w = terms j in (w.0, w.1, next-value (T j) (T (suc j)) w.0 c w.2)

    start-value : v₀ ≡ T 0 -ᵛ c
    start-value = first-value t₀ v₀ c constant ∙ ap (λ t. t -ᵛ c) (worth_unique letter g s t₀ (T 0) first (subst (λ (k : ℤ). HasWorth letter g k (T 0)) first-place (T-has 0)))

    starts-with : HasElement f (place 0) y (T 0 -ᵛ c)
    starts-with = subst (HasElement f (place 0) y) start-value (same p₀ (place 0) (at_start ∙ sym first-place) is_point (are 0) y v₀ here_has)

    y-has : (j : ℕ) → HasElement f (place j) y (T j -ᵛ c)
    y-has = agrees-expressed letter f place y β (λ j. T j -ᵛ c) (run letter s ps before f places known is units frees s late) telescopes steps starts-with

    h-has : (j : ℕ) → HasElement f (place j) h (T j)
    h-has j =
        subst (HasElement f (place j) h) (whole-value (T j) c)
        ((evaluation f (place j)).same ((elements f).◌⊞◌ y ((shifted f).κ.on c)) h ((T j -ᵛ c) +ᵛ c) ((elements f).symm sum_is)
        ((evaluation f (place j)).add_has y ((shifted f).κ.on c) (T j -ᵛ c) c (y-has j) (constant-has f (place j) c)))

    pub agrees : (p : Point d) → s ≤ℤ p.variable → IsPointOf letter ps (at_places before places) p → Agrees letter f p h g
    agrees p l i v w =
        let r = from_on s p.variable l in
        subst (HasElement f p h) (worth_unique letter g (s +ℤ pos r.0) (T r.0) v (T-has r.0) (subst (λ (k : ℤ). HasWorth letter g k v) r.1 w))
        (same (place r.0) p (sym r.1) (are r.0) i h (T r.0) (h-has r.0))
