-- The start of a tower over the sums of a command. ρ says which formal tower it is and which of its elements an item stands for.
--   inside-is         the places are places in the list
--   one-each          there is one value for each product and sum of the tower
--   start-point       the point at which the sums have their values at the start
--   never-none        what has a value at the start is told one
--   value-is          it is the value there
--   sum-known         a sum whose summand has values has one everywhere
--   total-sum         the sum of what is one place further and a constant
--   free-at, free-more     the sums at the places, one after another
use Rattle.std.proofs.Common.{◌≡◌, ℕ, zero, suc, ◌+◌, ◌<◌, refl, sym, ap, ap₂, ◌∙◌, subst, List, [], ◌∷◌, ◌++◌, length, map, take, get_or, ℤ, ◌≤ℤ◌, add-one, arith}
use Rattle.std.proofs.Math.Seq.{take-suc}
use Rattle.std.proofs.lemmas.List.{length-map, map-append}
use Rattle.sg_algebra.specs.Coefficients.{Each}
use Rattle.sg_algebra.proofs.Place.{Pairwise}
use Rattle.sg_algebra.proofs.Polynomial.{coefficient}
use Rattle.sg_algebra.proofs.Value.{Value, one_value, ◌-ᵛ◌}
use Rattle.sg_algebra.proofs.ValueField.{value_one_ne}
use Rattle.sg_spec.specs.Tree.{Tree, here, sum_from}
use Rattle.sg_spec.specs.Worth.{HasWorth}
use Rattle.sg_expr.specs.Tree.{tree_of}
use Rattle.sg_expr.specs.declared.tree.Expr.{Expr}
use Rattle.sg_value_theory.proofs.Elements.{Point}
use Rattle.sg_value_theory.proofs.TreePoints.{AreValues}
use Rattle.sg_value_theory.proofs.TowerOf.{at_places}
use Rattle.sg_tower_theory.proofs.Formal.{elements, shifted}
use Rattle.sg_tower.specs.Elements.{Reading, Same, IsShifted}
use Rattle.sg_value_theory.proofs.PointsOf.{sum_worth}
use Rattle.sg_limits.specs.declared.inspection.Facts.{Facts}
use Rattle.sg_build.specs.Letters.{letter}
use Rattle.sg_build.specs.Points.{IsPointAt}
use Rattle.sg_depth.specs.Commands.{AreSound, StandsOver, sums_of}
use Rattle.sg_depth.specs.Building.{AreStartValues, HasAtStart, HasNoneAtStart, IsRaisedBy}
use Rattle.sg_nested.specs.Summands.{HasStart, IsStartPoint, IsStartValue}

values-at : (k : ℤ) (gens : List Tree) (vs : List (Value 0)) → Pairwise (λ g v. HasWorth (letter 0) g k v) gens vs → AreValues (letter 0) k gens (coefficient vs)
values-at k [] vs h = tt
values-at k (g ∷ gs) [] h = absurd h
values-at k (g ∷ gs) (v ∷ vs) h = (h.0, values-at k gs vs h.1)

as-many : {A B : Type 0} (R : A → B → Type 0) (xs : List A) (ys : List B) → Pairwise R xs ys → length ys ≡ length xs
as-many R [] [] h = refl
as-many R [] (y ∷ ys) h = absurd h
as-many R (x ∷ xs) [] h = absurd h
as-many R (x ∷ xs) (y ∷ ys) h = ap suc (as-many R xs ys h.1)

module _ (facts : Facts) {E : Type 0} (ρ : Reading 0 E) (places : List ℕ) (known : List E) (sound : AreSound (letter 0) facts) (stands : StandsOver (letter 0) facts ρ places known) where
  pub inside-is : Each (λ i. i < length (sums_of facts)) places
  inside-is = stands.inside

  none-multiplied : length ρ.formal.products ≡ 0
  none-multiplied = sym stands.adjoined ∙ ap length sound.no_products

  module _ (vs : List (Value 0)) (values : AreStartValues facts places vs) where
    pub one-each : length vs ≡ length ρ.formal.products + ρ.formal.sums
    one-each =
        let n = as-many (λ g v. HasWorth (letter 0) g facts.start v) (at_places (sums_of facts) places) vs values in
        let m = length-map places (λ i. get_or (sums_of facts) i here) in
        let z = none-multiplied in
        let s = stands.size in
        omega (arith, n, m, z, s)

    abbrev point : Point 0
    point = record { variable = facts.start; products = λ i. one_value; sums = λ i. coefficient vs i; nonzero = λ i. value_one_ne 0 }

    pub is-at : IsPointAt ρ.formal facts.start vs point
    is-at = record {
      variable = refl;
      products = λ i l. absurd (let z = none-multiplied in omega (arith, l, z));
      sums = λ i l. ap (coefficient vs) (let z = none-multiplied in omega (arith, z));
    }

    pub start-point : IsStartPoint facts places point
    start-point = record {
      at_start = refl;
      is_point = (subst (λ (ps : List Tree). AreValues (letter 0) facts.start ps (λ i. one_value)) (sym sound.no_products) tt, values-at facts.start (at_places (sums_of facts) places) vs values);
    }

    pub never-none : (y : E) → HasStart facts ρ places y → HasNoneAtStart facts ρ vs y → ⊥
    never-none y h n = let v = h point start-point in n point is-at v.0 v.1

    pub value-is : (y : E) (v : Value 0) → HasAtStart facts ρ vs y v → IsStartValue facts ρ places y v
    value-is y v h = (point, start-point, h point is-at)

-- ---- Sums

pub sum-known : (f t : Tree) (from K : ℤ) → ((k : ℤ) → from ≤ℤ k → (v : Value 0) × HasWorth (letter 0) f k v) → t ≡ sum_from from f → ((v : Value 0) → ¬ HasWorth (letter 0) t K v) → ⊥
sum-known f t from K values e n = let v = sum_worth (letter 0) from f values K in n v.0 (subst (λ (u : Tree). HasWorth (letter 0) u K v.0) (sym e) v.1)

pub total-sum : {E : Type 0} (ρ : Reading 0 E) (g next y : E) (c before found : Value 0) → IsShifted ρ g next → IsRaisedBy ρ c next y → c ≡ before -ᵛ found
    → Same ρ (ρ.of y) ((elements ρ.formal).◌⊞◌ ((shifted ρ.formal).σ.on (ρ.of g)) ((shifted ρ.formal).κ.on (before -ᵛ found)))
total-sum ρ g next y c before found s r e =
    subst (λ (v : Value 0). Same ρ (ρ.of y) ((elements ρ.formal).◌⊞◌ ((shifted ρ.formal).σ.on (ρ.of g)) ((shifted ρ.formal).κ.on v))) e
    ((elements ρ.formal).trans r ((elements ρ.formal).add_cong s ((elements ρ.formal).rfl)))

-- ---- The sums at the places

pub free-at : (sums : List Expr) (i : ℕ) (sum : Expr) → sum ≡ get_or sums i sum → i < length sums → tree_of sum ≡ get_or (map tree_of sums) i here
free-at [] i sum e l = absurd (omega (arith, l))
free-at (x ∷ sums) zero sum e l = ap tree_of e
free-at (x ∷ sums) (suc i) sum e l = free-at sums i sum e (omega (arith, l))

pub free-more : (sums frees more : List Expr) (places : List ℕ) (i n : ℕ) (sum copy : Expr) → i < length places → n ≡ get_or places i n → n < length sums → sum ≡ get_or sums n sum → tree_of copy ≡ tree_of sum
    → map tree_of frees ≡ at_places (map tree_of sums) (take i places) → more ≡ frees ++ copy ∷ [] → map tree_of more ≡ at_places (map tree_of sums) (take (i + 1) places)
free-more sums frees more places i n sum copy l at inside is same so_far e =
    let at_place = λ (j : ℕ). get_or (map tree_of sums) j here in
    let before : take (i + 1) places ≡ take i places ++ n ∷ [] = ap (λ m. take m places) (add-one i) ∙ take-suc places i n l ∙ ap (λ m. take i places ++ m ∷ []) (sym at) in
    ap (map tree_of) e ∙ map-append tree_of frees (copy ∷ []) ∙ ap₂ (λ (u v : List Tree). u ++ v) so_far (ap (λ (t : Tree). t ∷ []) (same ∙ free-at sums n sum is inside))
    ∙ sym (map-append at_place (take i places) (n ∷ [])) ∙ sym (ap (map at_place) before)
