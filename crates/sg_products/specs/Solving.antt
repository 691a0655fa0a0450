-- The recursion over the exponents of the products, where v says which value a constant has and αs are the factors of the products.
--   exponents_in n es               a list of exponents, as one exponent for each of n products
--   partial_consts v w, partial_value v αs w, partial_left v αs w    what a row stands for
--   IsExtended v αs acc c row r     r is acc + c row
--   IsCombined v αs c rows r        r is the sum of the rows with constants as factors
--   StartRows v αs fs rows          for each right side its unit constants, no value, and the right side as what is left
--   InsideAll v αs es x             outside the list es of exponents x has no coefficient
--   State v αs fs es rows           what is left of the rows is inside es, and each solution is a combination of the rows and an element inside es
--   IsSide v αs e w x               x is the coefficient at the exponents e of what is left of w
--   IsNextRow v αs e rows w r       r goes on from the combination of the rows by the constants of w, and has the value of w at the exponents e more
--   IsFinished w s                  s is w without what is left
use Rattle.std.specs.Prelude.{◌≡◌, ℕ, zero, suc, ◌<◌, List, [], ◌∷◌, length, map, get_or, ℤ, pos}
use Rattle.sg_algebra.proofs.Linear.{unit}
use Rattle.sg_algebra.proofs.Polynomial.{coefficient}
use Rattle.sg_algebra.proofs.Value.{Value, ◌+ᵛ◌, ◌*ᵛ◌}
use Rattle.sg_algebra.proofs.ValueField.{ValueR, ValueF}
use Rattle.sg_tower_theory.proofs.Difference.{Difference as Shifted, total, mixed}
use Rattle.sg_tower_theory.proofs.Formal.{factors, factors_some, base_shift, no_sums, elements, shifted}
use Rattle.sg_tower_theory.proofs.ShiftValue.{rational_functions}
use Rattle.sg_tower_theory.proofs.Products.{Exponents, LaurentsR, coefficient as coefficient_at}
use Rattle.sg_tower_theory.proofs.ProductSlices.{monomial, Inside}
use Rattle.sg_tower_theory.proofs.Slices.{IsState, differences}
use Rattle.sg_matrix.specs.Systems.{ConstantsPlus}
use Rattle.sg_matrix.specs.declared.solution.Solution.{Solution}
use Rattle.sg_ratfun.specs.Fractions.{ratio}
use Rattle.sg_laurent.specs.declared.terms.Term.{Term}
use Rattle.sg_laurent.specs.Elements.{Same, Sum, Difference, Product, zero_in, element}
use Rattle.sg_products.specs.declared.partial.Partial.{Partial}
use Rattle.sg_products.specs.Readings.{count}

abbrev pub exponents_in : (n : ℕ) → List ℤ → Exponents n
exponents_in zero es = tt
exponents_in (suc n) [] = (pos 0, exponents_in n [])
exponents_in (suc n) (e ∷ es) = (e, exponents_in n es)

module _ {K : Type 0} {d : ℕ} (v : K → Value d) where
  abbrev pub partial_consts : Partial K → ℕ → Value d
  partial_consts w = coefficient (map v w.coeffs)

  abbrev pub solution_consts : Solution K (List K × List K) → ℕ → Value d
  solution_consts w = coefficient (map v w.coeffs)

  module _ (αs : List (List K × List K)) where
    abbrev pub shift_of : Shifted (ValueR d) (LaurentsR (ValueF (suc d)) (count v αs))
    shift_of = base_shift (map (ratio v) αs)

    abbrev pub partial_value : Partial K → (LaurentsR (ValueF (suc d)) (count v αs)).A
    partial_value w = element (ratio v) (count v αs) w.value

    abbrev pub partial_left : Partial K → (LaurentsR (ValueF (suc d)) (count v αs)).A
    partial_left w = element (ratio v) (count v αs) w.left

    -- acc + c row
    pub record IsExtended (acc : Partial K) (c : Value d) (row r : Partial K) : Type 0 where
      pub coeffs : ConstantsPlus v acc.coeffs c row.coeffs r.coeffs
      pub value : Same (ratio v) (count v αs) (partial_value r) (Sum (ratio v) (count v αs) (partial_value acc) (Product (ratio v) (count v αs) (shift_of.κ.on c) (partial_value row)))
      pub left : Same (ratio v) (count v αs) (partial_left r) (Sum (ratio v) (count v αs) (partial_left acc) (Product (ratio v) (count v αs) (shift_of.κ.on c) (partial_left row)))

    pub record IsCombined (c : ℕ → Value d) (rows : List (Partial K)) (r : Partial K) : Type 0 where
      pub coeffs : (i : ℕ) → partial_consts r i ≡ mixed (ValueR d) partial_consts c rows i
      pub value : Same (ratio v) (count v αs) (partial_value r) (total shift_of partial_value c rows)
      pub left : Same (ratio v) (count v αs) (partial_left r) (total shift_of partial_left c rows)

    pub record IsStartRow (fs : List (List (Term (List K × List K)))) (k : ℕ) (x : List (Term (List K × List K))) (w : Partial K) : Type 0 where
      pub inside : k < length fs
      pub place : x ≡ get_or fs k x
      pub consts : (j : ℕ) → partial_consts w j ≡ unit k j
      pub no_value : Same (ratio v) (count v αs) (partial_value w) (zero_in (ratio v) (count v αs))
      pub all_left : Same (ratio v) (count v αs) (partial_left w) (element (ratio v) (count v αs) x)

    abbrev pub StartFrom : List (List (Term (List K × List K))) → ℕ → List (List (Term (List K × List K))) → List (Partial K) → Type 0
    StartFrom fs k [] [] = Unit {0}
    StartFrom fs k [] (w ∷ ws) = ⊥
    StartFrom fs k (x ∷ xs) [] = ⊥
    StartFrom fs k (x ∷ xs) (w ∷ ws) = IsStartRow fs k x w × StartFrom fs (suc k) xs ws

    abbrev pub StartRows : List (List (Term (List K × List K))) → List (Partial K) → Type 0
    StartRows fs rows = StartFrom fs 0 fs rows

    abbrev pub InsideAll : List (List ℤ) → (LaurentsR (ValueF (suc d)) (count v αs)).A → Type 0
    InsideAll es x = Inside (ValueF (suc d)) (rational_functions d) (factors (map (ratio v) αs)) (factors_some (map (ratio v) αs)) (map (exponents_in (count v αs)) es) x

    abbrev pub State : List (List (Term (List K × List K))) → List (List ℤ) → List (Partial K) → Type 0
    State fs es rows = IsState shift_of (differences shift_of) (element (ratio v) (count v αs)) fs partial_consts partial_value partial_left (InsideAll es) rows

    abbrev pub IsSide : List ℤ → Partial K → List K × List K → Type 0
    IsSide e w x = ratio v x ≡ coefficient_at (ValueF (suc d)) (count v αs) (exponents_in (count v αs) e) (partial_left w)

    abbrev pub power_at : List ℤ → Value (suc d) → (LaurentsR (ValueF (suc d)) (count v αs)).A
    power_at e h = monomial (ValueF (suc d)) (count v αs) (exponents_in (count v αs) e) h

    pub record IsNextRow (e : List ℤ) (rows : List (Partial K)) (w : Solution K (List K × List K)) (r : Partial K) : Type 0 where
      pub consts : (i : ℕ) → partial_consts r i ≡ mixed (ValueR d) partial_consts (solution_consts w) rows i
      pub value : Same (ratio v) (count v αs) (partial_value r) (Sum (ratio v) (count v αs) (total shift_of partial_value (solution_consts w) rows) (power_at e (ratio v w.value)))
      pub left : Same (ratio v) (count v αs) (partial_left r)
          (Difference (ratio v) (count v αs) (total shift_of partial_left (solution_consts w) rows) ((differences shift_of).linear.on (power_at e (ratio v w.value))))

pub record IsFinished {K : Type 0} (w : Partial K) (s : Solution K (List (Term (List K × List K)))) : Type 0 where
  pub coeffs : s.coeffs ≡ w.coeffs
  pub value : s.value ≡ w.value
