-- Polynomials in a sum t, as lists of items: ρ says which formal tower is below and which of its elements an item stands for, v which value a constant has.
--   at_place ρ p n                the coefficient of p at n
--   IsPlace ρ p n r               r is that coefficient
--   ZeroFrom ρ p n                the coefficients from n on are 0
--   IsSumAt, IsDifferenceAt ρ x y i r    r is the coefficient of x + y, of x - y, at i
--   PolySum, PolyDifference, PolyProduct ρ x y r
--   IsLowDifference ρ n x y r     r is x - y without the powers from n on
--   PolyMultiple ρ e x r          r is the element e of the tower below times x
--   PolyScaled ρ c x r            r is the constant c times x
--   PolyBehind ρ a x r            r is a + t x
--   IsOwn ρ r                     r is t
--   PolyMonomial ρ n a r          r is a t^n
--   IsExtended ρ v acc c row r    r is acc + c row, for a constant c: constants, value and what is left
--   IsCombined ρ v β c rows r     r is the sum of the rows with constants as factors
--   State, Sides ρ v β ..         what the recursion over the powers of t keeps, where t grows by β
--   StartRows ρ v β fs rows       its start
--   IsBare w r                    r is w with nothing left
--   IsNextRow ρ v β n rows w r    r goes on from the combination of the rows by the constants of w, with the value of w times t^n; what is left is
--                                 given below t^n, and has no power from n on
--   IsFinished w s                s is w without what is left
--   IsTrivial ρ v ls xs rows      rows for right sides ls that are 0: 1 without constants, and each constant of xs, the first of ls, with 0
use Rattle.std.specs.Prelude.{◌≡◌, ℕ, suc, ◌<◌, ◌≤◌, List, [], ◌∷◌, length, map, get_or}
use Rattle.sg_algebra.specs.Ring.{Ring}
use Rattle.sg_algebra.specs.Coefficients.{coef}
use Rattle.sg_algebra.proofs.Value.{Value, ◌+ᵛ◌, ◌*ᵛ◌, zero_value}
use Rattle.sg_algebra.proofs.ValueField.{ValueR}
use Rattle.sg_algebra.proofs.Polynomial.{coefficient}
use Rattle.sg_algebra.proofs.PolynomialRing.{PolyR}
use Rattle.sg_algebra.proofs.Linear.{unit}
use Rattle.sg_tower_theory.proofs.Difference.{total, mixed}
use Rattle.sg_tower_theory.proofs.Above.{above, monomial}
use Rattle.sg_algebra.proofs.Degree.{Below}
use Rattle.sg_tower_theory.proofs.Slices.{Map, IsState, IsSides, differences}
use Rattle.sg_tower_theory.proofs.PowerSlices.{power_slice}
use Rattle.sg_tower_theory.proofs.Starting.{Starts}
use Rattle.sg_tower_theory.proofs.Formal.{Element, elements, shifted}
use Rattle.sg_matrix.specs.Systems.{ConstantsPlus}
use Rattle.sg_matrix.specs.declared.solution.Solution.{Solution}
use Rattle.sg_sums.specs.declared.partial.Partial.{Partial}
use Rattle.sg_tower.specs.Elements.{Reading, Same, IsOne, consts_of, value_of}

-- the constants x + c y
module _ {d : ℕ} {E : Type 0} (ρ : Reading d E) where
  abbrev pub PolysR : Ring
  PolysR = PolyR (elements ρ.formal)

  abbrev pub at_place : List E → ℕ → Element ρ.formal
  at_place p n = coef (elements ρ.formal) (map ρ.of p) n

  abbrev pub IsPlace : List E → ℕ → E → Type 0
  IsPlace p n r = Same ρ (ρ.of r) (at_place p n)

  abbrev pub ZeroFrom : List E → ℕ → Type 0
  ZeroFrom p n = (i : ℕ) → n ≤ i → Same ρ (at_place p i) (elements ρ.formal).O

  abbrev pub IsSumAt : List E → List E → ℕ → E → Type 0
  IsSumAt x y i r = Same ρ (ρ.of r) ((elements ρ.formal).◌⊞◌ (at_place x i) (at_place y i))

  abbrev pub IsDifferenceAt : List E → List E → ℕ → E → Type 0
  IsDifferenceAt x y i r = Same ρ (ρ.of r) ((elements ρ.formal).◌⊞◌ (at_place x i) ((elements ρ.formal).⊟ (at_place y i)))

  abbrev pub PolySum : List E → List E → List E → Type 0
  PolySum x y r = PolysR.◌≈◌ (map ρ.of r) (PolysR.◌⊞◌ (map ρ.of x) (map ρ.of y))

  abbrev pub PolyDifference : List E → List E → List E → Type 0
  PolyDifference x y r = PolysR.◌≈◌ (map ρ.of r) (PolysR.◌⊞◌ (map ρ.of x) (PolysR.⊟ (map ρ.of y)))

  pub record IsLowDifference (n : ℕ) (x y r : List E) : Type 0 where
    pub size : length r ≡ n
    pub low : (i : ℕ) → i < n → Same ρ (at_place r i) ((elements ρ.formal).◌⊞◌ (at_place x i) ((elements ρ.formal).⊟ (at_place y i)))

  abbrev pub PolyMultiple : Element ρ.formal → List E → List E → Type 0
  PolyMultiple c x r = PolysR.◌≈◌ (map ρ.of r) (PolysR.◌⊠◌ (c ∷ []) (map ρ.of x))

  abbrev pub PolyScaled : Value d → List E → List E → Type 0
  PolyScaled c x r = PolyMultiple ((shifted ρ.formal).κ.on c) x r

  abbrev pub PolyProduct : List E → List E → List E → Type 0
  PolyProduct x y r = PolysR.◌≈◌ (map ρ.of r) (PolysR.◌⊠◌ (map ρ.of x) (map ρ.of y))

  abbrev pub PolyBehind : E → List E → List E → Type 0
  PolyBehind a x r = PolysR.◌≈◌ (map ρ.of r) (ρ.of a ∷ map ρ.of x)

  -- the sum t itself
  abbrev pub IsOwn : List E → Type 0
  IsOwn r = PolysR.◌≈◌ (map ρ.of r) ((elements ρ.formal).O ∷ ((elements ρ.formal).I ∷ []))

  abbrev pub PolyMonomial : ℕ → E → List E → Type 0
  PolyMonomial n a r = PolysR.◌≈◌ (map ρ.of r) (monomial (shifted ρ.formal) (elements ρ.formal).O n (ρ.of a))

  module _ {K : Type 0} (v : K → Value d) where
    abbrev pub partial_consts : Partial K E → ℕ → Value d
    partial_consts w = coefficient (map v w.coeffs)

    abbrev pub partial_value : Partial K E → List (Element ρ.formal)
    partial_value w = map ρ.of w.value

    abbrev pub partial_left : Partial K E → List (Element ρ.formal)
    partial_left w = map ρ.of w.left

    -- acc + c row
    pub record IsExtended (acc : Partial K E) (c : Value d) (row r : Partial K E) : Type 0 where
      pub coeffs : ConstantsPlus v acc.coeffs c row.coeffs r.coeffs
      pub value : PolysR.◌≈◌ (partial_value r) (PolysR.◌⊞◌ (partial_value acc) (PolysR.◌⊠◌ ((shifted ρ.formal).κ.on c ∷ []) (partial_value row)))
      pub left : PolysR.◌≈◌ (partial_left r) (PolysR.◌⊞◌ (partial_left acc) (PolysR.◌⊠◌ ((shifted ρ.formal).κ.on c ∷ []) (partial_left row)))

    abbrev pub IsOneRow : Solution K E → Type 0
    IsOneRow w = ((j : ℕ) → consts_of ρ v w j ≡ zero_value) × IsOne ρ w.value

    abbrev pub IsTrivial : List E → List E → List (Solution K E) → Type 0
    IsTrivial ls xs [] = ⊥
    IsTrivial ls xs (w ∷ ws) = IsOneRow w × Starts (shifted ρ.formal) (differences (shifted ρ.formal)) ρ.of ls (consts_of ρ v) (value_of ρ v) (λ w. (elements ρ.formal).O) 0 xs ws

    module _ (β : E) where
      pub record IsCombined (c : ℕ → Value d) (rows : List (Partial K E)) (r : Partial K E) : Type 0 where
        pub coeffs : (i : ℕ) → partial_consts r i ≡ mixed (ValueR d) partial_consts c rows i
        pub value : PolysR.◌≈◌ (partial_value r) (total (above (shifted ρ.formal) (ρ.of β)) partial_value c rows)
        pub left : PolysR.◌≈◌ (partial_left r) (total (above (shifted ρ.formal) (ρ.of β)) partial_left c rows)

      -- the shift's difference, below and with the sum t
      abbrev pub inner : Map (shifted ρ.formal) (shifted ρ.formal)
      inner = differences (shifted ρ.formal)

      abbrev pub outer : Map (above (shifted ρ.formal) (ρ.of β)) (above (shifted ρ.formal) (ρ.of β))
      outer = differences (above (shifted ρ.formal) (ρ.of β))

      -- what is left has no power n or above
      abbrev pub State : List (List E) → ℕ → List (Partial K E) → Type 0
      State fs n rows = IsState (above (shifted ρ.formal) (ρ.of β)) outer (map ρ.of) fs partial_consts partial_value partial_left (Below (elements ρ.formal) n) rows

      -- ls are the coefficients at n of what is left
      abbrev pub Sides : List (List E) → ℕ → List (Partial K E) → List E → Type 0
      Sides fs n rows ls =
          IsSides (shifted ρ.formal) (above (shifted ρ.formal) (ρ.of β)) inner outer (map ρ.of) fs partial_consts partial_value partial_left (Below (elements ρ.formal) (suc n)) (Below (elements ρ.formal) n) (power_slice (shifted ρ.formal) (ρ.of β) n) rows ρ.of ls (consts_of ρ v) (value_of ρ v)

      pub record IsNextRow (n : ℕ) (rows : List (Partial K E)) (w : Solution K E) (r : Partial K E) : Type 0 where
        pub coeffs : (i : ℕ) → partial_consts r i ≡ mixed (ValueR d) partial_consts (consts_of ρ v w) rows i
        pub value : PolysR.◌≈◌ (partial_value r) (PolysR.◌⊞◌ (total (above (shifted ρ.formal) (ρ.of β)) partial_value (consts_of ρ v w) rows) (monomial (shifted ρ.formal) (ρ.of β) n (ρ.of w.value)))
        pub low : (i : ℕ) → i < n → Same ρ (at_place r.left i) (coef (elements ρ.formal) (PolysR.◌⊞◌ (total (above (shifted ρ.formal) (ρ.of β)) partial_left (consts_of ρ v w) rows) (PolysR.⊟ (outer.linear.on (monomial (shifted ρ.formal) (ρ.of β) n (ρ.of w.value))))) i)
        pub short : Below (elements ρ.formal) n (partial_left r)

      -- the start: for each right side its unit constants, no value, and the right side as what is left
      pub record IsStartRow (fs : List (List E)) (k : ℕ) (x : List E) (w : Partial K E) : Type 0 where
        pub inside : k < length fs
        pub place : x ≡ get_or fs k x
        pub consts : (j : ℕ) → partial_consts w j ≡ unit k j
        pub no_value : PolysR.◌≈◌ (partial_value w) []
        pub all_left : PolysR.◌≈◌ (partial_left w) (map ρ.of x)

      abbrev pub StartFrom : List (List E) → ℕ → List (List E) → List (Partial K E) → Type 0
      StartFrom fs k [] [] = Unit {0}
      StartFrom fs k [] (w ∷ ws) = ⊥
      StartFrom fs k (x ∷ xs) [] = ⊥
      StartFrom fs k (x ∷ xs) (w ∷ ws) = IsStartRow fs k x w × StartFrom fs (suc k) xs ws

      abbrev pub StartRows : List (List E) → List (Partial K E) → Type 0
      StartRows fs rows = StartFrom fs 0 fs rows

pub record IsBare {K E : Type 0} (w r : Partial K E) : Type 0 where
  pub coeffs : r.coeffs ≡ w.coeffs
  pub value : r.value ≡ w.value
  pub left : r.left ≡ []

pub record IsFinished {K E : Type 0} (w : Partial K E) (s : Solution K (List E)) : Type 0 where
  pub coeffs : s.coeffs ≡ w.coeffs
  pub value : s.value ≡ w.value
