-- What the calls of a tower answer. ρ says which formal tower it is and which of its elements an item stands for, v which value a constant has.
--   Reading d E                   a formal tower over the constants of depth d, and which of its elements each item stands for
--   raised ρ b                    one more sum, which grows by b: a list of items stands for a polynomial in it
--   IsZero ρ r, IsOne ρ r         r is 0, is 1
--   IsCopy ρ x r                  r is x
--   IsSum, IsDifference, IsProduct ρ x y r
--   IsMultiple ρ c x r            r is the constant c times x
--   IsShifted ρ x r               r is x with k + 1 for k
--   IsSolution ρ v fs w           σ(g) - g = c₀ f₀ + c₁ f₁ + .. for the constants and the element of w
--   IsComplete ρ v fs rows        each solution is a combination of the rows
--   IsNewSum ρ b                  no element has the difference b, so a sum that grows by b is new
use Rattle.std.specs.Prelude.{ℕ, List, length, map}
use Rattle.sg_algebra.specs.Coefficients.{Each}
use Rattle.sg_algebra.proofs.Value.{Value}
use Rattle.sg_algebra.proofs.Polynomial.{coefficient}
use Rattle.sg_tower_theory.proofs.Difference.{Solves, Spanned}
use Rattle.sg_tower_theory.proofs.Degrees.{IsNew}
use Rattle.sg_tower_theory.proofs.Formal.{Formal, Element, elements, shifted, one_more}
use Rattle.sg_matrix.specs.declared.solution.Solution.{Solution}

pub record Reading (d : ℕ) (E : Type 0) : Type 0 where
  pub formal : Formal d
  pub of : E → Element formal

abbrev pub raised : {d : ℕ} {E : Type 0} → Reading d E → E → Reading d (List E)
raised ρ b = record { formal = one_more ρ.formal (ρ.of b); of = map ρ.of }

module _ {d : ℕ} {E : Type 0} (ρ : Reading d E) where
  abbrev pub Same : Element ρ.formal → Element ρ.formal → Type 0
  Same x y = (elements ρ.formal).◌≈◌ x y

  abbrev pub IsZero : E → Type 0
  IsZero r = Same (ρ.of r) (elements ρ.formal).O

  abbrev pub IsOne : E → Type 0
  IsOne r = Same (ρ.of r) (elements ρ.formal).I

  abbrev pub IsCopy : E → E → Type 0
  IsCopy x r = Same (ρ.of r) (ρ.of x)

  abbrev pub IsSum : E → E → E → Type 0
  IsSum x y r = Same (ρ.of r) ((elements ρ.formal).◌⊞◌ (ρ.of x) (ρ.of y))

  abbrev pub IsDifference : E → E → E → Type 0
  IsDifference x y r = Same (ρ.of r) ((elements ρ.formal).◌⊞◌ (ρ.of x) ((elements ρ.formal).⊟ (ρ.of y)))

  abbrev pub IsProduct : E → E → E → Type 0
  IsProduct x y r = Same (ρ.of r) ((elements ρ.formal).◌⊠◌ (ρ.of x) (ρ.of y))

  abbrev pub IsMultiple : Value d → E → E → Type 0
  IsMultiple c x r = Same (ρ.of r) ((elements ρ.formal).◌⊠◌ ((shifted ρ.formal).κ.on c) (ρ.of x))

  abbrev pub IsShifted : E → E → Type 0
  IsShifted x r = Same (ρ.of r) ((shifted ρ.formal).σ.on (ρ.of x))

  abbrev pub IsNewSum : E → Type 0
  IsNewSum b = IsNew (shifted ρ.formal) (ρ.of b)

  abbrev pub IsValue : Value d → E → Type 0
  IsValue c x = Same (ρ.of x) ((shifted ρ.formal).κ.on c)

  module _ {K : Type 0} (v : K → Value d) where
    abbrev pub IsConstant : K → E → Type 0
    IsConstant c x = IsValue (v c) x

    abbrev pub consts_of : Solution K E → ℕ → Value d
    consts_of w = coefficient (map v w.coeffs)

    abbrev pub value_of : Solution K E → Element ρ.formal
    value_of w = ρ.of w.value

    abbrev pub IsSolution : List E → Solution K E → Type 0
    IsSolution fs w = Solves (shifted ρ.formal) ρ.of fs (consts_of w) (value_of w)

    abbrev pub AllSolve : List E → List (Solution K E) → Type 0
    AllSolve fs rows = Each (IsSolution fs) rows

    abbrev pub IsComplete : List E → List (Solution K E) → Type 0
    IsComplete fs rows =
        (c : ℕ → Value d) (g : Element ρ.formal) → Solves (shifted ρ.formal) ρ.of fs c g
        → Spanned (shifted ρ.formal) (length fs) consts_of value_of rows c g
