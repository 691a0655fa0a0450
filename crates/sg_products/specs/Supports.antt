-- The exponents at which elements have coefficients, where v says which value a constant has and αs are the factors of the products.
--   Has e es                 the list e is one of es
--   Grows es fs              fs has the lists of es and then some more
--   AreSupports v αs fs es   es begins with the list of zeros, and no element of fs has a coefficient outside es
use Rattle.std.specs.Prelude.{◌≡◌, ℕ, List, [], ◌∷◌, ◌++◌, length, ◌⊎◌, ℤ}
use Rattle.sg_algebra.specs.Coefficients.{Each}
use Rattle.sg_algebra.proofs.Value.{Value}
use Rattle.sg_ratfun.specs.Fractions.{ratio}
use Rattle.sg_laurent.specs.Exponents.{unit_exponents}
use Rattle.sg_laurent.specs.declared.terms.Term.{Term}
use Rattle.sg_laurent.specs.Elements.{element}
use Rattle.sg_products.specs.Readings.{count}
use Rattle.sg_products.specs.Solving.{InsideAll}

abbrev pub Has : List ℤ → List (List ℤ) → Type 0
Has e [] = ⊥
Has e (f ∷ fs) = (f ≡ e) ⊎ Has e fs

pub record Grows (es fs : List (List ℤ)) : Type 0 where
  pub more : List (List ℤ)
  pub are : fs ≡ es ++ more

pub record AreSupports {K : Type 0} {d : ℕ} (v : K → Value d) (αs : List (List K × List K)) (fs : List (List (Term (List K × List K)))) (es : List (List ℤ)) : Type 0 where
  pub rest : List (List ℤ)
  pub first : es ≡ unit_exponents (length αs) (length αs) ∷ rest
  pub fit : Each (λ e. length e ≡ length αs) es
  pub inside : Each (λ f. InsideAll v αs es (element (ratio v) (count v αs) f)) fs
