-- Elements without products as rational functions, where v says which value a constant has.
--   function v e            the rational function that the element e is
--   AreFunctions v fs rs    the rational functions rs are the elements fs
--   AreRaised v rows rs     the solutions rs are the solutions rows, with elements for rational functions
use Rattle.std.specs.Prelude.{◌≡◌, ℕ, suc, List, map}
use Rattle.sg_algebra.proofs.Value.{Value}
use Rattle.sg_first_order_theory.specs.Solutions.{Pair, pair}
use Rattle.sg_matrix.specs.declared.solution.Solution.{Solution}
use Rattle.sg_ratfun.specs.Fractions.{ratio}
use Rattle.sg_laurent.specs.declared.terms.Term.{Term}
use Rattle.sg_laurent.specs.Elements.{element}

module _ {K : Type 0} {d : ℕ} (v : K → Value d) where
  abbrev pub function : List (Term (List K × List K)) → Value (suc d)
  function e = element (ratio v) 0 e

  abbrev pub AreFunctions : List (List (Term (List K × List K))) → List (List K × List K) → Type 0
  AreFunctions fs rs = map (ratio v) rs ≡ map function fs

  abbrev pub pair_of : {E : Type 0} → (E → Value (suc d)) → Solution K E → Pair d
  pair_of m w = pair (map v w.coeffs) (m w.value)

  abbrev pub AreRaised : List (Solution K (List K × List K)) → List (Solution K (List (Term (List K × List K)))) → Type 0
  AreRaised rows rs = map (pair_of function) rs ≡ map (pair_of (ratio v)) rows
