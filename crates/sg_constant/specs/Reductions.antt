-- The reduction of several functions, and the solutions that are read from it.
--   IsAdded a n s ss mv ss' mv'    the share s of n functions is added to the settled shares ss, and the sums stay the same, with what was moved
--   IsReduction a n fs ps ss mv    of n functions those in fs are reduced to the polynomials ps, the settled shares ss, and what was moved
--   AreFactors v a r      the coefficient a, its inverse, and -1
--   pairs v list          the constants and the rational functions of solutions
--   IsUnit v n list       the solution with n zeros as constants, and 1
--   AreSolutions v a ps mv bs first list    after the first, one solution for each vector of bs
--   VanishAt v bs ss      at each vector of bs the numerators of ss vanish
use Rattle.std.specs.Prelude.{◌≡◌, ℕ, suc, List, [], ◌∷◌, ◌++◌, length, map}
use Rattle.sg_algebra.specs.Coefficients.{Each}
use Rattle.sg_algebra.proofs.Value.{Value, zero_value, one_value, neg_value, ◌*ᵛ◌}
use Rattle.sg_algebra.proofs.Polynomial.{Polynomial, coefficient}
use Rattle.sg_matrix.specs.declared.solution.Solution.{Solution}
use Rattle.sg_ratfun.specs.Fractions.{ratio}
use Rattle.sg_first_order_theory.specs.Solutions.{Pair, pair}
use Rattle.sg_reduction_theory.proofs.Moves.{Share, Reduced}
use Rattle.sg_reduction_theory.proofs.Answer.{None}
use Rattle.sg_reduction_theory.proofs.Settling.{Carries}
use Rattle.sg_reduction_theory.proofs.Spanning.{Sized, Known}
use Rattle.sg_reduction_theory.proofs.Places.{Good}
use Rattle.sg_reduction_theory.proofs.Bases.{Match}
use Rattle.sg_constant.specs.Shares.{HasLowers}
use Rattle.sg_constant.specs.declared.moving.Factors.{Factors}

pub record IsAdded {d : ℕ} (a : Value d) (n : ℕ) (s : Share d) (ss mv ss' mv' : List (Share d)) : Type 0 where
  pub good : Good n ss → Good n ss'
  pub sized : Sized n mv → Sized n mv'
  pub lowers : HasLowers mv → HasLowers mv'
  pub carries : Carries a (s ∷ ss) mv ss' mv'

pub record IsReduction {d : ℕ} (a : Value d) (n : ℕ) (fs : List (Value (suc d))) (ps : List (Polynomial d)) (ss mv : List (Share d)) : Type 0 where
  pub same : length fs ≡ length ps
  pub is : Reduced a fs ps ss mv
  pub good : Good n ss
  pub sized : Sized n mv
  pub lowers : HasLowers mv

pub record AreFactors {K : Type 0} {d : ℕ} (v : K → Value d) (a : Value d) (r : Factors K) : Type 0 where
  pub same : v r.a ≡ a
  pub inverse : v r.a *ᵛ v r.inverse ≡ one_value
  pub minus : v r.minus ≡ neg_value one_value

abbrev pub pairs : {K : Type 0} {d : ℕ} → (K → Value d) → List (Solution K (List K × List K)) → List (Pair d)
pairs v list = map (λ s. pair (map v s.coeffs) (ratio v s.value)) list

pub record IsUnit {K : Type 0} {d : ℕ} (v : K → Value d) (n : ℕ) (list : List (Solution K (List K × List K))) : Type 0 where
  pub zeros : List (Value d)
  pub size : length zeros ≡ n
  pub nothing : (i : ℕ) → coefficient zeros i ≡ zero_value
  pub is : pairs v list ≡ pair zeros one_value ∷ []

pub record AreSolutions {K : Type 0} {d : ℕ} (v : K → Value d) (a : Value d) (ps : List (Polynomial d)) (mv : List (Share d)) (bs : List (List K))
    (first list : List (Solution K (List K × List K))) : Type 0 where
  pub qs : List (Pair d)
  pub is : pairs v list ≡ pairs v first ++ qs
  pub matches : Match v bs qs
  pub known : Each (λ q. Known a ps mv (coefficient q.consts) q.value) qs

abbrev pub VanishAt : {K : Type 0} {d : ℕ} → (K → Value d) → List (List K) → List (Share d) → Type 0
VanishAt v bs ss = Each (λ b. None (coefficient (map v b)) ss) bs
