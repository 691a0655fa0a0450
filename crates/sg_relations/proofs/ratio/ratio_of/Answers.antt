use Rattle.std.proofs.Common.{◌≡◌, ℕ, ◌<◌, map, suc, List, length, get_or, subst, []}
use Rattle.sg_algebra.proofs.Value.{Value, ◌*ᵛ◌, one_value}
use Rattle.sg_algebra.proofs.ValueField.{ValueF}
use Rattle.sg_matrix.specs.declared.solution.Solution.{Solution}
use Rattle.sg_ratfun.specs.Fractions.{ratio}
use Rattle.sg_tower_theory.specs.Powers.{powers}
use Rattle.sg_first_order_theory.specs.Solutions.{Pair, pair, IsBasis}
use Rattle.sg_relations_theory.specs.Relations.{IsRatio}
use Rattle.sg_relations.proofs.Solved.{inverse_some, solutions_some, solution_is, over_ratio}
use Rattle.sg_relations.proofs.ratio.ratio_of.Goals as goal

module _ {K : Type 0} {d : ℕ} (v : K → Value d) where
  abbrev pair_of : Solution K (List K × List K) → Pair d
  pair_of s = pair (map v s.coeffs) (ratio v s.value)

  abbrev Sol : Type 0
  Sol = Solution K (List K × List K)

  basis_of : (a : Value (suc d)) (none : List (List K × List K)) (sols : List Sol) → none ≡ [] → IsBasis a (map (ratio v) none) (map pair_of sols) → IsBasis a [] (map pair_of sols)
  basis_of a none sols e h = subst (λ (xs : List (List K × List K)). IsBasis a (map (ratio v) xs) (map pair_of sols)) e h

  some_of : (a p r : Value (suc d)) (none : List (List K × List K)) (sols : List Sol) → a *ᵛ p ≡ one_value → none ≡ [] → IsBasis a (map (ratio v) none) (map pair_of sols) → IsRatio p r → 0 < length sols
  some_of a p r none sols e n h k = solutions_some pair_of a p e sols (basis_of a none sols n h) r k

  first_of_them : (a p r : Value (suc d)) (none : List (List K × List K)) (sols : List Sol) (x : Sol) → a *ᵛ p ≡ one_value → none ≡ [] → IsBasis a (map (ratio v) none) (map pair_of sols) → IsRatio p r → x ≡ get_or sols 0 x → IsRatio p (ratio v x.value)
  first_of_them a p r none sols x e n h k is = solution_is pair_of a p e sols (basis_of a none sols n h) x (some_of a p r none sols e n h k) is

pub solve_first-requires : goal.solve_first-requires
solve_first-requires g c = inverse_some (ratio g.F.Field.val c.in_ok-factor.factor) (powers (ValueF (suc g.F.Field.vars)) (map (ratio g.F.Field.val) c.args.all.now) c.args.exps.now) c.in_ok-factor.ensures.value

pub remove-found-requires : goal.remove-found-requires
remove-found-requires g c = some_of g.F.Field.val (ratio g.F.Field.val c.in_ok-factor.factor) (powers (ValueF (suc g.F.Field.vars)) (map (ratio g.F.Field.val) c.args.all.now) c.args.exps.now) c.requires.holds.0 c.new-none.result c.in_ok-solutions.solutions
    c.in_ok-factor.ensures.value c.new-none.ensures c.in_ok-solutions.ensures.basis c.requires.holds.1

pub over_lead-requires : goal.over_lead-requires
over_lead-requires g c = (first_of_them g.F.Field.val (ratio g.F.Field.val c.in_ok-factor.factor) (powers (ValueF (suc g.F.Field.vars)) (map (ratio g.F.Field.val) c.args.all.now) c.args.exps.now) c.requires.holds.0 c.new-none.result c.in_ok-solutions.solutions
    c.remove-found.result c.in_ok-factor.ensures.value c.new-none.ensures c.in_ok-solutions.ensures.basis c.requires.holds.1 c.remove-found.ensures.item).some

pub returns-clause-value : goal.returns-clause-value
returns-clause-value g c = over_ratio g.F.Field.val (powers (ValueF (suc g.F.Field.vars)) (map (ratio g.F.Field.val) c.args.all.now) c.args.exps.now) c.remove-found.result.value c.in_ok-r.r c.in_ok-r.ensures.value c.in_ok-r.ensures.monic
    (first_of_them g.F.Field.val (ratio g.F.Field.val c.in_ok-factor.factor) (powers (ValueF (suc g.F.Field.vars)) (map (ratio g.F.Field.val) c.args.all.now) c.args.exps.now) c.requires.holds.0 c.new-none.result c.in_ok-solutions.solutions
    c.remove-found.result c.in_ok-factor.ensures.value c.new-none.ensures c.in_ok-solutions.ensures.basis c.requires.holds.1 c.remove-found.ensures.item)
