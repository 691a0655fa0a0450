use Rattle.std.proofs.Common.{pos, ◌-ℤ◌, ◌*ℤ◌, neg_ℤ, [], ◌∷◌, ◌∙◌, refl, ◌≤◌, unsigned_abs, subst, sym, rules, FitsSigned}
use Rattle.std.proofs.lemmas.Int.{to_z-of_z}
use Rattle.std.specs.Int.{w128, w64}
use Rattle.sg_algebra.specs.Coefficients.{eval, Each}
use Rattle.sg_algebra.proofs.Whole.{ℤR}
use Rattle.sg_plain.specs.Plain.{quartic_at}
use Rattle.sg_plain.specs.Sums.{sum_terms}
use Rattle.sg_plain.proofs.Lowest.{lowest-small}
use Rattle.sg_plain.proofs.SumTerms.{summed-by, quartic-eval}
use Rattle.sg_plain.proofs.summing.summed.Goals as goal

pub returns-clause-sum : goal.returns-clause-sum
returns-clause-sum c =
    let fits-1 : FitsSigned w128 c.args.q.constant = search rules in
    let fits-2 : FitsSigned w128 c.args.q.linear = search rules in
    let fits-3 : FitsSigned w128 c.args.q.square = search rules in
    let fits-4 : FitsSigned w128 c.args.q.cube = search rules in
    let fits-5 : FitsSigned w128 c.args.q.fourth = search rules in
    let fits-a : FitsSigned w64 c.args.a = search rules in
    let is = simp to_z-of_z at c.in_ok-list.ensures.terms in
    let low = c.in_ok-w.ensures in
    summed-by c.args.q.constant c.args.q.linear c.args.q.square c.args.q.cube c.args.q.fourth
    (λ k. quartic_at c.args.q.constant c.args.q.linear c.args.q.square c.args.q.cube c.args.q.fourth k) c.args.a
    (neg_ℤ ((c.args.a -ℤ pos 1) *ℤ eval ℤR (sum_terms
    (c.args.q.constant ∷ c.args.q.linear ∷ c.args.q.square ∷ c.args.q.cube ∷ c.args.q.fourth ∷ [])) (c.args.a -ℤ pos 1)))
    c.as_slice.result.now c.in_ok-w.w.numbers c.in_ok-w.w.denominator
    (quartic-eval c.args.q.constant c.args.q.linear c.args.q.square c.args.q.cube c.args.q.fourth) (c.as_slice.ensures ∙ is) refl low

pub returns-clause-size : goal.returns-clause-size
returns-clause-size c =
    lowest-small c.as_slice.result.now c.in_ok-w.w.numbers (pos 60) c.in_ok-w.w.denominator 1267650600228229401496703205376 c.in_ok-w.ensures
    (subst (Each (λ v. unsigned_abs v ≤ 1267650600228229401496703205376)) (sym c.as_slice.ensures) c.in_ok-list.ensures.size)
