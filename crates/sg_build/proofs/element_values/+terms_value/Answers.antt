use Rattle.std.proofs.Common.{◌≡◌, List, ◌∷◌, map, sym, subst, rules}
use Rattle.sg_tower.specs.Terms.{term_of}
use Rattle.sg_tower.specs.declared.flat.FlatTerm.{FlatTerm}
use Rattle.sg_build.specs.Found.{Finds}
use Rattle.sg_build.specs.TermValues.{AreTermsAt}
use Rattle.sg_build.proofs.FoundTerms.{found-terms}
use Rattle.sg_build.proofs.element_values.+terms_value.Goals as goal

pub returns-in_ok-r-in-Some-clause-value : goal.returns-in_ok-r-in-Some-clause-value
returns-in_ok-r-in-Some-clause-value g t c = λ k at.
    let v = g.K.Field.val in
    let split : c.args.terms.now ≡ c.in-Some.t.now ∷ c.in-Some.rest.now = search rules in
    subst (λ (ts : List (FlatTerm g.row.K.Denot)). Finds v (AreTermsAt k (map v c.args.gens.now) (map (term_of v) ts)) c.in_ok-r-in-Some.r) (sym split)
    (found-terms v k (map v c.args.gens.now) (term_of v c.in-Some.t.now) (map (term_of v) c.in-Some.rest.now) c.in_ok-x-in-Some.x c.in_ok-y-in-Some.y c.in_ok-r-in-Some.r
    (c.in_ok-x-in-Some.ensures.value k at) (c.in_ok-y-in-Some.ensures.value k at) c.in_ok-r-in-Some.ensures.value)
