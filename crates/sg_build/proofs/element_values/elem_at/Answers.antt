use Rattle.std.proofs.Common.{◌≡◌, ◌+◌, List, map, length, subst, ◌∙◌, rules}
use Rattle.std.proofs.lemmas.List.{length-map}
use Rattle.sg_algebra.proofs.Rational.{whole_value}
use Rattle.sg_algebra.proofs.Value.{Value}
use Rattle.sg_tower.specs.Terms.{term_of}
use Rattle.sg_tower.specs.declared.flat.FlatTerm.{FlatTerm}
use Rattle.sg_value_theory.proofs.Elements.{Point, HasElement}
use Rattle.sg_build.specs.Found.{Finds}
use Rattle.sg_build.specs.Points.{IsPointAt}
use Rattle.sg_build.specs.TermValues.{AreTermsAt, IsElementAt, HasNoneAt}
use Rattle.sg_build.proofs.FoundTerms.{found-some, found-none}
use Rattle.sg_build.proofs.TermParts.{terms-element, element-terms}
use Rattle.sg_build.proofs.element_values.elem_at.Goals as goal

pub returns-clause-terms : goal.returns-clause-terms
returns-clause-terms g c =
    let v = g.K.Field.val in
    let f = (g.T.Tower.reading g.K.Field.vars v c.args.tower.now).formal in
    let x = (g.T.Tower.reading g.K.Field.vars v c.args.tower.now).of c.args.e.now in
    let at : v c.in_ok-place.place ≡ whole_value g.K.Field.vars c.args.k = search rules in
    let found = subst (λ (ts : List (FlatTerm g.row.K.Denot)). Finds v (AreTermsAt c.args.k (map v c.args.gens.now) (map (term_of v) ts)) c.in_ok-found.found) c.as_slice.ensures (c.in_ok-found.ensures.value c.args.k at) in
    found-some v (AreTermsAt c.args.k (map v c.args.gens.now) (map (term_of v) c.in_ok-terms.terms)) (IsElementAt f x c.args.k (map v c.args.gens.now)) c.in_ok-found.found
    (λ w h. record { terms = map (term_of v) c.in_ok-terms.terms; flat = c.in_ok-terms.ensures.value; value = h }) found

pub returns-clause-no_terms : goal.returns-clause-no_terms
returns-clause-no_terms g c =
    let v = g.K.Field.val in
    let f = (g.T.Tower.reading g.K.Field.vars v c.args.tower.now).formal in
    let x = (g.T.Tower.reading g.K.Field.vars v c.args.tower.now).of c.args.e.now in
    let at : v c.in_ok-place.place ≡ whole_value g.K.Field.vars c.args.k = search rules in
    let found = subst (λ (ts : List (FlatTerm g.row.K.Denot)). Finds v (AreTermsAt c.args.k (map v c.args.gens.now) (map (term_of v) ts)) c.in_ok-found.found) c.as_slice.ensures (c.in_ok-found.ensures.value c.args.k at) in
    found-none v (AreTermsAt c.args.k (map v c.args.gens.now) (map (term_of v) c.in_ok-terms.terms)) (HasNoneAt f x c.args.k (map v c.args.gens.now)) c.in_ok-found.found
    (λ n. record { terms = map (term_of v) c.in_ok-terms.terms; flat = c.in_ok-terms.ensures.value; none = n }) found

pub returns-clause-some : goal.returns-clause-some
returns-clause-some g c =
    let v = g.K.Field.val in
    let f = (g.T.Tower.reading g.K.Field.vars v c.args.tower.now).formal in
    let x = (g.T.Tower.reading g.K.Field.vars v c.args.tower.now).of c.args.e.now in
    let vs = map v c.args.gens.now in
    let size : length vs ≡ length f.products + f.sums = length-map c.args.gens.now v ∙ c.requires.one_each in
    let at : v c.in_ok-place.place ≡ whole_value g.K.Field.vars c.args.k = search rules in
    let found = subst (λ (ts : List (FlatTerm g.row.K.Denot)). Finds v (AreTermsAt c.args.k vs (map (term_of v) ts)) c.in_ok-found.found) c.as_slice.ensures (c.in_ok-found.ensures.value c.args.k at) in
    found-some v (AreTermsAt c.args.k vs (map (term_of v) c.in_ok-terms.terms)) (λ w. (p : Point g.K.Field.vars) → IsPointAt f c.args.k vs p → HasElement f p x w) c.in_ok-found.found
    (λ w h p is. terms-element f c.args.k vs p is size x (map (term_of v) c.in_ok-terms.terms) w c.in_ok-terms.ensures.value h) found

pub returns-clause-none : goal.returns-clause-none
returns-clause-none g c =
    let v = g.K.Field.val in
    let f = (g.T.Tower.reading g.K.Field.vars v c.args.tower.now).formal in
    let x = (g.T.Tower.reading g.K.Field.vars v c.args.tower.now).of c.args.e.now in
    let vs = map v c.args.gens.now in
    let size : length vs ≡ length f.products + f.sums = length-map c.args.gens.now v ∙ c.requires.one_each in
    let at : v c.in_ok-place.place ≡ whole_value g.K.Field.vars c.args.k = search rules in
    let found = subst (λ (ts : List (FlatTerm g.row.K.Denot)). Finds v (AreTermsAt c.args.k vs (map (term_of v) ts)) c.in_ok-found.found) c.as_slice.ensures (c.in_ok-found.ensures.value c.args.k at) in
    found-none v (AreTermsAt c.args.k vs (map (term_of v) c.in_ok-terms.terms)) ((p : Point g.K.Field.vars) → IsPointAt f c.args.k vs p → (w : Value g.K.Field.vars) → ¬ HasElement f p x w) c.in_ok-found.found
    (λ n p is w h. n w (element-terms f c.args.k vs p is size x (map (term_of v) c.in_ok-terms.terms) w c.in_ok-terms.ensures.value h)) found
