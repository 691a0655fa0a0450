use Rattle.std.proofs.Common.{ℤ, List, map, subst}
use Rattle.sg_tower.specs.Terms.{term_of}
use Rattle.sg_build.specs.Found.{Finds}
use Rattle.sg_build.specs.TermValues.{ArePowers}
use Rattle.sg_build.proofs.FoundTerms.{found-coefficient, found-term}
use Rattle.sg_build.proofs.element_values.term_value.Goals as goal

pub returns-clause-value : goal.returns-clause-value
returns-clause-value g c = λ k at.
    let v = g.K.Field.val in
    let coefficient = found-coefficient v k (v c.args.place.now) c.args.t.now.coeff c.in_ok-c.c at c.den_len-size.ensures.reduced c.in_ok-c.ensures.some c.in_ok-c.ensures.defined c.in_ok-c.ensures.none in
    let power = subst (λ (es : List ℤ). Finds v (ArePowers (map v c.args.gens.now) es) c.in_ok-u.u) c.as_slice.ensures c.in_ok-u.ensures.value in
    found-term v k (map v c.args.gens.now) (term_of v c.args.t.now) c.in_ok-c.c c.in_ok-u.u c.in_ok-r.r coefficient power c.in_ok-r.ensures.value
