use Rattle.std.proofs.Common.{◌≡◌, ℤ, List, ◌∷◌, map, sym, subst, rules}
use Rattle.sg_build.specs.Found.{Finds}
use Rattle.sg_build.specs.TermValues.{ArePowers}
use Rattle.sg_build.proofs.FoundTerms.{found-powers}
use Rattle.sg_build.proofs.element_values.+powers.Goals as goal

pub returns-in_ok-r-in-Some-split_first-clause-value : goal.returns-in_ok-r-in-Some-split_first-clause-value
returns-in_ok-r-in-Some-split_first-clause-value g t c =
    let v = g.K.Field.val in
    let exps : c.args.exps.now ≡ c.in-Some.e.now ∷ c.in-Some.later.now = search rules in
    let gens : c.args.gens.now ≡ c.in-Some-split_first.v.now ∷ c.in-Some-split_first.rest.now = search rules in
    subst (λ (es : List ℤ). Finds v (ArePowers (map v c.args.gens.now) es) c.in_ok-r-in-Some-split_first.r) (sym exps)
    (subst (λ (gs : List g.row.K.Denot). Finds v (ArePowers (map v gs) (c.in-Some.e.now ∷ c.in-Some.later.now)) c.in_ok-r-in-Some-split_first.r) (sym gens)
    (found-powers v (v c.in-Some-split_first.v.now) (map v c.in-Some-split_first.rest.now) c.in-Some.e.now c.in-Some.later.now
    c.in_ok-x-in-Some-split_first.x c.in_ok-y-in-Some-split_first.y c.in_ok-r-in-Some-split_first.r
    c.in_ok-x-in-Some-split_first.ensures.value c.in_ok-y-in-Some-split_first.ensures.value c.in_ok-r-in-Some-split_first.ensures.value))
