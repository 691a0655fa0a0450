use Rattle.std.proofs.Common.{[], ◌∷◌, ap₂, refl, rules, FitsSigned}
use Rattle.std.proofs.lemmas.Int.{to_z-of_z}
use Rattle.std.specs.Int.{w128}
use Rattle.sg_expr.specs.Tree.{tree_of}
use Rattle.sg_plain.proofs.Interpolation.{quartic_from}
use Rattle.sg_plain.proofs.reading.quartic_of.Goals as goal

pub returns : goal.returns
returns c =
    let fits-u : FitsSigned w128 c.value-u.result = search rules in
    let fits-v : FitsSigned w128 c.value-v.result = search rules in
    let fits-w : FitsSigned w128 c.value-w.result = search rules in
    let fits-x : FitsSigned w128 c.value-x.result = search rules in
    let fits-y : FitsSigned w128 c.value-y.result = search rules in
    let q = simp to_z-of_z at c.interpolated.ensures in
    quartic_from (tree_of c.args.e.now) (c.value-u.result ∷ c.value-v.result ∷ c.value-w.result ∷ c.value-x.result ∷ c.value-y.result ∷ [])
    c.interpolated.result.constant c.interpolated.result.linear c.interpolated.result.square c.interpolated.result.cube c.interpolated.result.fourth
    c.requires.0 c.requires.1
    (ap₂ ◌∷◌ c.value-u.ensures.value (ap₂ ◌∷◌ c.value-v.ensures.value (ap₂ ◌∷◌ c.value-w.ensures.value (ap₂ ◌∷◌ c.value-x.ensures.value
    (ap₂ ◌∷◌ c.value-y.ensures.value refl))))) q
