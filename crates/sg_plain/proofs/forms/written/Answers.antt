use Rattle.std.proofs.Common.{[], ◌∷◌, rules, FitsSigned}
use Rattle.std.proofs.lemmas.Int.{to_z-of_z}
use Rattle.std.specs.Int.{w128}
use Rattle.sg_expr.specs.Tree.{tree_of}
use Rattle.sg_plain.proofs.Closing.{form-is}
use Rattle.sg_plain.proofs.Written.{same-written, canonical-written, over-written}
use Rattle.sg_plain.proofs.forms.written.Goals as goal

pub returns-clause-same : goal.returns-clause-same
returns-clause-same c =
    let fits-1 : FitsSigned w128 c.quartic_of-q.result.constant = search rules in
    let fits-2 : FitsSigned w128 c.quartic_of-q.result.linear = search rules in
    let fits-3 : FitsSigned w128 c.quartic_of-q.result.square = search rules in
    let fits-4 : FitsSigned w128 c.quartic_of-q.result.cube = search rules in
    let fits-5 : FitsSigned w128 c.quartic_of-q.result.fourth = search rules in
    let tree = simp to_z-of_z at c.in_ok-h.ensures in
    same-written (tree_of c.args.e.now) (tree_of c.in_ok-h.h) c.quartic_of-q.result.constant c.quartic_of-q.result.linear
    c.quartic_of-q.result.square c.quartic_of-q.result.cube c.quartic_of-q.result.fourth c.requires.0 c.quartic_of-q.ensures tree

pub returns-clause-over : goal.returns-clause-over
returns-clause-over c =
    let fits-1 : FitsSigned w128 c.quartic_of-q.result.constant = search rules in
    let fits-2 : FitsSigned w128 c.quartic_of-q.result.linear = search rules in
    let fits-3 : FitsSigned w128 c.quartic_of-q.result.square = search rules in
    let fits-4 : FitsSigned w128 c.quartic_of-q.result.cube = search rules in
    let fits-5 : FitsSigned w128 c.quartic_of-q.result.fourth = search rules in
    let tree = simp to_z-of_z at c.in_ok-h.ensures in
    over-written (tree_of c.in_ok-h.h) (c.quartic_of-q.result.fourth ∷ c.quartic_of-q.result.cube ∷ c.quartic_of-q.result.square ∷
    c.quartic_of-q.result.linear ∷ c.quartic_of-q.result.constant ∷ []) tree

pub returns-clause-canonical : goal.returns-clause-canonical
returns-clause-canonical c =
    let fits-1 : FitsSigned w128 c.quartic_of-q.result.constant = search rules in
    let fits-2 : FitsSigned w128 c.quartic_of-q.result.linear = search rules in
    let fits-3 : FitsSigned w128 c.quartic_of-q.result.square = search rules in
    let fits-4 : FitsSigned w128 c.quartic_of-q.result.cube = search rules in
    let fits-5 : FitsSigned w128 c.quartic_of-q.result.fourth = search rules in
    let tree = simp to_z-of_z at c.in_ok-h.ensures in
    canonical-written (tree_of c.in_ok-h.h) (c.quartic_of-q.result.fourth ∷ c.quartic_of-q.result.cube ∷ c.quartic_of-q.result.square ∷
    c.quartic_of-q.result.linear ∷ c.quartic_of-q.result.constant ∷ []) tree

pub returns-clause-form : goal.returns-clause-form
returns-clause-form c =
    let fits-1 : FitsSigned w128 c.quartic_of-q.result.constant = search rules in
    let fits-2 : FitsSigned w128 c.quartic_of-q.result.linear = search rules in
    let fits-3 : FitsSigned w128 c.quartic_of-q.result.square = search rules in
    let fits-4 : FitsSigned w128 c.quartic_of-q.result.cube = search rules in
    let fits-5 : FitsSigned w128 c.quartic_of-q.result.fourth = search rules in
    let tree = simp to_z-of_z at c.in_ok-h.ensures in
    form-is (tree_of c.in_ok-h.h) (c.quartic_of-q.result.fourth ∷ c.quartic_of-q.result.cube ∷ c.quartic_of-q.result.square ∷
    c.quartic_of-q.result.linear ∷ c.quartic_of-q.result.constant ∷ []) 1 tree
