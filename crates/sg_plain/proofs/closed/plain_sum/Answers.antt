use Rattle.std.proofs.Common.{unsigned_abs, ◌∙◌, ap, rules, FitsSigned}
use Rattle.std.proofs.lemmas.Int.{to_z-of_z}
use Rattle.std.specs.Int.{w128, w64}
use Rattle.sg_expr.specs.Tree.{tree_of}
use Rattle.sg_plain.specs.Plain.{quartic_at}
use Rattle.sg_plain.specs.Terms.{canonical}
use Rattle.sg_plain.proofs.Closing.{closed-plain, canonical-plain, empty-plain, form-is}
use Rattle.sg_plain.proofs.closed.plain_sum.Goals as goal

pub returns-clause-closed : goal.returns-clause-closed
returns-clause-closed c =
    let fits-d : FitsSigned w128 c.in_ok-w.w.denominator = search rules in
    let tree = (simp to_z-of_z at c.in_ok-h.ensures) ∙ ap (λ l. canonical l (unsigned_abs c.in_ok-w.w.denominator)) c.as_slice.ensures in
    let fits : FitsSigned w64 c.args.a = search rules in
    let sum = simp to_z-of_z at c.in_ok-w.ensures.sum in
    closed-plain (λ k. quartic_at c.quartic_of-q.result.constant c.quartic_of-q.result.linear c.quartic_of-q.result.square c.quartic_of-q.result.cube
    c.quartic_of-q.result.fourth k)
    c.args.a c.in_ok-w.w.numbers c.in_ok-w.w.denominator sum (tree_of c.args.f.now) (tree_of c.in_ok-h.h) c.requires.plain.0 c.quartic_of-q.ensures tree

pub returns-clause-canonical : goal.returns-clause-canonical
returns-clause-canonical c =
    let fits-d : FitsSigned w128 c.in_ok-w.w.denominator = search rules in
    let tree = (simp to_z-of_z at c.in_ok-h.ensures) ∙ ap (λ l. canonical l (unsigned_abs c.in_ok-w.w.denominator)) c.as_slice.ensures in
    let fits : FitsSigned w64 c.args.a = search rules in
    let sum = simp to_z-of_z at c.in_ok-w.ensures.sum in
    canonical-plain (λ k. quartic_at c.quartic_of-q.result.constant c.quartic_of-q.result.linear c.quartic_of-q.result.square
    c.quartic_of-q.result.cube c.quartic_of-q.result.fourth k)
    c.args.a c.in_ok-w.w.numbers c.in_ok-w.w.denominator sum (tree_of c.in_ok-h.h) tree

pub returns-clause-form : goal.returns-clause-form
returns-clause-form c =
    let fits-d : FitsSigned w128 c.in_ok-w.w.denominator = search rules in
    let tree = (simp to_z-of_z at c.in_ok-h.ensures) ∙ ap (λ l. canonical l (unsigned_abs c.in_ok-w.w.denominator)) c.as_slice.ensures in
    form-is (tree_of c.in_ok-h.h) c.in_ok-w.w.numbers (unsigned_abs c.in_ok-w.w.denominator) tree

pub returns-clause-empty : goal.returns-clause-empty
returns-clause-empty c =
    let fits-d : FitsSigned w128 c.in_ok-w.w.denominator = search rules in
    let tree = (simp to_z-of_z at c.in_ok-h.ensures) ∙ ap (λ l. canonical l (unsigned_abs c.in_ok-w.w.denominator)) c.as_slice.ensures in
    let fits : FitsSigned w64 c.args.a = search rules in
    let sum = simp to_z-of_z at c.in_ok-w.ensures.sum in
    empty-plain (λ k. quartic_at c.quartic_of-q.result.constant c.quartic_of-q.result.linear c.quartic_of-q.result.square c.quartic_of-q.result.cube
    c.quartic_of-q.result.fourth k)
    c.args.a c.in_ok-w.w.numbers c.in_ok-w.w.denominator sum (tree_of c.in_ok-h.h) tree
