use Rattle.std.proofs.Common.{rules, sym, subst, ◌∙◌, ap, arith}
use Rattle.sg_expr.specs.Tree.{tree_of}
use Rattle.sg_text.specs.Limited.{bounds_of, limits_of}
use Rattle.sg_syntax.specs.Drafts.{placed_of}
use Rattle.sg_text.specs.Scopes.{fault_of}
use Rattle.sg_spec.specs.Reading.{faults, tree_in}
use Rattle.sg_text.specs.Firsts.{first_of}
use Rattle.sg_text.specs.Reads.{RefusedBy}
use Rattle.std.proofs.Common.{false}
use Rattle.sg_text.proofs.Outcome.{IsBounds128, keeps_size, read_tree, read_fault, within_127}
use Rattle.sg_text.proofs.reader.outcome.Goals as goal

pub returns-in-Some-first_fault-clause-fault : goal.returns-in-Some-first_fault-clause-fault
returns-in-Some-first_fault-clause-fault c =
    let k : IsBounds128 c.args.bounds.now = record { numeral = within_127 c.args.bounds.now.numeral (search rules); exponent = omega arith } in
    subst (λ q. RefusedBy (bounds_of c.args.bounds.now) c.args.free.now c.args.text.now q) (sym c.told.ensures)
    (read_fault c.args.bounds.now c.args.free.now c.args.text.now (placed_of c.in_ok-node.node.value) (fault_of c.in-Some-first_fault.found) k
    (keeps_size c.args.bounds.now c.args.text.now (omega arith) c.in-None.ensures) c.in_ok-node.ensures.node
    ((rw c.deref.ensures at c.in-Some-first_fault.ensures) ∙ ap (λ q. first_of (faults (limits_of c.args.bounds.now) false q (placed_of c.in_ok-node.node.value))) c.outer_scope-scope.ensures))

pub returns-in_ok-expr_of-in-None-first_fault-clause-expression : goal.returns-in_ok-expr_of-in-None-first_fault-clause-expression
returns-in_ok-expr_of-in-None-first_fault-clause-expression c =
    let k : IsBounds128 c.args.bounds.now = record { numeral = within_127 c.args.bounds.now.numeral (search rules); exponent = omega arith } in
    rw c.into_inner.ensures
    (read_tree c.args.bounds.now c.args.free.now c.args.text.now (placed_of c.in_ok-node.node.value) (tree_of c.in_ok-expr_of-in-None-first_fault.field-0.value) k
    (keeps_size c.args.bounds.now c.args.text.now (omega arith) c.in-None.ensures) c.in_ok-node.ensures.node
    ((rw c.deref.ensures at c.in-None-first_fault.ensures) ∙ ap (λ q. first_of (faults (limits_of c.args.bounds.now) false q (placed_of c.in_ok-node.node.value))) c.outer_scope-scope.ensures)
    (λ h. c.in_ok-expr_of-in-None-first_fault.ensures h ∙ ap (λ q. tree_in q (placed_of c.in_ok-node.node.value)) c.outer_scope-scope.ensures))
