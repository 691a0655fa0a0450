use Rattle.std.proofs.Common.{◌≡◌, ◌≤◌, ◌+◌, ◌*◌}
use Rattle.sg_spec.specs.Reading.{faults}
use Rattle.sg_syntax.specs.Drafts.{placed_of}
use Rattle.sg_text.specs.Firsts.{earlier, first_of}
use Rattle.sg_text.specs.Limited.{limits_of}
use Rattle.sg_text.specs.Scopes.{names_of, found_of}
use Rattle.sg_text.specs.Sizes.{parts}
use Rattle.sg_text.proofs.check.+faults.Given as goal

abbrev pub decreases-fault_of_parts : goal.decreases-fault_of_parts
decreases-fault_of_parts f = 3 * parts (placed_of f.node.now)

abbrev pub decreases-first_fault : goal.decreases-first_fault
decreases-first_fault f = 3 * parts (placed_of f.node.now) + 1

abbrev pub decreases-divisor_fault : goal.decreases-divisor_fault
decreases-divisor_fault f = 3 * parts (placed_of f.y.now) + 2

abbrev pub decreases-first_fault-loop-left : goal.decreases-first_fault-loop-left
decreases-first_fault-loop-left l = parts (placed_of l.left)

-- the first fault is the first one of what is left and of what was found on its right
abbrev pub invariant-first_fault-loop-left : goal.invariant-first_fault-loop-left
invariant-first_fault-loop-left l =
    (earlier (first_of (faults (limits_of l.fn.bounds) l.fn.in_product (names_of l.fn.scope) (placed_of l.left))) (found_of l.later)
    ≡ first_of (faults (limits_of l.fn.bounds) l.fn.in_product (names_of l.fn.scope) (placed_of l.fn.node)))
    × (parts (placed_of l.left) ≤ parts (placed_of l.fn.node))
