use Rattle.std.proofs.Common.{◌+◌, ◌-◌, ◌*◌}
use Rattle.sg_spec.specs.Limits.{nodes}
use Rattle.sg_spec.specs.Value.{val, folded}
use Rattle.sg_spec.specs.Steps.{steps, folded_steps, result_of}
use Rattle.sg_expr.specs.Tree.{tree_of}
use Rattle.sg_num.specs.Value.{fraction}
use Rattle.sg_value.specs.declared.step.Outcome.TheVariants.{Value}
use Rattle.sg_value.specs.Answer.{Answers, operation_of}
use Rattle.sg_value.specs.Left.{left_operand, left_part}
use Rattle.sg_value.proofs.value.+evaluate.Given as goal

-- a call goes down in the parts that are still to be evaluated
abbrev pub decreases-evaluate : goal.decreases-evaluate
decreases-evaluate f = 4 * nodes (tree_of f.e.now) + 3

abbrev pub decreases-evaluate_part : goal.decreases-evaluate_part
decreases-evaluate_part f = 4 * nodes (tree_of f.e.now) + 2

abbrev pub decreases-climb : goal.decreases-climb
decreases-climb f = 4 * (nodes (tree_of f.e.now) - nodes (left_part (tree_of f.e.now) f.count)) + 2

abbrev pub decreases-evaluate_above : goal.decreases-evaluate_above
decreases-evaluate_above f = 4 * (nodes (tree_of f.e.now) - nodes (left_operand (tree_of f.e.now))) + 1

abbrev pub decreases-evaluate_right : goal.decreases-evaluate_right
decreases-evaluate_right f = 4 * nodes (tree_of f.right.now) + 4

abbrev pub decreases-fold : goal.decreases-fold
decreases-fold f = 4 * nodes (tree_of f.body.now) + 4

abbrev pub invariant-fold-loop-i : goal.invariant-fold-loop-i
invariant-fold-loop-i l = Answers (Value l.so_far)
    (folded (result_of (operation_of l.op)) (fraction l.fn.start) (val (tree_of l.body) l.n) l.from l.i)
    (folded_steps (operation_of l.op) (fraction l.fn.start) (val (tree_of l.body) l.n) (steps (tree_of l.body) l.n) l.from l.i)
