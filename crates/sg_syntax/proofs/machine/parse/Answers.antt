use Rattle.std.proofs.Common.{rules, sym, ◌∙◌, arith}
use Rattle.sg_syntax.specs.Drafts.{placed_of}
use Rattle.sg_syntax.specs.Machines.{stack_of, state_of}
use Rattle.sg_syntax.proofs.Reached.{reached-next, reached-fault, reached-end, reached-broken}
use Rattle.sg_syntax.proofs.machine.parse.Goals as goal

pub returns-then-not-branch-clause-fault : goal.returns-then-not-branch-clause-fault
returns-then-not-branch-clause-fault c =
    reached-fault c.args.text.now c.loop-i.i (stack_of c.loop-i.machine) (state_of c.loop-i.machine) c.loop-i-test.true c.loop-i.invariant
    (sym c.in_ok-advance.ensures.test ∙ c.if-not-branch.true)

pub loop-i-preserved : goal.loop-i-preserved
loop-i-preserved c =
    reached-next c.args.text.now c.loop-i.i (stack_of c.loop-i.machine) (stack_of c.advance.new.self) (state_of c.loop-i.machine) (state_of c.advance.new.self) c.loop-i-test.true c.loop-i.invariant
    (sym c.in_ok-advance.ensures.test ∙ c.if-not-branch.false) (c.in_ok-advance.ensures.taken (search rules))

pub returns-then-branch-clause-node : goal.returns-then-branch-clause-node
returns-then-branch-clause-node c =
    reached-end c.args.text.now c.loop-i.i (stack_of c.loop-i.machine) (state_of c.loop-i.machine) (state_of c.finish.new.self) (placed_of c.in_ok-tree.tree.value) (omega arith) (omega arith) c.loop-i.invariant
    (c.in_ok-finish.ensures.whole (search rules)) c.in_ok-finish.ensures.state c.in_ok-tree.ensures.newest

pub returns-clause-fault : goal.returns-clause-fault
returns-clause-fault c =
    reached-broken c.args.text.now c.loop-i.i (stack_of c.loop-i.machine) (state_of c.loop-i.machine) (omega arith) (omega arith) c.loop-i.invariant
    (c.in_ok-finish.ensures.broken c.if-branch.false)
