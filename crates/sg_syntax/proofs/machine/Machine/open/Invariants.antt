use Rattle.sg_syntax.specs.Stack.{lead}
use Rattle.sg_syntax.specs.Machines.{stack_of, state_of}
use Rattle.sg_syntax.proofs.Turns.{OpensAlike}
use Rattle.sg_syntax.proofs.machine.Machine.open.Given as goal

abbrev pub invariant-loop-part : goal.invariant-loop-part
invariant-loop-part l = OpensAlike l.byte (stack_of l.fn.self) (state_of l.fn.self) (stack_of l.self) (state_of l.self)

abbrev pub decreases-loop-part : goal.decreases-loop-part
decreases-loop-part l = lead (stack_of l.self)
