use Rattle.sg_syntax.specs.Machines.{stack_of, state_of}
use Rattle.sg_syntax.proofs.Reached.{Reached}
use Rattle.sg_syntax.proofs.machine.parse.Given as goal

abbrev pub invariant-loop-i : goal.invariant-loop-i
invariant-loop-i l = Reached l.text l.i (stack_of l.machine) (state_of l.machine)
