use Rattle.std.proofs.Common.{◌^◌, ◌-◌}
use Rattle.sg_syntax.specs.Stack.{lead}
use Rattle.sg_syntax.specs.Machines.{stack_of, state_of}
use Rattle.sg_syntax.proofs.Reached.{place_below}
use Rattle.sg_syntax.proofs.machine.Machine.advance.Goals as goal

pub read-requires : goal.read-requires
read-requires c =
    place_below (state_of c.args.self.now) (state_of c.open.new.self) (lead (stack_of c.args.self.now)) c.args.byte (2 ^ 32 - 1) (stack_of c.args.self.now) c.in_ok-low.ensures.state c.requires
