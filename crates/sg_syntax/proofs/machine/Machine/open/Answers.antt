use Rattle.sg_syntax.specs.Machines.{stack_of, state_of}
use Rattle.sg_syntax.proofs.Turns.{alike_way, lead_way_of, not_span, not_act}
use Rattle.sg_syntax.proofs.machine.Machine.open.Goals as goal

pub loop-part-smaller : goal.loop-part-smaller
loop-part-smaller c =
    lead_way_of c.args.byte c.loop-part.self.stack.items c.pop.new.self.items c.way.result.now c.put.new.stack.items c.in-Some.part
    c.in-Some.ensures.items c.in_ok-put-in_default-part.ensures (not_span c.in-Some.part c.in_default-part.not-Span) c.way.ensures

pub loop-part-preserved : goal.loop-part-preserved
loop-part-preserved c =
    alike_way c.args.byte (stack_of c.args.self.now) (state_of c.args.self.now) (state_of c.loop-part.self) c.loop-part.self.stack.items c.pop.new.self.items c.way.result.now c.put.new.stack.items c.in-Some.part
    c.in-Some.ensures.items c.in_ok-put-in_default-part.ensures (not_span c.in-Some.part c.in_default-part.not-Span) (not_act c.in-Some.part c.in_default-part.not-Act) c.way.ensures c.loop-part.invariant
