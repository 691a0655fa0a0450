use Rattle.std.proofs.Common.{◌≤◌, ◌-◌, length, take}
use Rattle.sg_io.specs.Bytes.{Appends}
use Rattle.sg_top.proofs.send.send.Given as goal

abbrev pub invariant-loop-sent : goal.invariant-loop-sent
invariant-loop-sent g l = record {
  within : l.sent ≤ length l.text;
  appended : Appends (g.K.Sink.contents l.initial.sink) (g.K.Sink.contents l.sink) (take l.sent l.text);
  count : g.K.Sink.fault_count l.initial.sink ≤ g.K.Sink.fault_count l.sink;
}

abbrev pub decreases-loop-sent : goal.decreases-loop-sent
decreases-loop-sent g l = length l.text - l.sent
