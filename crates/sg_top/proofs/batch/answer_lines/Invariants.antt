use Rattle.std.proofs.Common.{◌≤◌, length, map}
use Rattle.sg_lines.specs.Lines.{lines_of, words_in}
use Rattle.sg_top.proofs.Batching.{Answered}
use Rattle.sg_top.proofs.batch.answer_lines.Given as goal

abbrev pub invariant-loop-line : goal.invariant-loop-line
invariant-loop-line g l = record {
  answered : Answered (map words_in (lines_of l.text)) (map words_in (lines_of l.rest)) (g.K.Sink.contents l.initial.sink) (g.K.Sink.contents l.sink);
  count : g.K.Sink.fault_count l.initial.sink ≤ g.K.Sink.fault_count l.sink;
}

abbrev pub decreases-loop-line : goal.decreases-loop-line
decreases-loop-line g l = length l.rest
