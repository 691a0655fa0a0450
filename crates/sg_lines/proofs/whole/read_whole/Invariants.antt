use Rattle.std.proofs.Common.{◌≡◌, ◌-◌, ◌≤◌, length}
use Rattle.sg_lines.specs.Counting.{no_line, IsAfter}
use Rattle.sg_lines.proofs.Taking.{Took}
use Rattle.sg_lines.proofs.whole.read_whole.Given as goal

abbrev pub invariant-loop-bytes : goal.invariant-loop-bytes
invariant-loop-bytes g l = record {
  counted : IsAfter no_line l.bytes.items l.count;
  taken : Took (g.S.Source.remaining l.initial.source) (g.S.Source.remaining l.source) l.bytes.items;
  room : length l.piece ≡ 4096;
  faults : g.S.Source.fault_count l.initial.source ≤ g.S.Source.fault_count l.source;
}

abbrev pub decreases-loop-bytes : goal.decreases-loop-bytes
decreases-loop-bytes g l = 4097001 - length l.bytes.items
