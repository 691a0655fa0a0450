use Rattle.std.proofs.Common.{length}
use Rattle.sg_relations.specs.Columns.{IsStart}
use Rattle.sg_relations.proofs.numbers.started.Given as goal

abbrev pub invariant-loop-i : goal.invariant-loop-i
invariant-loop-i l = IsStart (length l.list) l.i l.list l.columns
