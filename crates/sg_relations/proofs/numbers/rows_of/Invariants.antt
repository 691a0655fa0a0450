use Rattle.std.proofs.Common.{◌≡◌}
use Rattle.sg_relations.specs.Columns.{rows_from}
use Rattle.sg_relations.proofs.numbers.rows_of.Given as goal

abbrev pub invariant-loop-i : goal.invariant-loop-i
invariant-loop-i l = l.rows ≡ rows_from l.columns 0 l.i
