use Rattle.std.proofs.Common.{◌≡◌, take}
use Rattle.sg_relations.specs.Columns.{row_at}
use Rattle.sg_relations.proofs.numbers.row_of.Given as goal

abbrev pub invariant-loop-c : goal.invariant-loop-c
invariant-loop-c l = l.row ≡ row_at (take l.c l.columns) l.place
