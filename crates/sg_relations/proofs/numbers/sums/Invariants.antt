use Rattle.std.proofs.Common.{◌≡◌, take}
use Rattle.sg_relations_theory.specs.Rows.{sum_row}
use Rattle.sg_relations.proofs.numbers.sums.Given as goal

abbrev pub invariant-loop-i : goal.invariant-loop-i
invariant-loop-i l = l.row ≡ sum_row (take l.i l.a) (take l.i l.b)
