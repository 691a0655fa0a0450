use Rattle.std.proofs.Common.{◌≡◌, take}
use Rattle.sg_relations_theory.specs.Rows.{multiple_row}
use Rattle.sg_relations.proofs.related.multiples.Given as goal

abbrev pub invariant-loop-i : goal.invariant-loop-i
invariant-loop-i l = l.row ≡ multiple_row l.t (take l.i l.exps)
