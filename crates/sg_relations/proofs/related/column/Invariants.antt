use Rattle.std.proofs.Common.{◌≡◌, map, take}
use Rattle.sg_num.specs.Value.{number}
use Rattle.sg_relations_theory.proofs.NullVectors.{as_value}
use Rattle.sg_relations_theory.proofs.Transposed.{column_in}
use Rattle.sg_relations.proofs.related.column.Given as goal

abbrev pub invariant-loop-i : goal.invariant-loop-i
invariant-loop-i l = map number l.row ≡ map as_value (column_in (take l.i l.rows) l.j)
