use Rattle.std.proofs.Common.{◌≡◌, ℕ, ◌<◌, length, map, get_or, []}
use Rattle.sg_num.specs.Value.{number}
use Rattle.sg_relations_theory.proofs.NullVectors.{as_value}
use Rattle.sg_relations_theory.proofs.Transposed.{column_in}
use Rattle.sg_relations.proofs.related.equations.Given as goal

abbrev pub invariant-loop-j : goal.invariant-loop-j
invariant-loop-j l = record {
  sized : length l.table ≡ l.j;
  at : (i : ℕ) → i < l.j → map number (get_or l.table i []) ≡ map as_value (column_in l.rows i);
}
