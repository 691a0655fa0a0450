use Rattle.std.proofs.Common.{◌≡◌, take}
use Rattle.sg_relations_theory.proofs.NullVectors.{dot, number_at}
use Rattle.sg_relations.proofs.ratio.total_of.Given as goal

abbrev pub invariant-loop-i : goal.invariant-loop-i
invariant-loop-i l = l.total ≡ dot (take l.i l.a) (number_at l.b)
