use Rattle.std.proofs.Common.{map, take}
use Rattle.sg_algebra.proofs.ValueField.{ValueF}
use Rattle.sg_num.specs.Value.{number}
use Rattle.sg_tower_theory.specs.Powers.{powers}
use Rattle.sg_relations.specs.Signs.{HasSign}
use Rattle.sg_relations.proofs.numbers.is_negative.Given as goal

abbrev pub invariant-loop-i : goal.invariant-loop-i
invariant-loop-i l = HasSign l.negative (powers (ValueF 0) (map number (take l.i l.list)) (take l.i l.exps))
