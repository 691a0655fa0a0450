use Rattle.std.proofs.Common.{take}
use Rattle.sg_relations.specs.Combined.{AreCombined}
use Rattle.sg_relations.proofs.ratio.combined.Given as goal

abbrev pub invariant-loop-i : goal.invariant-loop-i
invariant-loop-i g l = AreCombined g.F.Field.val (take l.i l.factors) l.exps l.row
