use Rattle.std.proofs.Common.{◌∷◌, map, take}
use Rattle.sg_expr.specs.Tree.{tree_of}
use Rattle.sg_top.specs.Stages.{AreRead}
use Rattle.sg_top.proofs.taken.read_all.Given as goal

abbrev pub invariant-loop-text : goal.invariant-loop-text
invariant-loop-text l = AreRead l.command (l.first ∷ take l.text-index l.others) (map tree_of l.items)
