use Rattle.sg_text.proofs.Depth.{Flat}
use Rattle.sg_text.proofs.reader.first_deep.Given as goal

abbrev pub invariant-loop-i : goal.invariant-loop-i
invariant-loop-i l = Flat l.text l.most l.i l.count
