use Rattle.sg_laurent.proofs.Listing.{unit_at_more, unit_off_more}
use Rattle.sg_laurent.proofs.exponents.exponents_of_one.Goals as goal
use Rattle.sg_laurent.proofs.exponents.exponents_of_one.Goals.{then-i-j, else-i-j}

pub loop-j-preserved : goal.loop-j-preserved
loop-j-preserved c = elim c.if-i-j.branch [
  | then-i-j w ↦ unit_at_more c.loop-j.j c.args.i c.loop-j.row.items c.pushed.new.row.items c.loop-j.invariant w.if-i-j.true (rw w.e-is at c.in_ok-pushed.ensures.ok)
  | else-i-j w ↦ unit_off_more c.loop-j.j c.args.i c.loop-j.row.items c.pushed.new.row.items c.loop-j.invariant w.if-i-j.false (rw w.e-is at c.in_ok-pushed.ensures.ok)
]
