use Rattle.std.proofs.Common.{◌∙◌, IsTrue, arith}
use Rattle.sg_sums.proofs.Adding.{part_start, part_zero, part_next, part_end}
use Rattle.sg_sums.proofs.polys.onto.Goals as goal
use Rattle.sg_sums.proofs.polys.onto.Goals.{then-not-is_zero+in_ok-s, else-not-is_zero}

pub loop-i-init : goal.loop-i-init
loop-i-init g c = part_start (g.T.Tower.reading g.T.K.Field.vars g.T.K.Field.val c.args.below.now) c.args.x c.args.y.now

pub loop-i-preserved : goal.loop-i-preserved
loop-i-preserved g c = elim c.if-not-is_zero.branch [
  | then-not-is_zero+in_ok-s w ↦ part_next (g.T.Tower.reading g.T.K.Field.vars g.T.K.Field.val c.args.below.now) c.args.x c.args.y.now c.loop-i.r _ c.loop-i.i _ _ w.in_ok-s.s c.loop-i.invariant (omega arith) c.requires w.get-then-not-is_zero.ensures w.get-then-not-is_zero-2.ensures w.in_ok-s.ensures.value (w.r-is ∙ w.set.ensures)
  | else-not-is_zero w ↦
      let t : IsTrue c.is_zero.result = grind (arith, w.if-not-is_zero.false) in
      rw (w.r-is) (part_zero (g.T.Tower.reading g.T.K.Field.vars g.T.K.Field.val c.args.below.now) c.args.x c.args.y.now c.loop-i.r c.loop-i.i _ c.loop-i.invariant (omega arith) c.get.ensures (c.is_zero.ensures.0 t))
]

pub returns-clause-value : goal.returns-clause-value
returns-clause-value g c = part_end (g.T.Tower.reading g.T.K.Field.vars g.T.K.Field.val c.args.below.now) c.args.x c.args.y.now c.loop-i.r c.loop-i.i c.loop-i.invariant (omega arith)
