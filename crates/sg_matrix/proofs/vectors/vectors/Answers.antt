use Rattle.std.proofs.Common.{arith}
use Rattle.sg_matrix.proofs.Solutions.{columns_start, columns_free, columns_pivot, columns_full, columns_sound, columns_complete, columns_form}
use Rattle.sg_matrix.proofs.Full.{columns_none}
use Rattle.sg_matrix.proofs.vectors.vectors.Goals as goal
use Rattle.sg_matrix.proofs.vectors.vectors.Goals.{in-Some, in-None+in_ok-vector-in-None+in_ok-push-in-None}

pub loop-k-init : goal.loop-k-init
loop-k-init g c e = rw (c.new-basis.ensures) (columns_start g.F.Field.val c.args.rows.now e.pivot c.args.width)

pub loop-k-preserved : goal.loop-k-preserved
loop-k-preserved g c e = elim c.match-row_at.branch [
  | in-Some w ↦ rw (w.basis-is) (columns_pivot g.F.Field.val c.args.rows.now e c.args.width c.loop-k.k w.in-Some._row c.loop-k.basis w.in-Some.ensures.within w.in-Some.ensures.some (c.loop-k.invariant e))
  | in-None+in_ok-vector-in-None+in_ok-push-in-None w ↦ rw (w.basis-is) (columns_free g.F.Field.val c.args.rows.now e.pivot c.args.width c.loop-k.k c.loop-k.basis w.push.new.self w.in_ok-vector-in-None.field-0
      w.in-None.ensures.none (w.in_ok-vector-in-None.ensures.value e) w.in_ok-push-in-None.ensures.ok (c.loop-k.invariant e))
]

pub returns-clause-sized : goal.returns-clause-sized
returns-clause-sized g c i h = ((c.loop-k.invariant c.requires.echelon).vectors i h).size

pub returns-clause-sound : goal.returns-clause-sound
returns-clause-sound g c = columns_sound g.F.Field.val c.args.width c.args.rows.now c.requires.echelon c.loop-k.basis c.requires.sized
    (columns_full g.F.Field.val c.args.rows.now c.requires.echelon.pivot c.args.width c.loop-k.k c.loop-k.basis (omega arith) (c.loop-k.invariant c.requires.echelon))

pub returns-clause-form : goal.returns-clause-form
returns-clause-form g c = columns_form g.F.Field.val c.args.width c.args.rows.now c.requires.echelon c.loop-k.basis
    (columns_full g.F.Field.val c.args.rows.now c.requires.echelon.pivot c.args.width c.loop-k.k c.loop-k.basis (omega arith) (c.loop-k.invariant c.requires.echelon))

pub returns-clause-complete : goal.returns-clause-complete
returns-clause-complete g c = columns_complete g.F.Field.val c.args.width c.args.rows.now c.requires.echelon c.loop-k.basis c.requires.sized
    (columns_full g.F.Field.val c.args.rows.now c.requires.echelon.pivot c.args.width c.loop-k.k c.loop-k.basis (omega arith) (c.loop-k.invariant c.requires.echelon))

pub returns-clause-full : goal.returns-clause-full
returns-clause-full g c h = columns_none g.F.Field.val c.args.width c.args.rows.now c.requires.echelon c.loop-k.basis c.requires.sized h
    (columns_full g.F.Field.val c.args.rows.now c.requires.echelon.pivot c.args.width c.loop-k.k c.loop-k.basis (omega arith) (c.loop-k.invariant c.requires.echelon))
