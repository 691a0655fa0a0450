use Rattle.std.proofs.Common.{◌≡◌, ◌∙◌, sym, ap, arith, List, [], map, length, get_or}
use Rattle.sg_algebra.proofs.Polynomial.{coefficient}
use Rattle.sg_algebra.proofs.Tables.{row_read}
use Rattle.sg_matrix.proofs.Solutions.{held_more, held_null}
use Rattle.sg_matrix.proofs.null.null_basis.Goals as goal

pub loop-i-preserved : goal.loop-i-preserved
loop-i-preserved g c =
    let read : get_or c.args.rows.now c.loop-i.i [] ≡ c.as_slice.result.now = row_read c.args.rows.now c.loop-i.i c.get.result.now (omega arith) c.get.ensures ∙ sym c.as_slice.ensures in
    let w = c.in_ok-_fresh.ensures.width ∙ c.loop-i.invariant.width in
    let form = rw w at c.in_ok-_fresh.ensures.form in
    record {
      width = w;
      form = form;
      held = held_more g.F.Field.val c.args.width c.args.rows.now c.loop-i.i c.loop-i.system.rows c.add_row.new.self.rows c.in_ok-row.row c.loop-i.invariant.form form
          (c.in_ok-row.ensures.size ∙ sym (ap length read) ∙ c.requires c.loop-i.i (omega arith)) (c.requires c.loop-i.i (omega arith))
          (λ k. c.in_ok-row.ensures.value k ∙ ap (λ (q : List g.row.F.Denot). coefficient (map g.F.Field.val q) k) (sym read)) c.in_ok-_fresh.ensures.span c.loop-i.invariant.held;
    }

pub returns-clause-sound : goal.returns-clause-sound
returns-clause-sound g c j h i = held_null g.F.Field.val c.args.width c.args.rows.now c.loop-i.i c.loop-i.system.rows c.loop-i.invariant.form c.loop-i.invariant.held (coefficient (map g.F.Field.val (get_or c.in_ok-basis.basis i [])))
    (λ l q. c.in_ok-basis.ensures.sound l q i) j (omega arith) (c.requires j h)

pub returns-clause-complete : goal.returns-clause-complete
returns-clause-complete g c f z s = c.in_ok-basis.ensures.complete f (λ k q. z k (omega arith)) (c.loop-i.invariant.held.null f (λ j q. s j (omega arith)))
