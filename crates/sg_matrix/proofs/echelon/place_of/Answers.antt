use Rattle.std.proofs.Common.{◌∙◌, sym, arith, rules}
use Rattle.sg_algebra.proofs.Tables.{row_read}
use Rattle.sg_matrix.proofs.Adding.{place_after}
use Rattle.sg_matrix.proofs.echelon.place_of.Goals as goal

pub returns-then-not-leads_before-clause-after : goal.returns-then-not-leads_before-clause-after
returns-then-not-leads_before-clause-after g c = place_after g.F.Field.val c.args.rows.now c.requires c.loop-i.i c.args.j c.as_slice.result.now (omega arith)
    (row_read c.args.rows.now c.loop-i.i c.get.result.now (omega arith) c.get.ensures ∙ sym c.as_slice.ensures) (c.leads_before.ensures.no (search rules))
