use Rattle.std.proofs.Common.{arith, rules}
use Rattle.sg_matrix.proofs.Leads.{zero_more}
use Rattle.sg_matrix.proofs.rows.lead.Goals as goal

pub loop-k-preserved : goal.loop-k-preserved
loop-k-preserved g c = zero_more g.F.Field.val c.args.r.now c.loop-k.k c.index-r-k.result (omega arith) c.index-r-k.is (c.is_zero.ensures.0 (search rules)) c.loop-k.invariant
