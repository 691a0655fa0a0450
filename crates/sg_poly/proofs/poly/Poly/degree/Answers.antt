use Rattle.std.proofs.Common.{ap, arith, length}
use Rattle.sg_algebra.proofs.Rows.{past_row}
use Rattle.sg_poly.proofs.poly.Poly.degree.Goals as goal

pub returns-else-n-eq0-clause-last : goal.returns-else-n-eq0-clause-last
returns-else-n-eq0-clause-last g c k h = past_row g.F.Field.val c.args.self.now k (omega (arith, ap length c.self.view_is))
