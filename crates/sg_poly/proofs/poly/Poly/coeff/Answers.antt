use Rattle.std.proofs.Common.{sym, ap, arith, length}
use Rattle.sg_algebra.proofs.Rows.{at_read, past_row}
use Rattle.sg_poly.proofs.poly.Poly.coeff.Goals as goal

pub returns-then-i-len-clause-some : goal.returns-then-i-len-clause-some
returns-then-i-len-clause-some g c = rw (← c.self.view_is) (sym (at_read g.F.Field.val c.self.inside.coeffs c.args.i c.get.result.now (omega arith) c.get.ensures))

pub returns-else-i-len-clause-none : goal.returns-else-i-len-clause-none
returns-else-i-len-clause-none g c k h = past_row g.F.Field.val c.args.self.now k (omega (arith, ap length c.self.view_is))
