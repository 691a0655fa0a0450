use Rattle.std.proofs.Common.{arith}
use Rattle.sg_algebra.proofs.Rows.{behind_at}
use Rattle.sg_poly.proofs.division.behind.Goals as goal

pub returns-else-k-eq0 : goal.returns-else-k-eq0
returns-else-k-eq0 g c = behind_at g.F.Field.val (g.F.Field.val c.args.a.now) c.args.rest.now c.args.k c.index-rest-k.result (λ e. omega arith) (omega arith) c.index-rest-k.is
