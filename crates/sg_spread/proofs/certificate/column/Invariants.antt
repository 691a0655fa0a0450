use Rattle.std.proofs.Common.{[], map, get_or}
use Rattle.sg_algebra.proofs.Polynomial.{coefficient}
use Rattle.sg_algebra.proofs.Rows.{Builds}
use Rattle.sg_num.specs.Value.{number}
use Rattle.sg_spread.proofs.certificate.column.Given as goal

abbrev pub invariant-loop-t : goal.invariant-loop-t
invariant-loop-t l = Builds number (λ t. coefficient (map number (get_or l.rows t [])) l.p) l.t l.new
