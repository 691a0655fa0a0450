use Rattle.std.proofs.Common.{◌≡◌, ℕ, ◌<◌, [], map, length, get_or}
use Rattle.sg_algebra.proofs.Polynomial.{coefficient}
use Rattle.sg_algebra.proofs.Rows.{Builds}
use Rattle.sg_num.specs.Value.{number}
use Rattle.sg_spread.proofs.certificate.table.Given as goal

abbrev pub invariant-loop-p : goal.invariant-loop-p
invariant-loop-p l = (length l.all ≡ l.p) × ((p : ℕ) → p < l.p → Builds number (λ t. coefficient (map number (get_or l.rows t [])) p) (length l.rows) (get_or l.all p []))
