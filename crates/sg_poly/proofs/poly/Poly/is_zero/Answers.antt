use Rattle.std.proofs.Common.{◌≡◌, arith, length, rules}
use Rattle.sg_algebra.proofs.Rows.{zero_row, row_zero}
use Rattle.sg_poly.proofs.poly.Poly.is_zero.Goals as goal

pub returns : goal.returns
returns g c = rw (← c.self.view_is) (
  λ t. zero_row g.F.Field.val c.self.inside.coeffs (grind (arith, t, c.is_empty.ensures)),
  λ e. let z : length c.self.inside.coeffs ≡ 0 = row_zero g.F.Field.val c.self.inside.coeffs c.self.invariant e in search (rules, z),
)
