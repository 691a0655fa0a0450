use Rattle.std.proofs.Common.{map}
use Rattle.sg_poly.proofs.Dividers.{monic_some}
use Rattle.sg_ratfun.proofs.Quotients.{over_zero, zero_over}
use Rattle.sg_ratfun.proofs.field.RatFunField.is_zero.Goals as goal

pub returns : goal.returns
returns g c =
    let p = map g.F.Field.val c.args.self.now.0 in
    let q = map g.F.Field.val c.args.self.now.1 in
    let n = monic_some q c.lower-den.ensures.reduced.monic in (
      λ t. over_zero p q n (rw c.upper.ensures.value at (c.is_zero.ensures.0 t)),
      λ e. c.is_zero.ensures.1 (rw c.upper.ensures.value (zero_over p q n e)),
    )
