use Rattle.std.proofs.Common.{map}
use Rattle.sg_poly.proofs.Dividers.{monic_some}
use Rattle.sg_ratfun.proofs.Quotients.{over_zero}
use Rattle.sg_ratfun.proofs.field.RatFunField.div.Goals as goal

pub quotient-requires-clause-some : goal.quotient-requires-clause-some
quotient-requires-clause-some g c z =
    let p = map g.F.Field.val c.args.other.now.0 in
    let q = map g.F.Field.val c.args.other.now.1 in
    c.requires (over_zero p q (monic_some q c.upper-2.ensures.reduced.monic) (rw c.upper-2.ensures.value at z))
