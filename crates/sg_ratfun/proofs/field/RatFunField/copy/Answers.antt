use Rattle.std.proofs.Common.{map}
use Rattle.sg_poly.proofs.Dividers.{monic_some}
use Rattle.sg_ratfun.proofs.Quotients.{over_equal}
use Rattle.sg_ratfun.proofs.Shifts.{same_reduced}
use Rattle.sg_ratfun.proofs.field.RatFunField.copy.Goals as goal

pub of-requires : goal.of-requires
of-requires g c =
    let v = g.F.Field.val in
    same_reduced (map v c.args.self.now.0) (map v c.args.self.now.1) (map v c.in_ok-num.num) (map v c.in_ok-den.den) c.upper.ensures.reduced
    (rw c.upper.ensures.value at c.in_ok-num.ensures.value) (rw c.lower.ensures.value at c.in_ok-den.ensures.value)

pub returns-clause-value : goal.returns-clause-value
returns-clause-value g c =
    let v = g.F.Field.val in
    let r = same_reduced (map v c.args.self.now.0) (map v c.args.self.now.1) (map v c.in_ok-num.num) (map v c.in_ok-den.den) c.upper.ensures.reduced
    (rw c.upper.ensures.value at c.in_ok-num.ensures.value) (rw c.lower.ensures.value at c.in_ok-den.ensures.value) in
    rw c.of.ensures (over_equal (map v c.in_ok-num.num) (map v c.in_ok-den.den) (map v c.args.self.now.0) (map v c.args.self.now.1) (monic_some (map v c.in_ok-den.den) r.monic)
    (rw c.upper.ensures.value at c.in_ok-num.ensures.value) (rw c.lower.ensures.value at c.in_ok-den.ensures.value))
