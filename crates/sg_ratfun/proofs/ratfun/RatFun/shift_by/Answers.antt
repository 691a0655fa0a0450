use Rattle.std.proofs.Common.{◌≡◌, rules, map}
use Rattle.sg_algebra.proofs.ValueField.{ValueR}
use Rattle.sg_algebra.proofs.Rational.{whole_value}
use Rattle.sg_algebra.proofs.Shift.{moved}
use Rattle.sg_algebra.proofs.Polynomial.{poly}
use Rattle.sg_poly.proofs.Dividers.{monic_some}
use Rattle.sg_ratfun.proofs.Quotients.{over_equal}
use Rattle.sg_ratfun.proofs.Shifts.{moved_reduced}
use Rattle.sg_ratfun.proofs.ratfun.RatFun.shift_by.Goals as goal

pub of-requires : goal.of-requires
of-requires g c =
    let v = g.F.Field.val in
    let n : poly (map v c.in_ok-num.num) ≡ poly (moved (ValueR g.F.Field.vars) (whole_value g.F.Field.vars c.args.m) (map v c.upper.result.now)) = search rules in
    let k : poly (map v c.in_ok-den.den) ≡ poly (moved (ValueR g.F.Field.vars) (whole_value g.F.Field.vars c.args.m) (map v c.lower.result.now)) = search rules in
    moved_reduced (whole_value g.F.Field.vars c.args.m) (map v c.args.self.now.0) (map v c.args.self.now.1) (map v c.in_ok-num.num) (map v c.in_ok-den.den) c.upper.ensures.reduced
    (rw c.upper.ensures.value at n) (rw c.lower.ensures.value at k)

pub returns-clause-value : goal.returns-clause-value
returns-clause-value g c =
    let v = g.F.Field.val in
    let n : poly (map v c.in_ok-num.num) ≡ poly (moved (ValueR g.F.Field.vars) (whole_value g.F.Field.vars c.args.m) (map v c.upper.result.now)) = search rules in
    let k : poly (map v c.in_ok-den.den) ≡ poly (moved (ValueR g.F.Field.vars) (whole_value g.F.Field.vars c.args.m) (map v c.lower.result.now)) = search rules in
    let r = moved_reduced (whole_value g.F.Field.vars c.args.m) (map v c.args.self.now.0) (map v c.args.self.now.1) (map v c.in_ok-num.num) (map v c.in_ok-den.den) c.upper.ensures.reduced
    (rw c.upper.ensures.value at n) (rw c.lower.ensures.value at k) in
    rw c.of.ensures (over_equal (map v c.in_ok-num.num) (map v c.in_ok-den.den) (moved (ValueR g.F.Field.vars) (whole_value g.F.Field.vars c.args.m) (map v c.args.self.now.0)) (moved (ValueR g.F.Field.vars) (whole_value g.F.Field.vars c.args.m) (map v c.args.self.now.1))
    (monic_some (map v c.in_ok-den.den) r.monic) (rw c.upper.ensures.value at n) (rw c.lower.ensures.value at k))

pub returns-clause-reduced : goal.returns-clause-reduced
returns-clause-reduced g c =
    let v = g.F.Field.val in
    let n : poly (map v c.in_ok-num.num) ≡ poly (moved (ValueR g.F.Field.vars) (whole_value g.F.Field.vars c.args.m) (map v c.upper.result.now)) = search rules in
    let k : poly (map v c.in_ok-den.den) ≡ poly (moved (ValueR g.F.Field.vars) (whole_value g.F.Field.vars c.args.m) (map v c.lower.result.now)) = search rules in
    rw c.of.ensures (moved_reduced (whole_value g.F.Field.vars c.args.m) (map v c.args.self.now.0) (map v c.args.self.now.1) (map v c.in_ok-num.num) (map v c.in_ok-den.den) c.upper.ensures.reduced
    (rw c.upper.ensures.value at n) (rw c.lower.ensures.value at k))
