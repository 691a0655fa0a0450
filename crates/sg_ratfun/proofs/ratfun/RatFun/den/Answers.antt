use Rattle.std.proofs.Common.{sym, map}
use Rattle.sg_ratfun.proofs.Monics.{monic_cong}
use Rattle.sg_ratfun.proofs.ratfun.RatFun.den.Goals as goal

pub returns-clause-monic : goal.returns-clause-monic
returns-clause-monic g c =
    let v = g.F.Field.val in
    monic_cong (map v c.args.self.now.1) (map v c.in_ok-p.p) (sym (rw c.lower.ensures.value at c.in_ok-p.ensures.value)) c.lower.ensures.reduced.monic
