use Rattle.std.proofs.Common.{◌∙◌, ◌∷◌, [], sym, ap, map}
use Rattle.sg_algebra.proofs.Value.{one_value}
use Rattle.sg_algebra.proofs.Polynomial.{PolynomialR, ◌*ᵖ◌, poly}
use Rattle.sg_ratfun.proofs.Constants.{monic_one, times_one}
use Rattle.sg_ratfun.proofs.split.apart.Goals as goal

pub returns-clause-left : goal.returns-clause-left
returns-clause-left g c = times_one (poly (map g.F.Field.val c.args.p.now)) _ _ c.in_ok-left.ensures.value c.in_ok-common.ensures.value

pub returns-clause-right : goal.returns-clause-right
returns-clause-right g c = times_one (poly (map g.F.Field.val c.args.q.now)) _ _ c.in_ok-right.ensures.value c.in_ok-common.ensures.value

pub returns-clause-monic : goal.returns-clause-monic
returns-clause-monic g c = monic_one (map g.F.Field.val c.in_ok-common.common) c.in_ok-common.ensures.value
