use Rattle.std.proofs.Common.{map}
use Rattle.sg_ratfun.proofs.Constants.{constant_reduced, constant_equal}
use Rattle.sg_ratfun.proofs.ratfun.RatFun.from_constant.Goals as goal

pub of-requires : goal.of-requires
of-requires g c = constant_reduced (map g.F.Field.val c.in_ok-num.num) (map g.F.Field.val c.in_ok-den.den) c.in_ok-den.ensures.value

pub returns-clause-value : goal.returns-clause-value
returns-clause-value g c = rw c.of.ensures (constant_equal (map g.F.Field.val c.in_ok-num.num) (map g.F.Field.val c.in_ok-den.den) (g.F.Field.val c.args.c) c.in_ok-num.ensures.value c.in_ok-den.ensures.value)
