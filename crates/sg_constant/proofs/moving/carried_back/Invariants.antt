use Rattle.std.proofs.Common.{pos, neg_ℤ}
use Rattle.sg_constant.specs.Shares.{share, shares, IsCarried}
use Rattle.sg_constant.proofs.moving.carried_back.Given as goal

abbrev pub invariant-steps : goal.invariant-steps
invariant-steps g l = IsCarried (g.F.Field.val l.factors.a) (neg_ℤ (pos l.i)) (share g.F.Field.val l.fn.s) (shares g.F.Field.val l.fn.moved) (share g.F.Field.val l.r) (shares g.F.Field.val l.moved)
