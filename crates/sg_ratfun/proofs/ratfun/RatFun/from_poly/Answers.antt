use Rattle.std.proofs.Common.{◌∷◌, [], refl, sym, ◌∙◌, map}
use Rattle.sg_algebra.proofs.Value.{one_value}
use Rattle.sg_algebra.proofs.Polynomial.{polynomial_one_ne}
use Rattle.sg_ratfun.proofs.Constants.{constant_reduced}
use Rattle.sg_ratfun.proofs.Quotients.{over_equal}
use Rattle.sg_ratfun.proofs.ratfun.RatFun.from_poly.Goals as goal

pub of-requires : goal.of-requires
of-requires g c = constant_reduced (map g.F.Field.val c.args.num) (map g.F.Field.val c.in_ok-den.den) c.in_ok-den.ensures.value

pub returns-clause-value : goal.returns-clause-value
returns-clause-value g c = rw c.of.ensures (over_equal (map g.F.Field.val c.args.num) (map g.F.Field.val c.in_ok-den.den) (map g.F.Field.val c.args.num) (one_value ∷ []) (λ z. polynomial_one_ne (sym c.in_ok-den.ensures.value ∙ z)) refl c.in_ok-den.ensures.value)
