use Rattle.std.proofs.Common.{map}
use Rattle.sg_poly.specs.Polynomials.{polynomial}
use Rattle.sg_poly.proofs.Dividers.{monic_some}
use Rattle.sg_rational.proofs.Taking.{factor_some, product_some, multiple_right}
use Rattle.sg_rational.proofs.denominator.common_multiple.Goals as goal

pub exact-requires-clause-some : goal.exact-requires-clause-some
exact-requires-clause-some g c = monic_some (map g.F.Field.val c.in_ok-common.common) c.in_ok-common.ensures.monic

pub returns-clause-some : goal.returns-clause-some
returns-clause-some g c =
    let v = g.F.Field.val in
    product_some (polynomial v c.args.p.now) (polynomial v c.in_ok-part.part) (polynomial v c.in_ok-r.r) c.in_ok-r.ensures.value c.requires.left
    (factor_some (polynomial v c.args.q.now) (polynomial v c.in_ok-part.part) (polynomial v c.in_ok-common.common) c.in_ok-part.ensures.value c.requires.right)

pub returns-clause-right : goal.returns-clause-right
returns-clause-right g c =
    let v = g.F.Field.val in
    let h = c.in_ok-common.ensures.divisor.left in
    multiple_right (polynomial v c.args.p.now) (polynomial v c.args.q.now) (polynomial v c.in_ok-common.common) (polynomial v c.in_ok-part.part) h.cofactor (polynomial v c.in_ok-r.r) c.in_ok-r.ensures.value c.in_ok-part.ensures.value h.is
