use Rattle.std.proofs.Common.{map}
use Rattle.sg_poly.proofs.Dividers.{monic_some}
use Rattle.sg_ratfun.proofs.Steps.{product_makes}
use Rattle.sg_ratfun.proofs.parts.product.Goals as goal

pub split-requires : goal.split-requires
split-requires g c = monic_some (map g.F.Field.val c.args.e.now) c.requires.right.monic

pub split-requires-2 : goal.split-requires-2
split-requires-2 g c = monic_some (map g.F.Field.val c.args.b.now) c.requires.left.monic

pub returns-clause-value : goal.returns-clause-value
returns-clause-value g c =
    let v = g.F.Field.val in
    (product_makes (map v c.args.a.now) (map v c.args.b.now) (map v c.args.c.now) (map v c.args.e.now) (map v c.in_ok-x.x.common) (map v c.in_ok-y.y.common) (map v c.in_ok-x.x.left) (map v c.in_ok-x.x.right) (map v c.in_ok-y.y.left) (map v c.in_ok-y.y.right) (map v c.in_ok-num.num) (map v c.in_ok-den.den)
    c.requires.left c.requires.right c.in_ok-x.ensures.left c.in_ok-x.ensures.right c.in_ok-x.ensures.coprime c.in_ok-x.ensures.monic
    c.in_ok-y.ensures.left c.in_ok-y.ensures.right c.in_ok-y.ensures.coprime c.in_ok-y.ensures.monic c.in_ok-num.ensures.value c.in_ok-den.ensures.value).value

pub returns-clause-reduced : goal.returns-clause-reduced
returns-clause-reduced g c =
    let v = g.F.Field.val in
    (product_makes (map v c.args.a.now) (map v c.args.b.now) (map v c.args.c.now) (map v c.args.e.now) (map v c.in_ok-x.x.common) (map v c.in_ok-y.y.common) (map v c.in_ok-x.x.left) (map v c.in_ok-x.x.right) (map v c.in_ok-y.y.left) (map v c.in_ok-y.y.right) (map v c.in_ok-num.num) (map v c.in_ok-den.den)
    c.requires.left c.requires.right c.in_ok-x.ensures.left c.in_ok-x.ensures.right c.in_ok-x.ensures.coprime c.in_ok-x.ensures.monic
    c.in_ok-y.ensures.left c.in_ok-y.ensures.right c.in_ok-y.ensures.coprime c.in_ok-y.ensures.monic c.in_ok-num.ensures.value c.in_ok-den.ensures.value).reduced
