use Rattle.std.proofs.Common.{map, ◌∙◌}
use Rattle.sg_poly.specs.Polynomials.{polynomial}
use Rattle.sg_poly.proofs.Dividers.{monic_some}
use Rattle.sg_rational.proofs.Taking.{cleared_cross}
use Rattle.sg_rational.proofs.denominator.cleared.Goals as goal

pub exact-requires-clause-some : goal.exact-requires-clause-some
exact-requires-clause-some g c = monic_some (map g.F.Field.val c.in_ok-q.q) c.in_ok-q.ensures.monic

pub returns-clause-value : goal.returns-clause-value
returns-clause-value g c =
    let v = g.F.Field.val in
    cleared_cross (polynomial v c.args.v.now) (polynomial v c.args.f.now.0) (polynomial v c.args.f.now.1) (polynomial v c.in_ok-r.r) (polynomial v c.in_ok-part.part) (polynomial v c.in_ok-q.q) (polynomial v c.in_ok-p.p)
    c.in_ok-part.ensures.value c.in_ok-q.ensures.value c.in_ok-p.ensures.value c.in_ok-r.ensures.value

pub returns-clause-some : goal.returns-clause-some
returns-clause-some g c = λ z. monic_some (map g.F.Field.val c.in_ok-q.q) c.in_ok-q.ensures.monic (c.in_ok-q.ensures.value ∙ z)
