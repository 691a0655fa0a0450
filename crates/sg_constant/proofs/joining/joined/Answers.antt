use Rattle.std.proofs.Common.{map, subst}
use Rattle.sg_algebra.proofs.Polynomial.{poly}
use Rattle.sg_poly.proofs.Dividers.{monic_some}
use Rattle.sg_reduction_theory.proofs.Steps.{Adds}
use Rattle.sg_constant.specs.Shares.{share, polys, over}
use Rattle.sg_constant.proofs.Numerators.{joined_of}
use Rattle.sg_constant.proofs.joining.joined.Goals as goal

pub exact-requires-clause-some : goal.exact-requires-clause-some
exact-requires-clause-some g c = monic_some (map g.F.Field.val c.in_ok-g.g) c.in_ok-g.ensures.monic

pub exact-requires-2-clause-some : goal.exact-requires-2-clause-some
exact-requires-2-clause-some g c = monic_some (map g.F.Field.val c.in_ok-g.g) c.in_ok-g.ensures.monic

pub returns-clause-joined : goal.returns-clause-joined
returns-clause-joined g c =
    let v = g.F.Field.val in
    let adds : Adds (poly (map v c.in_ok-x.x)) (poly (map v c.in_ok-y.y)) (polys v c.in_ok-uppers.uppers) (polys v c.args.s.now.uppers) (polys v c.args.t.now.uppers)
    = subst (λ l. Adds (poly (map v c.in_ok-x.x)) (poly (map v c.in_ok-y.y)) (polys v c.in_ok-uppers.uppers) (polys v c.args.s.now.uppers) (polys v l)) c.as_slice-2.ensures
    (subst (λ l. Adds (poly (map v c.in_ok-x.x)) (poly (map v c.in_ok-y.y)) (polys v c.in_ok-uppers.uppers) (polys v l) (polys v c.as_slice-2.result.now)) c.as_slice.ensures c.in_ok-uppers.ensures.adds) in
    joined_of (share v c.args.s.now) (share v c.args.t.now) (over (polys v c.in_ok-uppers.uppers) (poly (map v c.in_ok-lower.lower))) (poly (map v c.in_ok-g.g)) (poly (map v c.in_ok-x.x)) (poly (map v c.in_ok-y.y))
    c.requires.left c.requires.right c.in_ok-x.ensures.value c.in_ok-y.ensures.value adds c.in_ok-lower.ensures.value
