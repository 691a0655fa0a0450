use Rattle.std.proofs.Common.{◌≡◌, suc, subst, arith}
use Rattle.std.proofs.lemmas.Int.{ints}
use Rattle.sg_poly.specs.Polynomials.{polynomial}
use Rattle.sg_rational.specs.Reductions.{Apart}
use Rattle.sg_rational.proofs.dispersion.step.Goals as goal

pub returns-clause-apart : goal.returns-clause-apart
returns-clause-apart g c h e =
    let v = g.F.Field.val in
    let same : c.count.result ≡ suc h = omega (arith, ints, c.count.ensures.value, e) in
    subst (λ n. Apart (polynomial v c.in_ok-r.r.a) (polynomial v c.in_ok-r.r.b) n) same c.in_ok-r.ensures.apart
