use Rattle.std.proofs.Common.{map}
use Rattle.sg_poly.specs.Polynomials.{polynomial}
use Rattle.sg_poly.proofs.Dividers.{monic_some}
use Rattle.sg_rational.proofs.Taking.{back_again, back_divides, moved_some, advances, apart_after}
use Rattle.sg_rational.proofs.dispersion.taken.Goals as goal

pub exact-requires-clause-some : goal.exact-requires-clause-some
exact-requires-clause-some g c = monic_some (map g.F.Field.val c.args.e.now) c.requires.monic

pub exact-requires-2-clause-some : goal.exact-requires-2-clause-some
exact-requires-2-clause-some g c =
    let v = g.F.Field.val in
    let d = c.in_ok-d.ensures.value in
    moved_some c.args.n (polynomial v c.in_ok-d.d) (polynomial v c.args.e.now) (back_again c.args.n (map v c.args.e.now) (map v c.in_ok-d.d) d) (monic_some (map v c.args.e.now) c.requires.monic)

pub exact-requires-2-clause-divides : goal.exact-requires-2-clause-divides
exact-requires-2-clause-divides g c =
    let v = g.F.Field.val in
    let d = c.in_ok-d.ensures.value in
    back_divides c.args.n (map v c.args.e.now) (map v c.in_ok-d.d) (map v c.args.given.now.b) d c.requires.common.right

pub returns-clause-value : goal.returns-clause-value
returns-clause-value g c =
    let v = g.F.Field.val in
    let d = c.in_ok-d.ensures.value in
    advances (polynomial v c.args.given.now.a) (polynomial v c.args.given.now.b) (polynomial v c.args.given.now.lower) (polynomial v c.args.given.now.factor) (polynomial v c.args.e.now) (polynomial v c.in_ok-d.d)
    (polynomial v c.in_ok-a.a) (polynomial v c.in_ok-b.b) (polynomial v c.in_ok-between.between) (polynomial v c.in_ok-lower.lower) (polynomial v c.in_ok-factor.factor) c.args.n c.requires.some c.requires.common
    (monic_some (map v c.args.e.now) c.requires.monic) (back_again c.args.n (map v c.args.e.now) (map v c.in_ok-d.d) d) c.in_ok-a.ensures.value c.in_ok-b.ensures.value c.in_ok-between.ensures.value c.in_ok-factor.ensures.value
    (polynomial v c.in_ok-both.both) c.in_ok-both.ensures.value c.in_ok-lower.ensures.value

pub returns-clause-apart : goal.returns-clause-apart
returns-clause-apart g c =
    let v = g.F.Field.val in
    let d = c.in_ok-d.ensures.value in
    apart_after (polynomial v c.args.given.now.a) (polynomial v c.args.given.now.b) (polynomial v c.args.given.now.lower) (polynomial v c.args.given.now.factor) (polynomial v c.args.e.now) (polynomial v c.in_ok-d.d)
    (polynomial v c.in_ok-a.a) (polynomial v c.in_ok-b.b) (polynomial v c.in_ok-between.between) (polynomial v c.in_ok-lower.lower) (polynomial v c.in_ok-factor.factor) c.args.n c.requires.some c.requires.common
    (monic_some (map v c.args.e.now) c.requires.monic) (back_again c.args.n (map v c.args.e.now) (map v c.in_ok-d.d) d) c.in_ok-a.ensures.value c.in_ok-b.ensures.value c.in_ok-between.ensures.value c.in_ok-factor.ensures.value
    (polynomial v c.in_ok-both.both) c.in_ok-both.ensures.value c.in_ok-lower.ensures.value
