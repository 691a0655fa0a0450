use Rattle.std.proofs.Common.{map}
use Rattle.sg_poly.proofs.Dividers.{monic_some}
use Rattle.sg_ratfun.proofs.Steps.{difference_makes}
use Rattle.sg_ratfun.proofs.parts.difference.Goals as goal

pub split-requires : goal.split-requires
split-requires g c = monic_some (map g.F.Field.val c.args.e.now) c.requires.right.monic

pub split-requires-2 : goal.split-requires-2
split-requires-2 g c = monic_some (map g.F.Field.val c.in_ok-s.s.common) c.in_ok-s.ensures.monic

pub returns-clause-value : goal.returns-clause-value
returns-clause-value g c =
    let v = g.F.Field.val in
    (difference_makes (map v c.args.a.now) (map v c.args.b.now) (map v c.args.c.now) (map v c.args.e.now) (map v c.in_ok-s.s.left) (map v c.in_ok-s.s.right) (map v c.in_ok-s.s.common) (map v c.in_ok-n.n) (map v c.in_ok-t.t.left) (map v c.in_ok-t.t.right) (map v c.in_ok-t.t.common) (map v c.in_ok-den.den)
    c.requires.left c.requires.right c.in_ok-s.ensures.left c.in_ok-s.ensures.right c.in_ok-s.ensures.coprime c.in_ok-s.ensures.monic
    c.in_ok-t.ensures.left c.in_ok-t.ensures.right c.in_ok-t.ensures.coprime c.in_ok-t.ensures.monic c.in_ok-den.ensures.value c.in_ok-n.ensures.value).value

pub returns-clause-reduced : goal.returns-clause-reduced
returns-clause-reduced g c =
    let v = g.F.Field.val in
    (difference_makes (map v c.args.a.now) (map v c.args.b.now) (map v c.args.c.now) (map v c.args.e.now) (map v c.in_ok-s.s.left) (map v c.in_ok-s.s.right) (map v c.in_ok-s.s.common) (map v c.in_ok-n.n) (map v c.in_ok-t.t.left) (map v c.in_ok-t.t.right) (map v c.in_ok-t.t.common) (map v c.in_ok-den.den)
    c.requires.left c.requires.right c.in_ok-s.ensures.left c.in_ok-s.ensures.right c.in_ok-s.ensures.coprime c.in_ok-s.ensures.monic
    c.in_ok-t.ensures.left c.in_ok-t.ensures.right c.in_ok-t.ensures.coprime c.in_ok-t.ensures.monic c.in_ok-den.ensures.value c.in_ok-n.ensures.value).reduced
