use Rattle.std.proofs.Common.{map}
use Rattle.sg_poly.specs.Polynomials.{polynomial}
use Rattle.sg_rational.proofs.Taking.{reduction_start, all_apart}
use Rattle.sg_rational.proofs.dispersion.reduced.Goals as goal

pub returns-clause-value : goal.returns-clause-value
returns-clause-value g c =
    let v = g.F.Field.val in
    c.in_ok-r.ensures.value.reduction (polynomial v c.args.a) (polynomial v c.args.b) (reduction_start (polynomial v c.args.a) (polynomial v c.args.b) (polynomial v c.in_ok-lower.lower) (polynomial v c.in_ok-factor.factor) c.in_ok-lower.ensures.value c.in_ok-factor.ensures.value)

pub returns-clause-apart : goal.returns-clause-apart
returns-clause-apart g c =
    let v = g.F.Field.val in
    all_apart c.in_ok-shifts.shifts (map v c.args.a) (map v c.args.b) (polynomial v c.in_ok-lower.lower) (polynomial v c.in_ok-factor.factor) (polynomial v c.in_ok-r.r.a) (polynomial v c.in_ok-r.r.b) (polynomial v c.in_ok-r.r.lower) (polynomial v c.in_ok-r.r.factor)
    c.requires.left c.in_ok-shifts.ensures.shifts c.in_ok-r.ensures.value (rw c.as_slice.ensures at c.in_ok-r.ensures.apart)
