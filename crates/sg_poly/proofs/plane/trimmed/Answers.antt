use Rattle.std.proofs.Common.{◌≡◌}
use Rattle.sg_poly.proofs.Planar.{front_same, front_ends}
use Rattle.sg_poly.proofs.plane.trimmed.Goals as goal

pub returns-clause-value : goal.returns-clause-value
returns-clause-value c =
    rw c.in_ok-row.ensures (record {
      same = front_same c.args.list.now c.length_of.result c.length_of.ensures.within c.length_of.ensures.zeros;
      ends = front_ends c.args.list.now c.length_of.result c.length_of.ensures.within c.length_of.ensures.last;
    })
