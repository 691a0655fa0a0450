use Rattle.std.proofs.Common.{FitsSigned, w64}
use Rattle.std.proofs.lemmas.Int.{to_z-of_z}
use Rattle.sg_num.specs.Value.{number}
use Rattle.sg_nested.proofs.Starting.{total-sum}
use Rattle.sg_nested.proofs.total.total.Goals as goal

pub returns-clause-total : goal.returns-clause-total
returns-clause-total g c =
    let fits : FitsSigned w64 c.args.lower = c.ranges.lower in
    record {
      before = number c.in_ok-before.before;
      found = number c.in_ok-found.found;
      is_before = simp to_z-of_z at c.in_ok-before.ensures.value;
      is_found = c.in_ok-found.ensures.value;
      sum_is = total-sum (g.T.Tower.reading 0 number c.args.built.now.tower) c.args.g.now c.in_ok-next.next c.in_ok-y.y (number c.in_ok-c.c) (number c.in_ok-before.before) (number c.in_ok-found.found) c.in_ok-next.ensures.value c.in_ok-y.ensures.sum c.in_ok-c.ensures.value;
    }
