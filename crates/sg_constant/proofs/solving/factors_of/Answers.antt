use Rattle.sg_constant.proofs.Solved.{factors_inverse, factors_minus}
use Rattle.sg_constant.proofs.solving.factors_of.Goals as goal

pub returns-clause-value : goal.returns-clause-value
returns-clause-value g c =
    let v = g.F.Field.val in
    record {
      same = c.in_ok-copy.ensures.value;
      inverse = factors_inverse v (v c.args.a.now) (v c.in_ok-copy.copy) (v c.in_ok-inverse.inverse) (v c.in_ok-unit.unit) c.requires c.in_ok-copy.ensures.value c.in_ok-inverse.ensures.value c.in_ok-unit.ensures.value;
      minus = factors_minus v (v c.in_ok-minus.minus) (v c.in_ok-zero.zero) (v c.in_ok-unit.unit) c.in_ok-minus.ensures.value c.in_ok-zero.ensures.value c.in_ok-unit.ensures.value;
    }
