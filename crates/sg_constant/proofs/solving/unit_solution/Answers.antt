use Rattle.std.proofs.Common.{◌∙◌, map}
use Rattle.sg_algebra.proofs.Lists.{length_map}
use Rattle.sg_constant.proofs.Solved.{pairs_one}
use Rattle.sg_constant.proofs.solving.unit_solution.Goals as goal

pub returns-clause-one : goal.returns-clause-one
returns-clause-one g c e =
    let v = g.F.Field.val in
    record {
      zeros = map v c.in_ok-coeffs.coeffs;
      size = length_map v c.in_ok-coeffs.coeffs ∙ c.in_ok-coeffs.ensures.size;
      nothing = c.in_ok-coeffs.ensures.zeros;
      is = pairs_one v c.new-list.result c.push.new.self (record { coeffs = c.in_ok-coeffs.coeffs; value = c.in_ok-value.value }) c.new-list.ensures c.in_ok-push.ensures.ok c.in_ok-value.ensures.value;
    }
