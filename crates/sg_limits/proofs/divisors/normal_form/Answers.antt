use Rattle.sg_spec.specs.Parts.{coefficients, numer}
use Rattle.sg_expr.specs.Tree.{tree_of}
use Rattle.sg_parts.proofs.NormalForms.{normal_same}
use Rattle.sg_limits.proofs.Walking.{bare_naturals}
use Rattle.sg_limits.proofs.divisors.normal_form.Goals as goal

pub numerator_of-requires-clause-naturals : goal.numerator_of-requires-clause-naturals
numerator_of-requires-clause-naturals c = bare_naturals (tree_of c.args.e.now) c.requires.bare

pub returns-clause-normal : goal.returns-clause-normal
returns-clause-normal c =
    normal_same c.in_ok-plane.plane c.in_ok-rows.rows (coefficients (numer (tree_of c.args.e.now))) c.in_ok-poly.poly
    c.in_ok-plane.ensures.plane c.in_ok-poly.ensures.value (rw c.as_slice.ensures at c.in_ok-rows.ensures)
