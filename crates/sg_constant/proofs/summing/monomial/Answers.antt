use Rattle.std.proofs.Common.{map, replicate, ◌++◌, ◌∷◌, [], ◌∙◌}
use Rattle.sg_algebra.proofs.Value.{zero_value}
use Rattle.sg_algebra.proofs.Polynomial.{same_poly}
use Rattle.sg_constant.proofs.Summed.{power_top, power_past}
use Rattle.sg_constant.proofs.summing.monomial.Goals as goal

pub returns-clause-top : goal.returns-clause-top
returns-clause-top g c =
    let v = g.F.Field.val in
    same_poly (map v c.in_ok-p.p) (replicate c.args.n zero_value ++ v c.args.c ∷ []) c.in_ok-p.ensures.value c.args.n ∙ power_top c.args.n (v c.args.c)

pub returns-clause-past : goal.returns-clause-past
returns-clause-past g c i l =
    let v = g.F.Field.val in
    same_poly (map v c.in_ok-p.p) (replicate c.args.n zero_value ++ v c.args.c ∷ []) c.in_ok-p.ensures.value i ∙ power_past c.args.n i (v c.args.c) l
