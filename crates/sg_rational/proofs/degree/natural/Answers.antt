use Rattle.std.proofs.Common.{◌≡◌, ◌∙◌, sym, rules, FitsSigned, pos, to_z, of_z}
use Rattle.std.specs.Int.{w128}
use Rattle.std.proofs.lemmas.Int.{to_z-of_z}
use Rattle.sg_num.specs.Value.{fraction}
use Rattle.sg_rational.proofs.Degrees.{rational_natural, no}
use Rattle.sg_rational.proofs.degree.natural.Goals as goal

pub returns-then-same-clause-some : goal.returns-then-same-clause-some
returns-then-same-clause-some g c = c.in_ok-same.ensures.value.0 c.if-same.true ∙ c.in_ok-from_rat.ensures.value
    ∙ rational_natural g.F.Field.vars (to_z w128 (of_z w128 c.in_ok-c.c)) c.count.result (fraction c.whole.result) c.whole.ensures.value c.count.ensures

pub returns-else-same-clause-none : goal.returns-else-same-clause-none
returns-else-same-clause-none g c n e =
    let fits : FitsSigned w128 c.in_ok-c.c = search rules in
    let k : to_z w128 (of_z w128 c.in_ok-c.c) ≡ pos n = to_z-of_z w128 c.in_ok-c.c fits ∙ c.in_ok-c.ensures.value n e in
    no c.in_ok-same.same c.if-same.false (c.in_ok-same.ensures.value.1 (e ∙ sym (c.in_ok-from_rat.ensures.value
    ∙ rational_natural g.F.Field.vars (to_z w128 (of_z w128 c.in_ok-c.c)) n (fraction c.whole.result) c.whole.ensures.value k)))
