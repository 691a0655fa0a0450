use Rattle.std.proofs.Common.{◌≡◌, map, pos, arith, ◌∙◌, ap, to_z}
use Rattle.std.specs.Int.{w128}
use Rattle.std.proofs.lemmas.Int.{ints}
use Rattle.sg_algebra.proofs.Rational.{whole_value}
use Rattle.sg_algebra.proofs.Shift.{moved}
use Rattle.sg_algebra.proofs.ValueField.{ValueR}
use Rattle.sg_algebra.proofs.Polynomial.{poly}
use Rattle.sg_first_order_theory.proofs.Next.{moved-iter_next}
use Rattle.sg_rational.proofs.dispersion.ahead.Goals as goal

pub returns-clause-value : goal.returns-clause-value
returns-clause-value g c =
    let e : to_z w128 c.args.n ≡ pos c.args.n = omega (arith, ints) in
    c.in_ok-r.ensures.value ∙ ap (λ x. poly (moved (ValueR g.F.Field.vars) (whole_value g.F.Field.vars x) (map g.F.Field.val c.args.p.now))) e ∙ moved-iter_next c.args.n (map g.F.Field.val c.args.p.now)
