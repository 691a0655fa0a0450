use Rattle.std.proofs.Common.{◌-◌, max, length, ap, ap₂, ◌∙◌}
use Rattle.sg_rational.proofs.Degrees.{top_some}
use Rattle.sg_rational.proofs.degree.last_place.Goals as goal

pub returns-clause-some : goal.returns-clause-some
returns-clause-some g c = top_some g.F.Field.val c.args.a.now c.args.b.now (c.max.result - 1) c.coeffs-p.ensures.ends c.coeffs-q.ensures.ends c.requires
    (ap (λ n. n - 1) (c.max.ensures ∙ ap₂ (λ p q. max (length p) (length q)) c.coeffs-p.ensures.value c.coeffs-q.ensures.value))
