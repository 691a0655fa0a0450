use Rattle.std.proofs.Common.{ap, ◌∙◌, min, ◌*◌}
use Rattle.sg_spec.specs.Limits.{degrees}
use Rattle.sg_expr.specs.Tree.{tree_of}
use Rattle.sg_limits.proofs.Capping.{min-times}
use Rattle.sg_limits.proofs.degrees.+degrees_of.Goals as goal

pub returns-in-Pow : goal.returns-in-Pow
returns-in-Pow t c =
    let part = rw c.deref-in-Pow.ensures at c.degrees_of-in-Pow.ensures in
    let d = degrees (tree_of c.in-Pow.a.value) in
    rw c.in-Pow.is (
      c.times.ensures.variable ∙ ap (λ n. min (n * c.in-Pow.e) 65) part.0 ∙ min-times d.variable c.in-Pow.e,
      c.times.ensures.parameter ∙ ap (λ n. min (n * c.in-Pow.e) 65) part.1 ∙ min-times d.parameter c.in-Pow.e,
      c.times.ensures.generators ∙ ap (λ n. min (n * c.in-Pow.e) 65) part.2 ∙ min-times d.generators c.in-Pow.e,
    )
