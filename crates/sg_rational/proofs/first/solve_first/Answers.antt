use Rattle.std.proofs.Common.{◌∙◌, ap}
use Rattle.sg_algebra.proofs.Embedding.{constant_value, constant_value-nat}
use Rattle.sg_rational.proofs.first.solve_first.Goals as goal

pub solve_constant-requires : goal.solve_constant-requires
solve_constant-requires g c = λ z. c.requires ((rw c.in-Some.is at c.in_ok-c.ensures.some) ∙ ap (constant_value g.F.Field.vars) z ∙ constant_value-nat g.F.Field.vars 0)
