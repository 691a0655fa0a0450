-- Whether an expression telescopes another.
--   TelescopesFrom s g f     g(k + 1) - g(k) is f(k) at every place k from s on
--   FailsBeyond g f          beyond every point it fails somewhere
use Rattle.std.specs.Prelude.{ℤ, ◌≤ℤ◌}
use Rattle.sg_spec.specs.Tree.{Tree}
use Rattle.sg_spec.specs.Telescoping.{Steps, Failing}

abbrev pub TelescopesFrom : ℤ → Tree → Tree → Type 0
TelescopesFrom s g f = (k : ℤ) → s ≤ℤ k → Steps g f k

abbrev pub FailsBeyond : Tree → Tree → Type 0
FailsBeyond g f = (K : ℤ) → Failing g f K
