use Rattle.std.proofs.Common.{◌≡◌, ◌-◌}
use Rattle.sg_expr.specs.Tree.{tree_of}
use Rattle.sg_gen.specs.Sample.{with_terms, sampled}
use Rattle.sg_gen.proofs.samples.sample.Given as goal

abbrev pub invariant-loop : goal.invariant-loop
invariant-loop l = with_terms (l.more - l.counter) l.draws.state (tree_of l.all) ≡ sampled l.fn.seed l.fn.i
