use Rattle.std.proofs.Common.{ap, ◌∙◌}
use Rattle.sg_algebra.proofs.Embedding.{constant_value}
use Rattle.sg_ratfun.specs.Fractions.{ratio}
use Rattle.sg_products.proofs.Calls.{multiple_call}
use Rattle.sg_bottom.proofs.bottom.BottomTower.scale.Goals as goal

pub returns-clause-value : goal.returns-clause-value
returns-clause-value g c = multiple_call g.F.Field.val c.args.self.now.alphas c.len.result c.len.ensures (g.F.Field.val c.args.c.now) (ratio g.F.Field.val c.in_ok-k.k) c.args.e.now c.in_ok-r.r
    (c.in_ok-k.ensures.value ∙ ap (constant_value g.F.Field.vars) c.in_ok-copy.ensures.value) c.in_ok-r.ensures.value
