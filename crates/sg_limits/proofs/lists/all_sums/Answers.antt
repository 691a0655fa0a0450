use Rattle.std.proofs.Common.{◌∙◌, sym, ap, map, drop, ◌+◌}
use Rattle.sg_spec.specs.Generators.{with_new, concatenated, all_sums}
use Rattle.sg_expr.specs.Tree.{tree_of}
use Rattle.sg_limits.proofs.Stepping.{joined-more, joined-all}
use Rattle.sg_limits.proofs.lists.all_sums.Goals as goal

pub loop-e-preserved : goal.loop-e-preserved
loop-e-preserved c =
    ap (λ ts. with_new ts (concatenated all_sums (map tree_of (drop (c.loop-e.e-index + 1) c.args.items.now)))) c.in_ok-list.ensures
    ∙ sym (joined-more all_sums (map tree_of c.loop-e.list) c.args.items.now c.loop-e.e-index c.e-item.result c.loop-e-test.true c.e-item.is)
    ∙ c.loop-e.invariant

pub returns : goal.returns
returns c = sym (joined-all all_sums (map tree_of c.loop-e.list) c.args.items.now c.loop-e.e-index c.loop-e-test.false) ∙ c.loop-e.invariant
