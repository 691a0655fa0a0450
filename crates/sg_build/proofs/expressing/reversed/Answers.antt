use Rattle.std.proofs.Common.{◌≡◌, map, reverse, take, ap, ◌∙◌, arith}
use Rattle.std.proofs.lemmas.Grind.{common_steps}
use Rattle.sg_expr.specs.Tree.{tree_of}
use Rattle.sg_build.proofs.ExpressedValues.{map-reverse}
use Rattle.sg_build.proofs.expressing.reversed.Goals as goal

pub returns : goal.returns
returns c =
    let full : take c.loop-t.t-index c.args.list.now ≡ c.args.list.now = grind (arith, common_steps) in
    ap (map tree_of) c.reverse.ensures ∙ map-reverse tree_of c.loop-t.row ∙ ap reverse (c.loop-t.invariant ∙ ap (map tree_of) full)
