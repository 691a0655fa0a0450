use Rattle.std.proofs.Common.{sym, length, map}
use Rattle.std.proofs.lemmas.List.{length-map}
use Rattle.sg_expr.specs.Tree.{tree_of}
use Rattle.sg_build.proofs.PlacedParts.{item-right}
use Rattle.sg_build.proofs.placing.known_sum.Goals as goal

pub returns : goal.returns
returns g c =
    item-right (map tree_of c.args.prods.now) (map tree_of c.args.sums.now) c.args.known.now (length c.args.prods.now) (tree_of c.args.e.now) c.item_of.result.now
    (sym (length-map c.args.prods.now tree_of)) c.item_of.ensures
