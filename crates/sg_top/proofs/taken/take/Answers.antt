use Rattle.std.proofs.Common.{◌∷◌, map, arith}
use Rattle.std.proofs.lemmas.List.{length-map}
use Rattle.sg_expr.specs.Tree.{tree_of}
use Rattle.sg_top.proofs.Texts.{read-length}
use Rattle.sg_top.proofs.taken.take.Goals as goal

pub inspect-requires-clause-few : goal.inspect-requires-clause-few
inspect-requires-clause-few c =
    let read = rw c.in-Items.is at c.in_ok-line.ensures in
    let same = read-length c.args.command 1 (c.args.first.now ∷ c.args.others.now) (map tree_of c.in-Items.items) read in
    let left = length-map c.in-Items.items tree_of in
    let few = c.requires in
    omega arith
