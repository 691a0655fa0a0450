use Rattle.std.proofs.lemmas.List.{map-append}
use Rattle.sg_expr.proofs.Joining.{has_tree_map}
use Rattle.sg_expr.proofs.tree.Expr.join.Goals as goal

pub returns-then-stands_in : goal.returns-then-stands_in
returns-then-stands_in c = rw (has_tree_map, ← c.stands_in.ensures, c.if-stands_in.true)

pub returns : goal.returns
returns c = rw (has_tree_map, ← c.stands_in.ensures, c.if-stands_in.false, c.in_ok-push.ensures.ok, map-append, c.in_ok-copy.ensures)
