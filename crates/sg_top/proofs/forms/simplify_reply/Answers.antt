use Rattle.std.proofs.Common.{FitsSigned, map}
use Rattle.std.specs.Int.{w64}
use Rattle.std.proofs.lemmas.Int.{to_z-of_z}
use Rattle.sg_expr.specs.Tree.{tree_of}
use Rattle.sg_top.proofs.Simplifying.{taken-simplified, test-simplified}
use Rattle.sg_top.proofs.forms.simplify_reply.Goals as goal

pub returns-in_ok-reply-in-Ok : goal.returns-in_ok-reply-in-Ok
returns-in_ok-reply-in-Ok c =
    let fits : FitsSigned w64 c.args.a = c.ranges.a in
    let facts = simp to_z-of_z at (rw c.in-Ok.is at c.in_ok-facts.ensures) in
    taken-simplified c.args.a (map tree_of c.args.items.now) c.in_ok-reply-in-Ok.reply.status c.in_ok-reply-in-Ok.reply.text.items facts.plain (simp to_z-of_z at c.in_ok-reply-in-Ok.ensures)

pub returns-in-Err : goal.returns-in-Err
returns-in-Err c =
    let fits : FitsSigned w64 c.args.a = c.ranges.a in
    test-simplified c.args.a (map tree_of c.args.items.now) c.in-Err.reply.status c.in-Err.reply.text.items (simp to_z-of_z at (rw c.in-Err.is at c.in_ok-facts.ensures))
