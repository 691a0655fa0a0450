use Rattle.std.proofs.Common.{FitsSigned, [], ◌∷◌, rules}
use Rattle.std.specs.Int.{w64}
use Rattle.std.proofs.lemmas.Int.{to_z-of_z}
use Rattle.sg_expr.specs.Tree.{tree_of}
use Rattle.sg_top.proofs.Items.{lone}
use Rattle.sg_top.proofs.Parted.{polynomial_rational, polynomial_spared}
use Rattle.sg_top.proofs.Replies.{closed-reply, taken-reply, not-lone}
use Rattle.sg_top.proofs.sums.plain_reply.Goals as goal

pub returns-then-len-ne1 : goal.returns-then-len-ne1
returns-then-len-ne1 c = not-lone c.args.a c.args.items.now (search rules)

pub returns-in_ok-reply-in-Some : goal.returns-in_ok-reply-in-Some
returns-in_ok-reply-in-Some c =
    let fits : FitsSigned w64 c.args.a = c.ranges.a in
    let f = tree_of c.get-f.result.now in
    let plain = rw c.in-Some.is at c.in_ok-closed.ensures.plain in
    let closed = rw c.in-Some.is at c.in_ok-closed.ensures.closed in
    let canonical = rw c.in-Some.is at c.in_ok-closed.ensures.canonical in
    rw (lone c.args.items.now c.get-f.result.now (search rules) c.get-f.ensures)
    (taken-reply c.args.a (f ∷ []) c.in_ok-reply-in-Some.reply.status c.in_ok-reply-in-Some.reply.text.items ((polynomial_rational f plain.0.0).1, tt)
    (closed-reply c.args.a f (tree_of c.in-Some.h) c.in_ok-reply-in-Some.reply.status c.in_ok-reply-in-Some.reply.text.items (polynomial_rational f plain.0.0)
    (polynomial_spared c.args.a f plain.0.0) (simp to_z-of_z at closed) canonical c.in_ok-reply-in-Some.ensures.reads_back c.in_ok-reply-in-Some.ensures.status
    (simp to_z-of_z at c.in_ok-reply-in-Some.ensures.text)))

pub returns-in-None : goal.returns-in-None
returns-in-None c =
    let fits : FitsSigned w64 c.args.a = c.ranges.a in
    let none = rw c.in-None.is at c.in_ok-closed.ensures.plain in
    rw (lone c.args.items.now c.get-f.result.now (search rules) c.get-f.ensures) (simp to_z-of_z at none)
