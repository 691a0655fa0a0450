use Rattle.std.proofs.Common.{FitsSigned, inl, inr}
use Rattle.std.specs.Int.{w64}
use Rattle.std.proofs.lemmas.Int.{to_z-of_z}
use Rattle.sg_expr.specs.Tree.{tree_of}
use Rattle.sg_top.proofs.Replies.{value-line}
use Rattle.sg_top.proofs.values.value_reply.Goals as goal

pub returns-in_ok-reply-in-Ok : goal.returns-in_ok-reply-in-Ok
returns-in_ok-reply-in-Ok c =
    let fits_n : FitsSigned w64 c.args.n = c.ranges.n in
    let fits_k : FitsSigned w64 c.args.k = c.ranges.k in
    inr (value-line (tree_of c.args.e.now) c.args.n c.args.k c.in-Ok.value c.in_ok-reply-in-Ok.reply.status c.in_ok-reply-in-Ok.reply.text.items (simp to_z-of_z at c.in-Ok.ensures.value)
    c.in_ok-reply-in-Ok.ensures)

pub returns-in_ok-reply-in-Err : goal.returns-in_ok-reply-in-Err
returns-in_ok-reply-in-Err c =
    let fits_n : FitsSigned w64 c.args.n = c.ranges.n in
    let fits_k : FitsSigned w64 c.args.k = c.ranges.k in
    inl (c.in_ok-reply-in-Err.ensures.status, record { step = c.in-Err.wide; first = simp to_z-of_z at c.in-Err.ensures.wide; is = c.in_ok-reply-in-Err.ensures.text })
