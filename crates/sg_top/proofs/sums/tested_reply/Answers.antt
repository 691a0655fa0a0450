use Rattle.std.proofs.Common.{map, FitsSigned}
use Rattle.std.specs.Int.{w64}
use Rattle.std.proofs.lemmas.Int.{to_z-of_z}
use Rattle.sg_expr.specs.Tree.{tree_of}
use Rattle.sg_top.proofs.Parted.{all_known}
use Rattle.sg_top.proofs.Replies.{lower, later-reply, taken-reply, pole-taken}
use Rattle.sg_top.proofs.sums.tested_reply.Goals as goal

pub inspect-requires-clause-form : goal.inspect-requires-clause-form
inspect-requires-clause-form c = all_known (map tree_of c.args.items.now) c.requires.form

pub nested_reply-requires-clause-admitted : goal.nested_reply-requires-clause-admitted
nested_reply-requires-clause-admitted c =
    let fits : FitsSigned w64 c.args.a = c.ranges.a in
    simp to_z-of_z (record {
      within = record { form = c.requires.form; kept = c.requires.kept; low = lower c.args.a c.requires.low; high = c.requires.high };
      plain = rw c.as_slice.ensures at c.in-None.ensures;
      spared = simp to_z-of_z at c.in-Ok.ensures.spared;
      facts_are = simp to_z-of_z at c.in-Ok.ensures.facts;
    })

pub returns-in_ok-line-in-Some : goal.returns-in_ok-line-in-Some
returns-in_ok-line-in-Some c =
    rw c.refused.ensures (later-reply c.args.a (map tree_of c.args.items.now) c.in-Some.item c.in_ok-line-in-Some.line.items (rw c.as_slice.ensures at c.in-Some.ensures) c.in_ok-line-in-Some.ensures)

pub returns-in_ok-reply-in-Ok : goal.returns-in_ok-reply-in-Ok
returns-in_ok-reply-in-Ok c =
    let fits : FitsSigned w64 c.args.a = c.ranges.a in
    taken-reply c.args.a (map tree_of c.args.items.now) c.in_ok-reply-in-Ok.reply.status c.in_ok-reply-in-Ok.reply.text.items (rw c.as_slice.ensures at c.in-None.ensures)
    (simp to_z-of_z at c.in_ok-reply-in-Ok.ensures)

pub returns-in_ok-reply-in-Err : goal.returns-in_ok-reply-in-Err
returns-in_ok-reply-in-Err c =
    let fits : FitsSigned w64 c.args.a = c.ranges.a in
    let reply = c.in_ok-reply-in-Err.ensures c.args.a (map tree_of c.args.items.now) (c.requires.kept, simp to_z-of_z at c.in-Err.ensures.fault) in
    taken-reply c.args.a (map tree_of c.args.items.now) c.in_ok-reply-in-Err.reply.status c.in_ok-reply-in-Err.reply.text.items (rw c.as_slice.ensures at c.in-None.ensures)
    (pole-taken c.args.a (map tree_of c.args.items.now) c.in_ok-reply-in-Err.reply.status c.in_ok-reply-in-Err.reply.text.items c.requires.not_narrow reply)
