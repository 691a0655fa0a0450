use Rattle.std.proofs.Common.{map, inl}
use Rattle.sg_expr.specs.Tree.{tree_of}
use Rattle.sg_depth.proofs.Inspected.{sums_form}
use Rattle.sg_top.proofs.Parted.{no_prods_form}
use Rattle.sg_top.proofs.Replies.{wide-reply}
use Rattle.sg_top.proofs.sums.nested_reply.Goals as goal

pub none_reply-requires-clause-products : goal.none_reply-requires-clause-products
none_reply-requires-clause-products c = rw c.requires.admitted.facts_are.prods_are (no_prods_form (map tree_of c.args.items.now) c.requires.admitted.plain)

pub none_reply-requires-clause-sums : goal.none_reply-requires-clause-sums
none_reply-requires-clause-sums c = rw c.requires.admitted.facts_are.sums_are (sums_form (map tree_of c.args.items.now) c.requires.admitted.within.form)

pub returns-in_ok-reply-in-Err : goal.returns-in_ok-reply-in-Err
returns-in_ok-reply-in-Err c =
    wide-reply c.args.a (map tree_of c.args.items.now) c.in_ok-reply-in-Err.reply.status c.in_ok-reply-in-Err.reply.text.items (inl c.requires.admitted.spared) c.in_ok-reply-in-Err.ensures.line
    c.requires.not_narrow
