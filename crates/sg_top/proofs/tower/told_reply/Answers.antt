use Rattle.std.proofs.Common.{FitsSigned, negsuc, arith, map, refl, inl, ◌∙◌, rules}
use Rattle.std.specs.Int.{w64}
use Rattle.std.proofs.lemmas.Int.{ints, to_z-of_z}
use Rattle.std.proofs.lemmas.List.{length-map}
use Rattle.sg_expr.specs.Tree.{tree_of}
use Rattle.sg_depth.proofs.Inspected.{sums_form}
use Rattle.sg_top.proofs.Telling.{empty-told, sums-told, told-count, some-sums, none-sums}
use Rattle.sg_top.proofs.Replies.{admitted}
use Rattle.sg_top.proofs.tower.told_reply.Goals as goal

pub told_text-requires-clause-sums : goal.told_text-requires-clause-sums
told_text-requires-clause-sums c = rw c.requires.tested.facts_are.sums_are (sums_form (map tree_of c.args.items.now) c.requires.form)

pub told_text-requires-clause-count : goal.told_text-requires-clause-count
told_text-requires-clause-count c = told-count _ _ c.args.facts.now.sums c.in-Ok.told c.requires.tested.facts_are.sums_are c.in-Ok.ensures.told

pub returns-then-is_empty : goal.returns-then-is_empty
returns-then-is_empty c =
    empty-told (map tree_of c.args.items.now) c.in_ok-reply.reply.status c.in_ok-reply.reply.text.items (length-map c.args.items.now tree_of ∙ c.requires.one)
    (none-sums c.args.facts.now.sums _ c.is_empty.result c.is_empty.ensures c.if-is_empty.true c.requires.tested.facts_are.sums_are) c.in_ok-reply.ensures.status c.in_ok-reply.ensures.text

pub returns-in_ok-text-in-Ok : goal.returns-in_ok-text-in-Ok
returns-in_ok-text-in-Ok c =
    let fits : FitsSigned w64 c.args.facts.now.start = search rules in
    rw c.done.ensures
    (sums-told (map tree_of c.args.items.now) c.args.facts.now.sums c.in-Ok.told c.args.facts.now.start _ _ (length-map c.args.items.now tree_of ∙ c.requires.one) c.requires.tested.facts_are.sums_are
    (some-sums c.args.facts.now.sums _ c.is_empty.result c.is_empty.ensures c.if-is_empty.false c.requires.tested.facts_are.sums_are) c.requires.tested.facts_are.start_is c.in-Ok.ensures.told
    c.in_ok-text-in-Ok.ensures.read_back refl (simp to_z-of_z at c.in_ok-text-in-Ok.ensures.text))

pub returns-in_ok-reply-in-Err : goal.returns-in_ok-reply-in-Err
returns-in_ok-reply-in-Err c =
    inl (
      c.in_ok-reply-in-Err.ensures.line,
      some-sums c.args.facts.now.sums _ c.is_empty.result c.is_empty.ensures c.if-is_empty.false c.requires.tested.facts_are.sums_are,
    )

pub standings-requires : goal.standings-requires
standings-requires c = record {
  admitted = admitted (negsuc 1000) c.args.facts.now (map tree_of c.args.items.now) c.requires.form c.requires.kept (omega (arith, ints)) (omega (arith, ints)) c.requires.tested;
}
