use Rattle.std.proofs.Common.{◌≡◌, FitsSigned, length, rules}
use Rattle.std.specs.Int.{w64}
use Rattle.std.proofs.lemmas.Int.{to_z-of_z}
use Rattle.sg_expr.specs.Tree.{tree_of}
use Rattle.sg_top.proofs.Items.{lone}
use Rattle.sg_top.proofs.Replies.{value-reply, parameter-reply}
use Rattle.sg_top.proofs.Texts.{some-texts, few-texts}
use Rattle.sg_top.proofs.answer.output.Goals as goal

pub get-e-requires : goal.get-e-requires
get-e-requires c = some-texts c.args.command (length c.args.items.now) c.requires.texts

pub sum_reply-requires-clause-some : goal.sum_reply-requires-clause-some
sum_reply-requires-clause-some c = some-texts c.args.command (length c.args.items.now) c.requires.texts

pub sum_reply-requires-clause-few : goal.sum_reply-requires-clause-few
sum_reply-requires-clause-few c = few-texts c.args.command (length c.args.items.now) c.requires.texts

pub sum_reply-requires-clause-form : goal.sum_reply-requires-clause-form
sum_reply-requires-clause-form c = rw c.in-Sum.is at c.requires.form

pub returns-in_ok-reply-in-Sum : goal.returns-in_ok-reply-in-Sum
returns-in_ok-reply-in-Sum c =
    let fits : FitsSigned w64 c.in-Sum.lower = search rules in
    rw c.in-Sum.is (simp to_z-of_z at c.in_ok-reply-in-Sum.ensures)

pub tower_reply-requires-clause-one : goal.tower_reply-requires-clause-one
tower_reply-requires-clause-one c = rw c.in-Tower.is at c.requires.texts

pub tower_reply-requires-clause-form : goal.tower_reply-requires-clause-form
tower_reply-requires-clause-form c = rw c.in-Tower.is at c.requires.form

pub returns-in_ok-reply-in-Tower : goal.returns-in_ok-reply-in-Tower
returns-in_ok-reply-in-Tower c = rw c.in-Tower.is c.in_ok-reply-in-Tower.ensures

pub simplify_reply-requires-clause-one : goal.simplify_reply-requires-clause-one
simplify_reply-requires-clause-one c = rw c.in-Simplify.is at c.requires.texts

pub simplify_reply-requires-clause-form : goal.simplify_reply-requires-clause-form
simplify_reply-requires-clause-form c = rw c.in-Simplify.is at c.requires.form

pub returns-in_ok-reply-in-Simplify : goal.returns-in_ok-reply-in-Simplify
returns-in_ok-reply-in-Simplify c =
    let fits : FitsSigned w64 c.in-Simplify.lower = search rules in
    rw c.in-Simplify.is (simp to_z-of_z at c.in_ok-reply-in-Simplify.ensures)

pub check_reply-requires-clause-two : goal.check_reply-requires-clause-two
check_reply-requires-clause-two c = rw c.in-Check.is at c.requires.texts

pub check_reply-requires-clause-form : goal.check_reply-requires-clause-form
check_reply-requires-clause-form c = rw c.in-Check.is at c.requires.form

pub returns-in_ok-reply-in-Check : goal.returns-in_ok-reply-in-Check
returns-in_ok-reply-in-Check c =
    let fits : FitsSigned w64 c.in-Check.lower = search rules in
    rw c.in-Check.is (simp to_z-of_z at c.in_ok-reply-in-Check.ensures)

pub returns-in_ok-reply-in-Value : goal.returns-in_ok-reply-in-Value
returns-in_ok-reply-in-Value c =
    let fits : FitsSigned w64 c.in-Value.point = search rules in
    let alone : length c.args.items.now ≡ 1 = rw c.in-Value.is at c.requires.texts in
    rw (c.in-Value.is, lone c.args.items.now c.get-e.result.now alone c.get-e.ensures)
    (value-reply c.in-Value.point (tree_of c.get-e.result.now) c.in_ok-reply-in-Value.reply.status c.in_ok-reply-in-Value.reply.text.items (simp to_z-of_z at c.in_ok-reply-in-Value.ensures))

pub returns-in_ok-reply-in-ValueAtParameter : goal.returns-in_ok-reply-in-ValueAtParameter
returns-in_ok-reply-in-ValueAtParameter c =
    let fits_n : FitsSigned w64 c.in-ValueAtParameter.parameter = search rules in
    let fits_k : FitsSigned w64 c.in-ValueAtParameter.point = search rules in
    let alone : length c.args.items.now ≡ 1 = rw c.in-ValueAtParameter.is at c.requires.texts in
    rw (c.in-ValueAtParameter.is, lone c.args.items.now c.get-e.result.now alone c.get-e.ensures)
    (parameter-reply c.in-ValueAtParameter.parameter c.in-ValueAtParameter.point (tree_of c.get-e.result.now) c.in_ok-reply-in-ValueAtParameter.reply.status
    c.in_ok-reply-in-ValueAtParameter.reply.text.items (simp to_z-of_z at c.in_ok-reply-in-ValueAtParameter.ensures))
