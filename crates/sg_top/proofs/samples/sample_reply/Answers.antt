use Rattle.std.proofs.Common.{◌≡◌, ◌∷◌, [], List, length, pos, map, inr, subst, sym, arith}
use Rattle.sg_expr.specs.Tree.{tree_of}
use Rattle.sg_spec.specs.Tree.{Tree}
use Rattle.sg_gen.specs.Sample.{sampled}
use Rattle.sg_gen.proofs.Forms.{sampled-form}
use Rattle.sg_words.specs.declared.asked.Command.TheVariants.{Sum}
use Rattle.sg_top.specs.Answer.{IsTreeReply}
use Rattle.sg_top.specs.Taking.{AreInForm}
use Rattle.sg_top.proofs.Sampling.{one-sample, lone-sample}
use Rattle.sg_top.proofs.samples.sample_reply.Goals as goal

pub output-requires-clause-texts : goal.output-requires-clause-texts
output-requires-clause-texts c =
    let alone : length c.push.new.self ≡ 1 = one-sample c.push.new.self c.new-items.result c.in_ok-sample.field-0 c.new-items.ensures c.in_ok-push.ensures.ok in
    (omega arith, omega arith)

pub output-requires-clause-form : goal.output-requires-clause-form
output-requires-clause-form c =
    let alone : map tree_of c.push.new.self ≡ sampled c.args.seed c.args.i ∷ [] =
    lone-sample c.push.new.self c.new-items.result c.in_ok-sample.field-0 c.args.seed c.args.i c.new-items.ensures c.in_ok-push.ensures.ok c.in_ok-sample.ensures in
    subst (AreInForm (Sum (pos 1))) (sym alone) (sampled-form c.args.seed c.args.i, tt)

pub returns-in-Ok : goal.returns-in-Ok
returns-in-Ok c =
    let alone : map tree_of c.push.new.self ≡ sampled c.args.seed c.args.i ∷ [] =
    lone-sample c.push.new.self c.new-items.result c.in_ok-sample.field-0 c.args.seed c.args.i c.new-items.ensures c.in_ok-push.ensures.ok c.in_ok-sample.ensures in
    subst (λ (es : List Tree). IsTreeReply (Sum (pos 1)) es c.in_ok-reply-in-Ok.reply.status c.in_ok-reply-in-Ok.reply.text.items) alone (inr (c.in-Ok.ensures.kept, c.in_ok-reply-in-Ok.ensures))
