use Rattle.std.proofs.Common.{◌≡◌, [], ℕ, List, map, arith, rules, subst, inr}
use Rattle.sg_io.specs.Bytes.{Appends}
use Rattle.sg_lines.specs.Lines.{lines_of, words_in}
use Rattle.sg_top.specs.Answer.{Tells, IsFrontOf}
use Rattle.sg_top.proofs.Batching.{Answered, answered-none, answered-more, answered-all, answered-memory, answered-fault, on-err, on-ok, rises}
use Rattle.sg_top.proofs.batch.answer_lines.Goals as goal

pub loop-line-init : goal.loop-line-init
loop-line-init g c = record { answered = answered-none _ _; count = omega arith }

pub loop-line-preserved : goal.loop-line-preserved
loop-line-preserved g c =
    let Left : List (List ℕ) → Type 0 = λ ls. Answered (map words_in (lines_of c.args.text.now)) (map words_in ls) (g.K.Sink.contents c.args.sink.now) (g.K.Sink.contents c.loop-line.sink) in
    let appended : Appends (g.K.Sink.contents c.loop-line.sink) (g.K.Sink.contents c.send.new.sink) c.as_slice.result.now = on-ok _ _ c.is_err.result c.send.ensures.ok c.is_err.ensures.value c.if-is_err.false in
    record {
      answered = answered-more _ _ (words_in c.in-Some.line.now) _ _ _ c.in-Ok.reply.status c.in-Ok.reply.text.items (subst Left c.in-Some.ensures.line c.loop-line.invariant.answered) c.in-Ok.ensures
          (subst (Appends (g.K.Sink.contents c.loop-line.sink) (g.K.Sink.contents c.send.new.sink)) c.as_slice.ensures.value appended);
      count = omega (arith, c.loop-line.invariant.count, c.send.ensures.count);
    }

pub returns-then-is_err : goal.returns-then-is_err
returns-then-is_err g c =
    let Left : List (List ℕ) → Type 0 = λ ls. Answered (map words_in (lines_of c.args.text.now)) (map words_in ls) (g.K.Sink.contents c.args.sink.now) (g.K.Sink.contents c.loop-line.sink) in
    let Front : List ℕ → Type 0 = λ text. Tells (IsFrontOf (λ whole. whole ≡ text)) (g.K.Sink.contents c.loop-line.sink) (g.K.Sink.contents c.send.new.sink) in
    answered-fault _ _ (words_in c.in-Some.line.now) _ _ _ c.in-Ok.reply.status c.in-Ok.reply.text.items _ _ (subst Left c.in-Some.ensures.line c.loop-line.invariant.answered) c.in-Ok.ensures
    (subst Front c.as_slice.ensures.value (on-err _ _ c.is_err.result c.send.ensures.part c.is_err.ensures.value c.if-is_err.true))
    (rises _ _ _ c.loop-line.invariant.count (on-err _ _ c.is_err.result c.send.ensures.cause c.is_err.ensures.value c.if-is_err.true))

pub returns-in-Err : goal.returns-in-Err
returns-in-Err g c =
    let Left : List (List ℕ) → Type 0 = λ ls. Answered (map words_in (lines_of c.args.text.now)) (map words_in ls) (g.K.Sink.contents c.args.sink.now) (g.K.Sink.contents c.loop-line.sink) in
    answered-memory _ _ (words_in c.in-Some.line.now) _ _ _ c.deliver.result _ _ _ (subst Left c.in-Some.ensures.line c.loop-line.invariant.answered) (rises _ _ _ c.loop-line.invariant.count) c.deliver.ensures

pub returns : goal.returns
returns g c =
    let Left : List ℕ → Type 0 =
    λ bytes. Answered (map words_in (lines_of c.args.text.now)) (map words_in (lines_of bytes)) (g.K.Sink.contents c.args.sink.now) (g.K.Sink.contents c.loop-line.sink) in
    let none : c.loop-line.rest.now ≡ [] = search rules in
    inr (answered-all _ _ _ (subst Left none c.loop-line.invariant.answered))
