use Rattle.std.proofs.Common.{rules}
use Rattle.sg_words.specs.Words.{IsBatchWord}
use Rattle.sg_top.specs.Answer.{Input}
use Rattle.sg_top.proofs.Answering.{batch-answers, fixed-answers, want-answers}
use Rattle.sg_top.proofs.top.answer.Goals as goal

pub returns-then-is_batch-clause-answers : goal.returns-then-is_batch-clause-answers
returns-then-is_batch-clause-answers g c =
    let input : Input = record {
      left = g.S.Source.remaining c.args.source.now;
      left_after = g.S.Source.remaining c.answer_batch.new.source;
      faults = g.S.Source.fault_count c.args.source.now;
      faults_after = g.S.Source.fault_count c.answer_batch.new.source;
    } in
    let asked : IsBatchWord c.args.words.now = search rules in
    batch-answers input c.args.words.now c.answer_batch.result _ _ _ _ asked c.answer_batch.ensures

pub returns-in-Ok-clause-answers : goal.returns-in-Ok-clause-answers
returns-in-Ok-clause-answers g c =
    let input : Input = record {
      left = g.S.Source.remaining c.args.source.now;
      left_after = g.S.Source.remaining c.args.source.now;
      faults = g.S.Source.fault_count c.args.source.now;
      faults_after = g.S.Source.fault_count c.args.source.now;
    } in
    fixed-answers input c.args.words.now c.in-Ok.reply.status c.deliver.result c.in-Ok.reply.text.items _ _ _ _ (c.in-Ok.ensures input) (rw c.as_slice.ensures.value at c.deliver.ensures)

pub returns-in-Err-clause-answers : goal.returns-in-Err-clause-answers
returns-in-Err-clause-answers g c =
    let input : Input = record {
      left = g.S.Source.remaining c.args.source.now;
      left_after = g.S.Source.remaining c.args.source.now;
      faults = g.S.Source.fault_count c.args.source.now;
      faults_after = g.S.Source.fault_count c.args.source.now;
    } in
    want-answers input c.args.words.now c.deliver-in-Err.result _ _ _ _ c.deliver-in-Err.ensures
