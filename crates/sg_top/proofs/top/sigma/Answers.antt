use Rattle.std.proofs.Common.{map, string_bytes}
use Rattle.sg_top.specs.Answer.{Input}
use Rattle.sg_top.proofs.Answering.{want-answers}
use Rattle.sg_top.proofs.top.sigma.Goals as goal

pub returns-in-Err-clause-answers : goal.returns-in-Err-clause-answers
returns-in-Err-clause-answers g c =
    let input : Input = record {
      left = g.S.Source.remaining c.args.source.now;
      left_after = g.S.Source.remaining c.args.source.now;
      faults = g.S.Source.fault_count c.args.source.now;
      faults_after = g.S.Source.fault_count c.args.source.now;
    } in
    want-answers input (map string_bytes c.args.words.now) c.deliver.result _ _ _ _ c.deliver.ensures
