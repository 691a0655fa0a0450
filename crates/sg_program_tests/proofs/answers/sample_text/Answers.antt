use Rattle.sg_gen.proofs.Forms.{sampled-form}
use Rattle.sg_program_tests.proofs.answers.sample_text.Goals as goal

pub print-requires-clause-form : goal.print-requires-clause-form
print-requires-clause-form c = rw c.in_ok-e.ensures (sampled-form c.args.seed c.args.i)
