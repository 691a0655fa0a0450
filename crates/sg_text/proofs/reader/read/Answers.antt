use Rattle.sg_text.specs.Limited.{bounds_of}
use Rattle.sg_text.proofs.Outcome.{reads_back, refuses_back, one_tree}
use Rattle.sg_text.proofs.reader.read.Goals as goal

pub returns-clause-reads : goal.returns-clause-reads
returns-clause-reads c = reads_back (bounds_of c.args.bounds.now) c.args.free.now c.args.text.now c.outcome.result c.outcome.ensures.expression c.outcome.ensures.fault

pub returns-clause-refuses : goal.returns-clause-refuses
returns-clause-refuses c = refuses_back (bounds_of c.args.bounds.now) c.args.free.now c.args.text.now c.outcome.result c.outcome.ensures.expression c.outcome.ensures.fault

pub returns-clause-one_tree : goal.returns-clause-one_tree
returns-clause-one_tree c = one_tree c.args.text.now c.args.free.now
