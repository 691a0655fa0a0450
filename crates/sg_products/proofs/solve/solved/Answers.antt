use Rattle.sg_products.proofs.Slicing.{finished_sound, finished_complete}
use Rattle.sg_products.proofs.Supporting.{begun_from}
use Rattle.sg_products.proofs.solve.solved.Goals as goal

pub all_lowered-requires-clause-fit : goal.all_lowered-requires-clause-fit
all_lowered-requires-clause-fit g c = c.in_ok-es.ensures.value.fit

pub all_lowered-requires-clause-before : goal.all_lowered-requires-clause-before
all_lowered-requires-clause-before g c = begun_from g.F.Field.val c.args.alphas.now c.requires.some c.requires.free c.args.fs.now c.in_ok-es.es c.in_ok-rows.rows c.in_ok-es.ensures.value c.in_ok-rows.ensures.value

pub returns-clause-sound : goal.returns-clause-sound
returns-clause-sound g c = finished_sound g.F.Field.val c.args.alphas.now c.requires.some c.requires.free c.args.fs.now c.in_ok-last.last c.in_ok-answer.answer c.in_ok-last.ensures.value c.in_ok-answer.ensures.value

pub returns-clause-complete : goal.returns-clause-complete
returns-clause-complete g c = finished_complete g.F.Field.val c.args.alphas.now c.requires.some c.requires.free c.args.fs.now c.in_ok-last.last c.in_ok-answer.answer c.in_ok-last.ensures.value c.in_ok-answer.ensures.value
