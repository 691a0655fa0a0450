use Rattle.std.specs.Prelude.{codes}
use Rattle.std.proofs.lemmas.Bool.Decides.{Decides-eqb}
use Rattle.std.proofs.lemmas.Slice.Eq.{slice_eq-Decides}
use Rattle.sg_words.proofs.Finding.{one-word}
use Rattle.sg_words.proofs.words.is_batch.Goals as goal

pub returns-then-words-eq1 : goal.returns-then-words-eq1
returns-then-words-eq1 c =
    one-word c.args.words.now c.index-words-0.result (codes "batch") c.eq.result c.if-words-eq1.true c.index-words-0.is
    (slice_eq-Decides Decides-eqb c.index-words-0.result (codes "batch") c.eq.result (rw (c.as_slice.ensures, c.as_slice-then-words-eq1.ensures) at c.eq.ensures))
