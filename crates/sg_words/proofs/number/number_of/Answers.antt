use Rattle.sg_words.proofs.Finding.{word-ascii}
use Rattle.sg_words.proofs.number.number_of.Goals as goal

pub returns-in-Err : goal.returns-in-Err
returns-in-Err c = λ z w. c.in-Err.ensures.cases.0 (word-ascii _ _ z _ w)
