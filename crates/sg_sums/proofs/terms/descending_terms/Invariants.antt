use Rattle.std.proofs.Common.{◌-◌, length}
use Rattle.sg_sums.specs.Flattened.{HasTermsFrom}
use Rattle.sg_sums.proofs.terms.descending_terms.Given as goal

abbrev pub invariant-loop-i : goal.invariant-loop-i
invariant-loop-i g l = HasTermsFrom (g.T.Tower.reading g.T.K.Field.vars g.T.K.Field.val l.below) g.T.K.Field.val l.beta l.p (length l.p - l.i) l.terms
