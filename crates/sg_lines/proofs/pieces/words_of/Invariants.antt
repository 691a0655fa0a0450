use Rattle.std.proofs.Common.{◌≡◌, ◌++◌, length}
use Rattle.sg_lines.specs.Lines.{pieces, without_empty, words_in}
use Rattle.sg_lines.proofs.pieces.words_of.Given as goal

abbrev pub invariant-loop-word : goal.invariant-loop-word
invariant-loop-word l = l.words ++ without_empty (pieces 32 l.rest) ≡ words_in l.line

abbrev pub decreases-loop-word : goal.decreases-loop-word
decreases-loop-word l = length l.rest
