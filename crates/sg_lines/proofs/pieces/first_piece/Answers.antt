use Rattle.std.proofs.Common.{arith}
use Rattle.sg_lines.proofs.Cutting.{piece-cut, piece-whole}
use Rattle.sg_lines.proofs.pieces.first_piece.Goals as goal

pub returns-then-b-separator-clause-piece : goal.returns-then-b-separator-clause-piece
returns-then-b-separator-clause-piece c = piece-cut c.args.separator c.args.text.now c.loop-i.i (omega arith) c.loop-i.invariant c.if-b-separator.true

pub returns-clause-piece : goal.returns-clause-piece
returns-clause-piece c =
    piece-whole c.args.separator c.args.text.now (cc) (λ k h. c.loop-i.invariant k (omega (arith, c.loop-i-test.false)))
