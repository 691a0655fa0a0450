use Rattle.std.proofs.Common.{sym, subst, List, ℤ, pos, neg_ℤ, arith}
use Rattle.std.proofs.lemmas.Int.{ints}
use Rattle.sg_roots.specs.Signs.{ArePieces, AreMonotonePieces, reach}
use Rattle.sg_roots.proofs.Cuts.{pieces_one, pieces_monotone}
use Rattle.sg_roots.proofs.pieces.+pieces.Goals as goal

pub returns-then-list-lt2-clause-value : goal.returns-then-list-lt2-clause-value
returns-then-list-lt2-clause-value t c = pieces_one c.args.list.now c.in_ok-r.r (neg_ℤ (pos reach)) (pos reach) c.if-list-lt2.true c.in_ok-r.ensures (omega (arith, ints))

pub refined-requires-clause-pieces : goal.refined-requires-clause-pieces
refined-requires-clause-pieces t c =
    let coarse = subst (λ (d : List ℤ). ArePieces d (neg_ℤ (pos reach)) (pos reach) c.in_ok-coarse.coarse) c.as_slice.ensures c.in_ok-coarse.ensures.value in
    subst (λ (s : List ℤ). AreMonotonePieces c.args.list.now (neg_ℤ (pos reach)) (pos reach) s) (sym c.as_slice-2.ensures)
    (pieces_monotone c.args.list.now c.in_ok-slope.slope c.in_ok-coarse.coarse (neg_ℤ (pos reach)) (pos reach) c.in_ok-slope.ensures.value coarse)
