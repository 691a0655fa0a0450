use Rattle.std.proofs.Common.{◌≡◌, map, take}
use Rattle.sg_algebra.proofs.Value.{◌+ᵛ◌}
use Rattle.sg_algebra.proofs.Polynomial.{coefficient}
use Rattle.sg_ratfun.specs.Fractions.{ratio}
use Rattle.sg_reduction_theory.proofs.Moves.{sum_at}
use Rattle.sg_constant.specs.Shares.{shares}
use Rattle.sg_constant.proofs.solving.with_terms.Given as goal

abbrev pub invariant-loop-i : goal.invariant-loop-i
invariant-loop-i g l = ratio g.F.Field.val l.sum ≡ ratio g.F.Field.val l.fn.first +ᵛ sum_at (coefficient (map g.F.Field.val l.c)) (shares g.F.Field.val (take l.i l.list))
