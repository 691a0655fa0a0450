use Rattle.std.proofs.Common.{◌≡◌, take, map, neg_ℤ}
use Rattle.sg_laurent.proofs.exponents.exponents_negated.Given as goal

abbrev pub invariant-loop-i : goal.invariant-loop-i
invariant-loop-i l = l.row.items ≡ map neg_ℤ (take l.i l.a)
