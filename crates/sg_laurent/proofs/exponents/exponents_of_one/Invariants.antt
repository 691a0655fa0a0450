use Rattle.std.proofs.Common.{◌≡◌}
use Rattle.sg_laurent.specs.Exponents.{unit_exponents}
use Rattle.sg_laurent.proofs.exponents.exponents_of_one.Given as goal

abbrev pub invariant-loop-j : goal.invariant-loop-j
invariant-loop-j l = l.row.items ≡ unit_exponents l.j l.i
