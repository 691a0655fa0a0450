use Rattle.std.proofs.Common.{◌≡◌, take}
use Rattle.sg_laurent.specs.Exponents.{unit_exponents}
use Rattle.sg_laurent.proofs.exponents.are_zero.Given as goal

abbrev pub invariant-loop-i : goal.invariant-loop-i
invariant-loop-i l = take l.i l.exps ≡ unit_exponents l.i l.i
