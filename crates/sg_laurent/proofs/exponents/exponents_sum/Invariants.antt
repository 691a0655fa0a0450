use Rattle.std.proofs.Common.{◌≡◌, ◌+ℤ◌, take}
use Rattle.sg_algebra.specs.Coefficients.{zip_longest}
use Rattle.sg_laurent.proofs.exponents.exponents_sum.Given as goal

abbrev pub invariant-loop-i : goal.invariant-loop-i
invariant-loop-i l = l.row.items ≡ zip_longest ◌+ℤ◌ (take l.i l.a) (take l.i l.b)
