use Rattle.std.proofs.Common.{◌≡◌}
use Rattle.sg_laurent.specs.Exponents.{unit_exponents}
use Rattle.sg_products.proofs.supports.zero_list.Given as goal

abbrev pub invariant-loop-j : goal.invariant-loop-j
invariant-loop-j l = l.row ≡ unit_exponents l._j l.n
