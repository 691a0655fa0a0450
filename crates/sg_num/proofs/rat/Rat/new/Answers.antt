use Rattle.std.proofs.Common.{arith}
use Rattle.std.proofs.lemmas.Int.{ints}
use Rattle.sg_num.proofs.Terms.{quotient-positive, quotients-coprime}
use Rattle.sg_num.proofs.rat.Rat.new.Goals as goal

pub lowest-requires-clause-positive : goal.lowest-requires-clause-positive
lowest-requires-clause-positive c =
    rw c.divided-2.ensures (quotient-positive c.unsigned_abs-size.result c.unsigned_abs-below.result c.gcd_of-common.result c.gcd_of-common.ensures.value (omega (arith, ints)))

pub lowest-requires-clause-coprime : goal.lowest-requires-clause-coprime
lowest-requires-clause-coprime c =
    rw (c.divided.ensures, c.divided-2.ensures) (quotients-coprime c.unsigned_abs-size.result c.unsigned_abs-below.result c.gcd_of-common.result c.gcd_of-common.ensures.value (omega (arith, ints)))
