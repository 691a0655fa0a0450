use Rattle.sg_num.proofs.Terms.{crossed-positive, crossed-lowest}
use Rattle.sg_num.proofs.rat.Rat.crossed.Goals as goal

pub lowest-requires-clause-positive : goal.lowest-requires-clause-positive
lowest-requires-clause-positive c =
    rw (c.in_ok-below.ensures.1, c.divided-3.ensures, c.divided-4.ensures, c.gcd_of-left.ensures.value, c.gcd_of-right.ensures.value)
    (crossed-positive c.args.a c.args.b c.args.c c.args.d c.requires.below.0 c.requires.below.1)

pub lowest-requires-clause-coprime : goal.lowest-requires-clause-coprime
lowest-requires-clause-coprime c =
    rw (c.in_ok-size.ensures.1, c.in_ok-below.ensures.1, c.divided.ensures, c.divided-2.ensures, c.divided-3.ensures, c.divided-4.ensures, c.gcd_of-left.ensures.value, c.gcd_of-right.ensures.value)
    (crossed-lowest c.args.a c.args.b c.args.c c.args.d c.requires.below.0 c.requires.below.1 c.requires.lowest.0 c.requires.lowest.1)
