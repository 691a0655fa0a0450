use Rattle.std.proofs.Common.{arith}
use Rattle.std.specs.Bool.{IsFalse}
use Rattle.sg_laurent.proofs.Gathering.{later_back}
use Rattle.sg_laurent.proofs.terms.gathered.Goals as goal

pub placed-requires-clause-after : goal.placed-requires-clause-after
placed-requires-clause-after g c =
    let f : IsFalse c.stands_at.result = grind (arith, c.if-stands_at.false) in
    later_back c.args.n c.args.terms c.place-p.result c.args.t c.requires.normal.fit c.requires.fit c.requires.normal.descending
    (rw (c.as_slice.ensures, c.as_slice-2.ensures) at c.place-p.ensures.next)
    (rw (c.as_slice-3.ensures, c.as_slice-4.ensures) at (c.stands_at.ensures.other f))
