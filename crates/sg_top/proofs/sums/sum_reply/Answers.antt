use Rattle.std.proofs.Common.{FitsSigned}
use Rattle.std.specs.Int.{w64}
use Rattle.std.proofs.lemmas.Int.{to_z-of_z}
use Rattle.sg_top.proofs.sums.sum_reply.Goals as goal

pub tested_reply-requires-clause-not_narrow : goal.tested_reply-requires-clause-not_narrow
tested_reply-requires-clause-not_narrow c =
    let fits : FitsSigned w64 c.args.a = c.ranges.a in
    rw c.in-None.is at c.in_ok-plain.ensures

pub returns-in-Some : goal.returns-in-Some
returns-in-Some c =
    let fits : FitsSigned w64 c.args.a = c.ranges.a in
    let reply = rw c.in-Some.is at c.in_ok-plain.ensures in
    simp to_z-of_z at reply
