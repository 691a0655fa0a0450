use Rattle.std.proofs.Common.{◌≡◌, ◌++◌, map, drop}
use Rattle.sg_ratfun.specs.Gathered.{coefficients}
use Rattle.sg_ratfun.proofs.probe.gathered.Given as goal

abbrev pub invariant-loop-i : goal.invariant-loop-i
invariant-loop-i g l = map g.F.Field.val l.row ++ map g.F.Field.val (coefficients (drop l.i l.list)) ≡ map g.F.Field.val (coefficients l.list)
