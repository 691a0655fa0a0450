use Rattle.std.proofs.Common.{◌≤◌, length, map, drop, reverse}
use Rattle.sg_poly.proofs.Dividing.{Dividing}
use Rattle.sg_poly.proofs.division.divided_long.Given as goal

abbrev pub invariant-loop-i : goal.invariant-loop-i
invariant-loop-i g l = record {
  within : l.i ≤ length l.p;
  divided : Dividing g.F.Field.val l.degree (map g.F.Field.val l.w) (map g.F.Field.val (drop l.i l.p)) (reverse l.quotient) l.rest;
}

abbrev pub decreases-loop-i : goal.decreases-loop-i
decreases-loop-i g l = l.i
