use Rattle.std.proofs.Common.{pos, neg_ℤ, ◌≤ℤ◌}
use Rattle.sg_num.specs.Roots.{AreRoots}
use Rattle.sg_num.proofs.scan.scanned.Given as goal

abbrev pub invariant-loop-m : goal.invariant-loop-m
invariant-loop-m l = record {
  low : neg_ℤ (pos l.b) ≤ℤ l.m;
  high : l.m ≤ℤ pos l.b;
  roots : AreRoots l.list (neg_ℤ (pos l.b)) l.m l.row;
}
