use Rattle.std.proofs.Common.{pos, neg_ℤ, ◌≤ℤ◌}
use Rattle.sg_num.specs.Roots.{AreRoots}
use Rattle.sg_roots.specs.Signs.{reach}
use Rattle.sg_roots.proofs.far.add_zeros.Given as goal

abbrev pub invariant-loop-m : goal.invariant-loop-m
invariant-loop-m l = record {
  low : l.low ≤ℤ l.m;
  high : l.m ≤ℤ l.high;
  roots : AreRoots l.list (neg_ℤ (pos reach)) l.low l.initial.row → AreRoots l.list (neg_ℤ (pos reach)) l.m l.row;
}
