use Rattle.std.proofs.Common.{◌≡◌, ◌<◌, length}
use Rattle.sg_spread.specs.Splits.{product_of, AreAllRoots}
use Rattle.sg_spread.proofs.split.split_each.Given as goal

abbrev pub invariant-loop-i : goal.invariant-loop-i
invariant-loop-i l = record {
  value : product_of l.left.roots l.left.rest ≡ product_of l.fn.split.roots l.fn.split.rest;
  first : l.i ≡ 0 → l.left ≡ l.fn.split;
  more : 0 < l.i → AreAllRoots l.fn.split.rest l.list → length l.fn.split.roots < length l.left.roots;
}
