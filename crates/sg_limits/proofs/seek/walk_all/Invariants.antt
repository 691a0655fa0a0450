use Rattle.std.proofs.Common.{◌≡◌, ◌+◌, map, take}
use Rattle.sg_spec.specs.Faults.{NoneFar, parts_from}
use Rattle.sg_expr.specs.Tree.{tree_of}
use Rattle.sg_limits.specs.Walks.{AreFound}
use Rattle.sg_limits.proofs.seek.walk_all.Given as goal

abbrev pub invariant-loop-e : goal.invariant-loop-e
invariant-loop-e l = record {
  count : l.item ≡ 1 + l.e-index;
  near : NoneFar (parts_from 1 l.lower (map tree_of (take l.e-index l.items)));
  found : AreFound (parts_from 1 l.lower (map tree_of (take l.e-index l.items))) l.found;
}
