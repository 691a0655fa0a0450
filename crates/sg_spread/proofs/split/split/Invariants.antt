use Rattle.std.proofs.Common.{◌≡◌, ℤ, ◌-◌, ◌↔◌, length, map, Contains}
use Rattle.sg_algebra.proofs.Polynomial.{poly}
use Rattle.sg_num.specs.Roots.{IsRoot}
use Rattle.sg_num.specs.Value.{number}
use Rattle.sg_spread.specs.Splits.{product_of}
use Rattle.sg_spread.proofs.split.split.Given as goal

abbrev pub invariant-loop-alloc : goal.invariant-loop-alloc
invariant-loop-alloc l = record {
  product : product_of l.left.roots l.left.rest ≡ poly (map number l.fn.p);
  roots : (m : ℤ) → Contains l.found m ↔ IsRoot (map number l.left.rest) m;
}

abbrev pub decreases-loop-alloc : goal.decreases-loop-alloc
decreases-loop-alloc l = length l.fn.p - length l.left.roots
