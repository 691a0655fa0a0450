use Rattle.std.proofs.Common.{ℤ, ◌≤ℤ◌, ◌<ℤ◌}
use Rattle.sg_parts.specs.Planes.{VanishesAt}
use Rattle.sg_parts.proofs.roots.least_zero.Given as goal

abbrev pub invariant-loop-m : goal.invariant-loop-m
invariant-loop-m l = record {
  from : l.first ≤ℤ l.m;
  none : (k : ℤ) → l.first ≤ℤ k → k <ℤ l.m → VanishesAt l.plane k → ⊥;
}
