use Rattle.std.proofs.Common.{◌≡◌, ℕ, ◌+◌, All, AllPairs}
use Rattle.sg_algebra.proofs.Value.{◌*ᵛ◌}
use Rattle.sg_relations.specs.Columns.{product_at, IsPositive, IsProper, AreCoprime, HasWidth, weight_waiting, weight_standing}
use Rattle.sg_relations.proofs.numbers.refined.Given as goal

abbrev pub invariant-loop-alloc : goal.invariant-loop-alloc
invariant-loop-alloc l = record {
  positive : All IsPositive l.waiting;
  waiting_width : All (HasWidth l.fn.count) l.waiting;
  proper : All IsProper l.standing;
  standing_width : All (HasWidth l.fn.count) l.standing;
  coprime : AllPairs AreCoprime l.standing;
  kept : (i : ℕ) → product_at l.waiting i *ᵛ product_at l.standing i ≡ product_at l.fn.columns i;
}

abbrev pub decreases-loop-alloc : goal.decreases-loop-alloc
decreases-loop-alloc l = weight_waiting l.waiting + weight_standing l.standing
