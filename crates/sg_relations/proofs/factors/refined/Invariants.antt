use Rattle.std.proofs.Common.{ℕ, ◌+◌, All}
use Rattle.sg_algebra.proofs.Value.{◌*ᵛ◌}
use Rattle.sg_relations.specs.Factors.{product_at, AreAlike, IsFactor, IsProper, ArePairwise, HasWidth, waiting_weight, standing_weight}
use Rattle.sg_relations.proofs.factors.refined.Given as goal

abbrev pub invariant-loop-alloc : goal.invariant-loop-alloc
invariant-loop-alloc g l = record {
  monic : All (IsFactor g.F.Field.val) l.waiting;
  waiting_width : All (HasWidth l.fn.count) l.waiting;
  proper : All (IsProper g.F.Field.val) l.standing;
  standing_width : All (HasWidth l.fn.count) l.standing;
  pairwise : ArePairwise g.F.Field.val l.fn.shifts l.standing;
  kept : (i : ℕ) → AreAlike l.fn.shifts (product_at g.F.Field.val l.fn.factors i) (product_at g.F.Field.val l.waiting i *ᵛ product_at g.F.Field.val l.standing i);
}

abbrev pub decreases-loop-alloc : goal.decreases-loop-alloc
decreases-loop-alloc g l = waiting_weight g.F.Field.val l.waiting + standing_weight g.F.Field.val l.standing
