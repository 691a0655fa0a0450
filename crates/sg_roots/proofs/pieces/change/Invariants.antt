use Rattle.std.proofs.Common.{◌≤◌, ◌≤ℤ◌, ◌<ℤ◌}
use Rattle.sg_num.specs.Roots.{whole_at}
use Rattle.sg_roots.specs.Signs.{IsSameSign, reach}
use Rattle.sg_roots.proofs.pieces.change.Given as goal

abbrev pub invariant-loop-step : goal.invariant-loop-step
invariant-loop-step l = record {
  within : l.step ≤ reach;
  from : l.low ≤ℤ l.at;
  to : l.at <ℤ l.high;
  same : IsSameSign (whole_at l.list l.low) (whole_at l.list l.at);
}

abbrev pub decreases-loop-step : goal.decreases-loop-step
decreases-loop-step l = l.step
