use Rattle.std.proofs.Common.{◌≤◌, ◌++◌, ◌∷◌, [], length, map, take, drop}
use Rattle.sg_algebra.proofs.Value.{over_value}
use Rattle.sg_algebra.proofs.Place.{Pairwise, HasValue}
use Rattle.sg_num.specs.Value.{number}
use Rattle.sg_ratfun.specs.Gathered.{coefficients, ItemsAt}
use Rattle.sg_ratfun.proofs.probe.all_at.Given as goal

abbrev pub invariant-loop-i : goal.invariant-loop-i
invariant-loop-i g l = record {
  within : l.at ≤ length l.values;
  known : Pairwise (λ c r. HasValue g.F.Field.vars c l.inner.args (number r)) (map g.F.Field.val (coefficients (drop l.i l.list))) (drop l.at l.values);
  so_far : ItemsAt (λ r. over_value (map g.F.Field.val r.0) (map g.F.Field.val r.1)) (take l.i l.list) (l.inner.args ++ l.x ∷ []) l.out;
}
