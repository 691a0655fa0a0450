use Rattle.std.proofs.Common.{◌≡◌, ◌≢◌, ℕ, ◌<◌, get_or, ℤ, pos, ◌*ℤ◌}
use Rattle.sg_num.specs.Value.{fraction}
use Rattle.sg_num.specs.declared.rat.Rat.{Rat}
use Rattle.sg_num.specs.Roots.{IsMultiple}
use Rattle.sg_num.proofs.clear.common_denominator.Given as goal

abbrev pub invariant-loop-i : goal.invariant-loop-i
invariant-loop-i l = record {
  some : l.multiple ≢ pos 0;
  least : (m : ℤ) → ((k : ℕ) → k < l.i → (d : Rat) → IsMultiple m (fraction (get_or l.list k d)).den) → (k : ℤ) × (m ≡ k *ℤ l.multiple);
  each : (k : ℕ) → k < l.i → (d : Rat) → IsMultiple l.multiple (fraction (get_or l.list k d)).den;
}
