use Rattle.std.proofs.Common.{◌≡◌, map, take}
use Rattle.sg_algebra.proofs.Value.{◌*ᵛ◌}
use Rattle.sg_algebra.proofs.Rational.{whole_value}
use Rattle.sg_num.specs.Value.{number}
use Rattle.sg_num.proofs.clear.cleared.Given as goal

abbrev pub invariant-loop-i : goal.invariant-loop-i
invariant-loop-i l = map (whole_value 0) l.row ≡ map (λ r. whole_value 0 l.l *ᵛ number r) (take l.i l.list)
