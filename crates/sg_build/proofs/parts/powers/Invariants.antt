use Rattle.std.proofs.Common.{◌≡◌, map, take, unsigned_abs}
use Rattle.sg_build.proofs.parts.powers.Given as goal

abbrev pub invariant-loop-e : goal.invariant-loop-e
invariant-loop-e l = l.row ≡ map unsigned_abs (take l.e-index l.exps)
