use Rattle.std.proofs.Common.{◌≡◌, map, neg_ℤ, take}
use Rattle.sg_canonical.proofs.whole.opposites.Given as goal

abbrev pub invariant-loop-a : goal.invariant-loop-a
invariant-loop-a l = l.result ≡ map neg_ℤ (take l.a-index l.list)
