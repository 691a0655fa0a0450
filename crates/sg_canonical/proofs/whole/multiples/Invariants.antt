use Rattle.std.proofs.Common.{◌≡◌, map, ◌*ℤ◌, take}
use Rattle.sg_canonical.proofs.whole.multiples.Given as goal

abbrev pub invariant-loop-a : goal.invariant-loop-a
invariant-loop-a l = l.result ≡ map (λ a. a *ℤ l.fn.b) (take l.a-index l.list)
