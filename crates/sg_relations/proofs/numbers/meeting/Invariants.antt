use Rattle.std.proofs.Common.{◌≡◌, All, take}
use Rattle.sg_algebra.specs.Divisor.{gcd}
use Rattle.sg_relations.proofs.numbers.meeting.Given as goal

abbrev pub invariant-loop-j : goal.invariant-loop-j
invariant-loop-j l = All (λ c. gcd l.w c.base ≡ 1) (take l.j l.standing)
