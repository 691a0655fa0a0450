use Rattle.std.proofs.Common.{◌≡◌, map, take}
use Rattle.sg_algebra.proofs.Polynomial.{constant, ◌*ᵖ◌}
use Rattle.sg_first_order_theory.proofs.Next.{moved_polynomial}
use Rattle.sg_constant.specs.Shares.{polys}
use Rattle.sg_constant.proofs.shares.images.Given as goal

abbrev pub invariant-loop-i : goal.invariant-loop-i
invariant-loop-i g l = polys g.F.Field.val l.images ≡ map (λ x. constant (g.F.Field.val l.c) *ᵖ moved_polynomial l.m x) (polys g.F.Field.val (take l.i l.list))
