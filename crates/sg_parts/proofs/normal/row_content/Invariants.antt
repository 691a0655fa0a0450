use Rattle.std.proofs.Common.{◌≡◌, drop}
use Rattle.sg_parts.specs.Normal.{row_gcd}
use Rattle.sg_parts.proofs.normal.row_content.Given as goal

abbrev pub invariant-loop-c : goal.invariant-loop-c
invariant-loop-c l = row_gcd l.g (drop l.c-index l.list) ≡ row_gcd l.known l.list
