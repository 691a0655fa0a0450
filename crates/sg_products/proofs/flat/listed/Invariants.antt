use Rattle.std.proofs.Common.{◌≡◌, take}
use Rattle.sg_products.proofs.flat.listed.Given as goal

abbrev pub invariant-loop-i : goal.invariant-loop-i
invariant-loop-i l = l.row ≡ take l.i l.exps
