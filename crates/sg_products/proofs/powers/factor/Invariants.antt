use Rattle.std.proofs.Common.{◌≡◌, map, take}
use Rattle.sg_algebra.proofs.ValueField.{ValueF}
use Rattle.sg_tower_theory.specs.Powers.{powers}
use Rattle.sg_products.proofs.powers.factor.Given as goal

abbrev pub invariant-loop-i : goal.invariant-loop-i
invariant-loop-i g l = g.K.Field.val l.product ≡ powers (ValueF g.K.Field.vars) (map g.K.Field.val (take l.i l.alphas)) (take l.i l.exps)
