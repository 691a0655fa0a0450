use Rattle.std.proofs.Common.{map, take}
use Rattle.sg_tower_theory.proofs.Formal.{base_shift}
use Rattle.sg_ratfun.specs.Fractions.{ratio}
use Rattle.sg_laurent.specs.Elements.{Same, element}
use Rattle.sg_products.specs.Readings.{count}
use Rattle.sg_products.proofs.shift.shifted.Given as goal

abbrev pub invariant-loop-i : goal.invariant-loop-i
invariant-loop-i g l = Same (ratio g.F.Field.val) (count g.F.Field.val l.alphas) (element (ratio g.F.Field.val) (count g.F.Field.val l.alphas) l.r)
    ((base_shift (map (ratio g.F.Field.val) l.alphas)).σ.on (element (ratio g.F.Field.val) (count g.F.Field.val l.alphas) (take l.i l.terms)))
