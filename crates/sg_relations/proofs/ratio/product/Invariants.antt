use Rattle.std.proofs.Common.{◌≡◌, take}
use Rattle.sg_poly.specs.Polynomials.{polynomial}
use Rattle.sg_relations.specs.Combined.{up_value}
use Rattle.sg_relations.proofs.ratio.product.Given as goal

abbrev pub invariant-loop-i : goal.invariant-loop-i
invariant-loop-i g l = polynomial g.F.Field.val l.product ≡ up_value g.F.Field.val l.sign (take l.i l.factors)
