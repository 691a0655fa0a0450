use Rattle.std.proofs.Common.{take}
use Rattle.sg_laurent.specs.Elements.{Same, Product, element, IsNormal}
use Rattle.sg_laurent.proofs.products.product.Given as goal

abbrev pub invariant-loop-i : goal.invariant-loop-i
invariant-loop-i g l = record {
  value : Same g.K.Field.val l.n (element g.K.Field.val l.n l.row) (Product g.K.Field.val l.n (element g.K.Field.val l.n (take l.i l.xs)) (element g.K.Field.val l.n l.ys));
  normal : IsNormal g.K.Field.val l.n l.row;
}
