use Rattle.std.proofs.Common.{take}
use Rattle.sg_laurent.specs.Elements.{Same, Sum, Product, element, term_in, IsNormal}
use Rattle.sg_laurent.proofs.products.with_products.Given as goal

abbrev pub invariant-loop-i : goal.invariant-loop-i
invariant-loop-i g l = record {
  value : Same g.K.Field.val l.n (element g.K.Field.val l.n l.row) (Sum g.K.Field.val l.n (element g.K.Field.val l.n l.fn.terms) (Product g.K.Field.val l.n (term_in g.K.Field.val l.n l.s) (element g.K.Field.val l.n (take l.i l.ys))));
  normal : IsNormal g.K.Field.val l.n l.row;
}
