use Rattle.std.proofs.Common.{take}
use Rattle.sg_laurent.specs.Elements.{Same, Sum, element, IsNormal}
use Rattle.sg_laurent.proofs.terms.added.Given as goal

abbrev pub invariant-loop-i : goal.invariant-loop-i
invariant-loop-i g l = record {
  value : Same g.K.Field.val l.n (element g.K.Field.val l.n l.row) (Sum g.K.Field.val l.n (element g.K.Field.val l.n l.fn.terms) (element g.K.Field.val l.n (take l.i l.ys)));
  normal : IsNormal g.K.Field.val l.n l.row;
}
