use Rattle.std.proofs.Common.{◌≡◌, ◌++◌, map}
use Rattle.sg_poly.specs.Polynomials.{polynomial}
use Rattle.sg_first_order_theory.proofs.Next.{next}
use Rattle.sg_first_order_theory.proofs.FirstOrder.{left}
use Rattle.sg_first_order_theory.proofs.Under.{powers, monomial}
use Rattle.sg_rational.proofs.system.push_images.Given as goal

abbrev pub invariant-loop-degree : goal.invariant-loop-degree
invariant-loop-degree g l = record {
  columns : map (polynomial g.F.Field.val) l.columns ≡ map (polynomial g.F.Field.val) l.initial.columns ++ map (left (polynomial g.F.Field.val l.a) (polynomial g.F.Field.val l.b)) (powers l._degree);
  power : polynomial g.F.Field.val l.power ≡ monomial l._degree;
  next : polynomial g.F.Field.val l.next ≡ next (monomial l._degree);
}
