use Rattle.std.proofs.Common.{suc, map}
use Rattle.sg_algebra.proofs.ValueField.{ValueF}
use Rattle.sg_poly.specs.Divisors.{IsMonic}
use Rattle.sg_poly.specs.Polynomials.{polynomial}
use Rattle.sg_first_order_theory.proofs.ValueFractions.{whole}
use Rattle.sg_tower_theory.specs.Powers.{power}
use Rattle.sg_relations.specs.Parts.{IsGrown}
use Rattle.sg_relations.proofs.monic.add_power.Given as goal

abbrev pub invariant-loop-i : goal.invariant-loop-i
invariant-loop-i g l = record {
  monic : IsMonic (map g.F.Field.val l.rest);
  grown : IsGrown g.F.Field.val l.fn.count l.fn.place (power (ValueF (suc g.F.Field.vars)) (whole (polynomial g.F.Field.val l.rest)) l.fn.e)
      (power (ValueF (suc g.F.Field.vars)) (whole (polynomial g.F.Field.val l.fn.p)) l.fn.e) l.fn.factors l.factors;
}
