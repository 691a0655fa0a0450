use Rattle.std.proofs.Common.{suc, map, to_z, of_z}
use Rattle.std.specs.Int.{w128}
use Rattle.sg_algebra.proofs.Value.{neg_value}
use Rattle.sg_algebra.proofs.ValueField.{ValueF}
use Rattle.sg_poly.specs.Divisors.{IsMonic}
use Rattle.sg_poly.specs.Polynomials.{polynomial}
use Rattle.sg_first_order_theory.proofs.ValueFractions.{whole}
use Rattle.sg_tower_theory.specs.Powers.{power}
use Rattle.sg_relations.proofs.Grown.{grown_none, grown_more, grown_divided, linear_monic, divided_monic}
use Rattle.sg_relations.proofs.monic.add_linear.Goals as goal

pub dividing-init : goal.dividing-init
dividing-init g c = record {
  monic = c.requires.monic;
  grown = grown_none g.F.Field.val c.args.count c.args.place (power (ValueF (suc g.F.Field.vars)) (whole (polynomial g.F.Field.val c.args.p)) (to_z w128 (of_z w128 c.args.e))) c.args.factors.now;
}

pub dividing-preserved : goal.dividing-preserved
dividing-preserved g c =
    let linear : IsMonic (map g.F.Field.val c.in_ok-base.base) = linear_monic g.F.Field.val c.in_ok-base.base (neg_value (g.F.Field.val c.args.root.now)) c.in_ok-base.ensures.value in
    let none = c.is_zero.ensures.0 c.if-not-is_zero.false in
    record {
      monic = divided_monic g.F.Field.val c.dividing.rest c.in_ok-quotient.quotient c.in_ok-base.base c.in_ok-quotient.left c.dividing.invariant.monic linear c.in_ok-quotient.ensures.value none;
      grown = grown_more g.F.Field.val c.args.count c.args.place (power (ValueF (suc g.F.Field.vars)) (whole (polynomial g.F.Field.val c.dividing.rest)) (to_z w128 (of_z w128 c.args.e)))
          (power (ValueF (suc g.F.Field.vars)) (whole (polynomial g.F.Field.val c.args.p)) (to_z w128 (of_z w128 c.args.e)))
          (power (ValueF (suc g.F.Field.vars)) (whole (polynomial g.F.Field.val c.in_ok-quotient.quotient)) (to_z w128 (of_z w128 c.args.e)))
          c.args.factors.now c.dividing.factors c.push.new.self c.dividing.invariant.grown
          (grown_divided g.F.Field.val c.args.count c.args.place (to_z w128 (of_z w128 c.args.e)) c.dividing.rest c.in_ok-quotient.quotient c.in_ok-quotient.left c.dividing.factors c.push.new.self
          (record { base = c.in_ok-base.base; exps = c.in_ok-exps.exps }) c.in_ok-push.ensures.ok linear c.in_ok-exps.ensures.value c.dividing.invariant.monic c.in_ok-quotient.ensures.value none);
    }
