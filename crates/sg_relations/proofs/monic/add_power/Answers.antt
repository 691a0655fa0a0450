use Rattle.std.proofs.Common.{rules, suc, ℤ, map, List, subst, sym, to_z, of_z, FitsSigned}
use Rattle.std.specs.Int.{w128}
use Rattle.std.proofs.lemmas.Int.{to_z-of_z}
use Rattle.sg_algebra.proofs.Value.{one_value}
use Rattle.sg_algebra.proofs.ValueField.{ValueF}
use Rattle.sg_poly.specs.Divisors.{IsMonic}
use Rattle.sg_poly.specs.Polynomials.{polynomial}
use Rattle.sg_first_order_theory.proofs.ValueFractions.{whole}
use Rattle.sg_tower_theory.specs.Powers.{power}
use Rattle.sg_relations.specs.Parts.{IsGrown}
use Rattle.sg_relations.proofs.Grown.{grown_none, grown_more, grown_push}
use Rattle.sg_relations.proofs.monic.add_power.Goals as goal

pub loop-i-init : goal.loop-i-init
loop-i-init g c = subst (λ (p : List g.row.F.Denot). record {
  monic : IsMonic (map g.F.Field.val p);
  grown : IsGrown g.F.Field.val c.args.count c.args.place (power (ValueF (suc g.F.Field.vars)) (whole (polynomial g.F.Field.val p)) (to_z w128 (of_z w128 c.args.e)))
      (power (ValueF (suc g.F.Field.vars)) (whole (polynomial g.F.Field.val c.args.p)) (to_z w128 (of_z w128 c.args.e))) c.args.factors.now c.args.factors.now;
}) (sym c.p.view_is) (record {
  monic = c.requires.monic;
  grown = grown_none g.F.Field.val c.args.count c.args.place (power (ValueF (suc g.F.Field.vars)) (whole (polynomial g.F.Field.val c.args.p)) (to_z w128 (of_z w128 c.args.e))) c.args.factors.now;
})

pub loop-i-preserved : goal.loop-i-preserved
loop-i-preserved g c = record {
  monic = c.in_ok-rest.ensures.monic;
  grown = grown_more g.F.Field.val c.args.count c.args.place (power (ValueF (suc g.F.Field.vars)) (whole (polynomial g.F.Field.val c.loop-i.rest)) (to_z w128 (of_z w128 c.args.e)))
      (power (ValueF (suc g.F.Field.vars)) (whole (polynomial g.F.Field.val c.args.p)) (to_z w128 (of_z w128 c.args.e)))
      (power (ValueF (suc g.F.Field.vars)) (whole (polynomial g.F.Field.val c.in_ok-rest.rest)) (to_z w128 (of_z w128 c.args.e)))
      c.args.factors.now c.loop-i.factors c.add_linear.new.factors c.loop-i.invariant.grown c.in_ok-rest.ensures.value;
}

pub returns-clause-value : goal.returns-clause-value
returns-clause-value g c =
    let fits : FitsSigned w128 c.args.e = search rules in
    subst (λ (e : ℤ). IsGrown g.F.Field.val c.args.count c.args.place one_value (power (ValueF (suc g.F.Field.vars)) (whole (polynomial g.F.Field.val c.args.p)) e) c.args.factors.now c.push.new.self) (to_z-of_z w128 c.args.e fits)
    (grown_more g.F.Field.val c.args.count c.args.place (power (ValueF (suc g.F.Field.vars)) (whole (polynomial g.F.Field.val c.loop-i.rest)) (to_z w128 (of_z w128 c.args.e)))
    (power (ValueF (suc g.F.Field.vars)) (whole (polynomial g.F.Field.val c.args.p)) (to_z w128 (of_z w128 c.args.e))) one_value
    c.args.factors.now c.loop-i.factors c.push.new.self c.loop-i.invariant.grown
    (grown_push g.F.Field.val c.args.count c.args.place (to_z w128 (of_z w128 c.args.e)) c.loop-i.factors c.push.new.self (record { base = c.loop-i.rest; exps = c.in_ok-exps.exps }) c.in_ok-push.ensures.ok c.loop-i.invariant.monic c.in_ok-exps.ensures.value))
