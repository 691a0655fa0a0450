use Rattle.std.proofs.Common.{rules, pos, get_or, subst, ℤ, Bool, FitsSigned}
use Rattle.std.specs.Int.{w128}
use Rattle.std.proofs.lemmas.Int.{to_z-of_z}
use Rattle.sg_algebra.proofs.ValueField.{ValueF}
use Rattle.sg_num.specs.Value.{number}
use Rattle.sg_tower_theory.specs.Powers.{power}
use Rattle.sg_relations.specs.Signs.{HasSign}
use Rattle.sg_relations.proofs.Signs.{sign_none, sign_step_turned, sign_step_kept}
use Rattle.sg_relations.proofs.numbers.is_negative.Goals as goal
use Rattle.sg_relations.proofs.numbers.is_negative.Goals.{then-is_odd_below, else-is_odd_below}

pub loop-i-init : goal.loop-i-init
loop-i-init c = sign_none c.args.list.now c.args.exps.now

pub loop-i-preserved : goal.loop-i-preserved
loop-i-preserved c =
    let fits : FitsSigned w128 (get_or c.args.exps.now c.loop-i.i (pos 0)) = search rules in
    let sign : HasSign c.is_odd_below.result (power (ValueF 0) (number c.index-list-i.result) (get_or c.args.exps.now c.loop-i.i (pos 0))) =
    subst (λ (z : ℤ). HasSign c.is_odd_below.result (power (ValueF 0) (number c.index-list-i.result) z)) (to_z-of_z w128 (get_or c.args.exps.now c.loop-i.i (pos 0)) fits) c.is_odd_below.ensures.value in
    elim c.if-is_odd_below.branch [
      | then-is_odd_below w ↦ sign_step_turned c.args.list.now c.args.exps.now c.loop-i.i c.loop-i.negative c.if-is_odd_below.negative c.loop-i-test.true c.requires.sized c.index-list-i.result c.index-list-i.is c.loop-i.invariant
          (subst (λ (b : Bool). HasSign b (power (ValueF 0) (number c.index-list-i.result) (get_or c.args.exps.now c.loop-i.i (pos 0)))) w.if-is_odd_below.true sign) w.negative-is
      | else-is_odd_below w ↦ sign_step_kept c.args.list.now c.args.exps.now c.loop-i.i c.loop-i.negative c.if-is_odd_below.negative c.loop-i-test.true c.requires.sized c.index-list-i.result c.index-list-i.is c.loop-i.invariant
          (subst (λ (b : Bool). HasSign b (power (ValueF 0) (number c.index-list-i.result) (get_or c.args.exps.now c.loop-i.i (pos 0)))) w.if-is_odd_below.false sign) w.negative-is
    ]
