use Rattle.std.proofs.Common.{◌≡◌, ◌∙◌, sym, rules, arith, ap₂, length, get_or, pos, ◌-◌}
use Rattle.sg_algebra.proofs.Value.{◌+ᵛ◌, ◌*ᵛ◌}
use Rattle.sg_algebra.proofs.Rational.{whole_value}
use Rattle.sg_algebra.proofs.Rows.{drop_all}
use Rattle.sg_spec.specs.Fraction.{whole}
use Rattle.sg_num.specs.Value.{fraction, number}
use Rattle.sg_num.proofs.Numbers.{number-whole}
use Rattle.sg_poly.proofs.Planar.{row_step}
use Rattle.sg_poly.proofs.plane.row_value.Goals as goal

pub loop-i-init : goal.loop-i-init
loop-i-init c = record {
  within = omega arith;
  value = rw (drop_all (whole_value 0) (length c.args.list.now) c.args.list.now (omega arith)) (number-whole c.whole-value.result (pos 0) c.whole-value.ensures.value);
}

pub loop-i-preserved : goal.loop-i-preserved
loop-i-preserved c =
    let w : fraction c.whole-c.result ≡ whole (get_or c.args.list.now (c.loop-i.i - 1) (pos 0)) = search rules in
    record {
      within = omega arith;
      value = c.in_ok-value.ensures.value
          ∙ ap₂ (λ x y. x +ᵛ number c.args.x *ᵛ y) (number-whole c.whole-c.result (get_or c.args.list.now (c.loop-i.i - 1) (pos 0)) w) c.loop-i.invariant.value
          ∙ sym (row_step c.args.list.now c.loop-i.i (c.loop-i.i - 1) (number c.args.x) (omega arith) (omega arith));
    }
