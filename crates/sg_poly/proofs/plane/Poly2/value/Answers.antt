use Rattle.std.proofs.Common.{◌≡◌, ◌∙◌, sym, rules, arith, ap, ap₂, length, map, List, ℤ, pos, ◌-◌}
use Rattle.sg_algebra.specs.Coefficients.{eval}
use Rattle.sg_algebra.proofs.Value.{Value, ◌+ᵛ◌, ◌*ᵛ◌}
use Rattle.sg_algebra.proofs.ValueField.{ValueR}
use Rattle.sg_algebra.proofs.Rational.{whole_value}
use Rattle.sg_algebra.proofs.Rows.{drop_all, drop_step}
use Rattle.sg_spec.specs.Fraction.{whole}
use Rattle.sg_num.specs.Value.{fraction, number}
use Rattle.sg_num.proofs.Numbers.{number-whole}
use Rattle.sg_poly.specs.Plane.{row_at}
use Rattle.sg_poly.proofs.plane.Poly2.value.Goals as goal

pub loop-i-init : goal.loop-i-init
loop-i-init c = record {
  within = omega arith;
  value = rw (drop_all (λ (row : List ℤ). row_at row (number c.whole-at_n.result)) (length c.as_slice-rows.result.now) c.as_slice-rows.result.now (omega arith)) (number-whole c.whole-value.result (pos 0) c.whole-value.ensures.value);
}

pub loop-i-preserved : goal.loop-i-preserved
loop-i-preserved c =
    let v = λ (row : List ℤ). row_at row (number c.whole-at_n.result) in
    record {
      within = omega arith;
      value = c.in_ok-value.ensures.value
          ∙ ap₂ (λ x y. x +ᵛ number c.whole-at_k.result *ᵛ y) (c.in_ok-c.ensures.value ∙ ap (λ (row : List ℤ). row_at row (number c.whole-at_n.result)) c.as_slice.ensures) c.loop-i.invariant.value
          ∙ sym (ap (λ (p : List (Value 0)). eval (ValueR 0) p (number c.whole-at_k.result)) (drop_step v c.as_slice-rows.result.now c.loop-i.i (c.loop-i.i - 1) c.index-rows-i.result (omega arith) (omega arith) c.index-rows-i.is));
    }

pub returns-clause-value : goal.returns-clause-value
returns-clause-value c =
    let z : c.loop-i.i ≡ 0 = omega arith in
    let n : fraction c.whole-at_n.result ≡ whole c.args.n = search rules in
    let k : fraction c.whole-at_k.result ≡ whole c.args.k = search rules in
    (rw z at c.loop-i.invariant.value)
    ∙ ap₂ (λ x y. eval (ValueR 0) (map (λ (row : List ℤ). row_at row x) c.as_slice-rows.result.now) y) (number-whole c.whole-at_n.result c.args.n n) (number-whole c.whole-at_k.result c.args.k k)
    ∙ ap (λ (p : List (List ℤ)). eval (ValueR 0) (map (λ (row : List ℤ). row_at row (whole_value 0 c.args.n)) p) (whole_value 0 c.args.k)) (c.as_slice-rows.ensures ∙ c.self.view_is)
