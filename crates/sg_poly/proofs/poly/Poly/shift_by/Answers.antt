use Rattle.std.proofs.Common.{◌≡◌, ◌∙◌, refl, rules, ap, sym, arith, ◌-◌, ◌∷◌, [], length, map, drop}
use Rattle.sg_spec.specs.Fraction.{Fraction, whole}
use Rattle.sg_num.specs.Value.{fraction}
use Rattle.sg_algebra.proofs.Value.{one_value}
use Rattle.sg_algebra.proofs.ValueField.{ValueR}
use Rattle.sg_algebra.proofs.Rational.{rational_value, whole_value}
use Rattle.sg_algebra.proofs.Shift.{moved}
use Rattle.sg_algebra.proofs.Polynomial.{poly, constant, ◌+ᵖ◌, ◌*ᵖ◌}
use Rattle.sg_algebra.proofs.Rows.{drop_step, drop_all}
use Rattle.sg_poly.proofs.Shifting.{moved-cons, whole_rational}
use Rattle.sg_poly.proofs.Unique.{moved_at}
use Rattle.sg_poly.proofs.poly.Poly.shift_by.Goals as goal

pub loop-i-init : goal.loop-i-init
loop-i-init g c = record {
  within = omega arith;
  value = rw (c.new-row.ensures, drop_all g.F.Field.val (length c.coeffs-p.result.now) c.coeffs-p.result.now (omega arith)) refl;
}

pub loop-i-preserved : goal.loop-i-preserved
loop-i-preserved g c =
    let v = g.F.Field.val in
    record {
      within = omega arith;
      value = rw (drop_step v c.coeffs-p.result.now c.loop-i.i (c.loop-i.i - 1) c.index-p-i.result (omega arith) (omega arith) c.index-p-i.is)
          (c.in_ok-row.ensures.value ∙ ap (λ q. constant (v c.index-p-i.result) +ᵖ poly (v c.in_ok-by.by ∷ one_value ∷ []) *ᵖ q) (rw c.as_slice.ensures c.loop-i.invariant.value)
          ∙ sym (moved-cons (v c.in_ok-by.by) (v c.index-p-i.result) (map v (drop c.loop-i.i c.coeffs-p.result.now))));
    }

pub returns-clause-value : goal.returns-clause-value
returns-clause-value g c =
    let v = g.F.Field.val in
    let d = g.F.Field.vars in
    let z : c.loop-i.i ≡ 0 = omega arith in
    let w : fraction c.whole.result ≡ whole c.args.m = search rules in
    c.trimmed.ensures.value ∙ (rw z at c.loop-i.invariant.value)
    ∙ ap (λ β. poly (moved (ValueR d) β (map v c.coeffs-p.result.now))) (c.in_ok-by.ensures.value ∙ ap (λ (x : Fraction). rational_value d x.num x.den) w ∙ whole_rational c.args.m)
    ∙ ap (λ p. poly (moved (ValueR d) (whole_value d c.args.m) (map v p))) c.coeffs-p.ensures.value

pub returns-clause-at : goal.returns-clause-at
returns-clause-at g c = moved_at (whole_value g.F.Field.vars c.args.m) (map g.F.Field.val c.args.self.now) (map g.F.Field.val c.trimmed.result) (returns-clause-value g c)
