use Rattle.std.proofs.Common.{◌∙◌, sym, ap, rules, length, map}
use Rattle.sg_algebra.proofs.Polynomial.{poly_same, same_poly}
use Rattle.sg_algebra.proofs.Rows.{lengths_same}
use Rattle.sg_poly.proofs.poly.Poly.same.Goals as goal

pub returns-then-p-q-clause-value : goal.returns-then-p-q-clause-value
returns-then-p-q-clause-value g c = (
  λ t. search (rules, t),
  λ e. absurd (c.if-p-q.true (ap length c.coeffs-p.ensures.value
      ∙ lengths_same g.F.Field.val c.args.self.now c.args.other.now c.coeffs-p.ensures.ends c.coeffs-q.ensures.ends e
      ∙ sym (ap length c.coeffs-q.ensures.value))),
)

pub returns-clause-value : goal.returns-clause-value
returns-clause-value g c =
    let h = c.in_ok-r.ensures.value in (
      λ t. poly_same (map g.F.Field.val c.args.self.now) (map g.F.Field.val c.args.other.now) (rw (c.coeffs-p.ensures.value, c.coeffs-q.ensures.value) at (h.0 t)),
      λ e. h.1 (rw (c.coeffs-p.ensures.value, c.coeffs-q.ensures.value) (same_poly (map g.F.Field.val c.args.self.now) (map g.F.Field.val c.args.other.now) e)),
    )
