use Rattle.std.proofs.Common.{◌∙◌, ap, map, List, ◌++◌}
use Rattle.sg_algebra.proofs.Polynomial.{Polynomial, neg_polynomial}
use Rattle.sg_poly.specs.Polynomials.{polynomial}
use Rattle.sg_first_order_theory.proofs.FirstOrder.{left}
use Rattle.sg_first_order_theory.proofs.Under.{powers}
use Rattle.sg_rational.proofs.system.columns.Goals as goal

pub returns-clause-value : goal.returns-clause-value
returns-clause-value g c =
    let v = g.F.Field.val in
    let p : List g.row.F.Denot → Polynomial g.F.Field.vars = λ p. polynomial g.F.Field.val p in
    c.in_ok-push_images.ensures.value ∙ ap (λ (z : List (Polynomial g.F.Field.vars)). z ++ map (left (polynomial v c.args.a.now) (polynomial v c.args.b.now)) (powers c.args.n))
    (c.in_ok-push_negatives.ensures.value ∙ ap (λ (z : List (List g.row.F.Denot)). map p z ++ map neg_polynomial (map p c.args.sides.now)) c.new-columns.ensures)
