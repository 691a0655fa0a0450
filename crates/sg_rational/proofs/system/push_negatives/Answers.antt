use Rattle.std.proofs.Common.{◌∙◌, ap, map, List, ◌++◌, arith, sym}
use Rattle.std.proofs.lemmas.List.{take_all, append-nil}
use Rattle.sg_algebra.proofs.Polynomial.{Polynomial, neg_polynomial}
use Rattle.sg_poly.specs.Polynomials.{polynomial}
use Rattle.sg_rational.proofs.Columns.{negatives_more}
use Rattle.sg_rational.proofs.system.push_negatives.Goals as goal

pub loop-i-init : goal.loop-i-init
loop-i-init g c =
    let p : List g.row.F.Denot → Polynomial g.F.Field.vars = λ p. polynomial g.F.Field.val p in
    sym (append-nil (map p c.args.columns.now))

pub loop-i-preserved : goal.loop-i-preserved
loop-i-preserved g c =
    let p : List g.row.F.Denot → Polynomial g.F.Field.vars = λ p. polynomial g.F.Field.val p in
    negatives_more p (map p c.args.columns.now) c.loop-i.columns c.push.new.self c.in_ok-negative.field-0 c.args.sides.now c.loop-i.i c.index-sides-i.result c.loop-i-test.true c.index-sides-i.is
    c.in_ok-negative.ensures.value c.in_ok-push.ensures.ok c.loop-i.invariant

pub returns-clause-value : goal.returns-clause-value
returns-clause-value g c =
    let p : List g.row.F.Denot → Polynomial g.F.Field.vars = λ p. polynomial g.F.Field.val p in
    c.loop-i.invariant ∙ ap (λ (z : List (List g.row.F.Denot)). map p c.args.columns.now ++ map neg_polynomial (map p z)) (take_all c.loop-i.i c.args.sides.now (omega arith))
