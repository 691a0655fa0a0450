use Rattle.std.proofs.Common.{rules, sym, ◌∙◌, ap, subst, ℤ, pos, ◌<ℤ◌, unsigned_abs, FitsSigned, arith}
use Rattle.sg_algebra.proofs.Ring.{pow}
use Rattle.sg_algebra.proofs.ValueField.{ValueR}
use Rattle.std.specs.Bool.{IsTrue}
use Rattle.std.specs.Int.{w128}
use Rattle.std.proofs.lemmas.Int.{to_z-of_z}
use Rattle.sg_products.proofs.Raising.{power_negative, power_natural}
use Rattle.sg_products.proofs.powers.to_power.Goals as goal

pub returns-then-is_negative-clause-value : goal.returns-then-is_negative-clause-value
returns-then-is_negative-clause-value g c =
    let b : IsTrue c.is_negative.result = grind (arith, c.if-is_negative.true) in
    let f : FitsSigned w128 c.args.e = search rules in
    power_negative (g.K.Field.val c.args.x.now) (g.K.Field.val c.in_ok-inverse.inverse) (g.K.Field.val c.in_ok-one.one) (g.K.Field.val c.in_ok-r.r) c.args.e
    (subst (λ (x : ℤ). x <ℤ pos 0) (to_z-of_z w128 c.args.e f) (c.is_negative.ensures.0 b))
    c.in_ok-one.ensures.value c.in_ok-inverse.ensures.value (c.in_ok-r.ensures.value ∙ ap (pow (ValueR g.K.Field.vars) (g.K.Field.val c.in_ok-inverse.inverse)) (c.size_of-n.ensures ∙ ap unsigned_abs (to_z-of_z w128 c.args.e f)))

pub returns-clause-value : goal.returns-clause-value
returns-clause-value g c =
    let f : FitsSigned w128 c.args.e = search rules in
    power_natural (g.K.Field.val c.args.x.now) (g.K.Field.val c.in_ok-r-2.r) c.args.e
    (λ z. let b : IsTrue c.is_negative.result = c.is_negative.ensures.1 (subst (λ (x : ℤ). x <ℤ pos 0) (sym (to_z-of_z w128 c.args.e f)) z) in grind (arith, b, c.if-is_negative.false))
    (c.in_ok-r-2.ensures.value ∙ ap (pow (ValueR g.K.Field.vars) (g.K.Field.val c.args.x.now)) (c.size_of-n.ensures ∙ ap unsigned_abs (to_z-of_z w128 c.args.e f)))
