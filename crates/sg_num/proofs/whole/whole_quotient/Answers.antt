use Rattle.std.proofs.Common.{◌≡◌, ◌∙◌, sym, ap, ap₂, ◌*ℤ◌, ◌%◌, unsigned_abs, rules, FitsSigned}
use Rattle.std.specs.Int.{w128}
use Rattle.std.specs.Int.RustNames.{int_div}
use Rattle.std.proofs.lemmas.Int.{to_z-of_z}
use Rattle.sg_algebra.specs.Fraction.{whole}
use Rattle.sg_num.specs.Value.{fraction}
use Rattle.sg_num.proofs.WholeSteps.{quotient_num, whole_quotient, no_quotient}
use Rattle.sg_num.proofs.whole.whole_quotient.Goals as goal

pub returns-then-unsigned_abs-ne0-clause-none : goal.returns-then-unsigned_abs-ne0-clause-none
returns-then-unsigned_abs-ne0-clause-none c =
    let a : c.unsigned_abs.result ≡ unsigned_abs c.args.a = search rules in
    let b : c.unsigned_abs-2.result ≡ unsigned_abs c.args.b = search rules in
    no_quotient c.args.a c.args.b (λ e. c.if-unsigned_abs-ne0.true (ap₂ ◌%◌ a b ∙ e))

pub returns-clause-some : goal.returns-clause-some
returns-clause-some c =
    let a : c.unsigned_abs.result ≡ unsigned_abs c.args.a = search rules in
    let b : c.unsigned_abs-2.result ≡ unsigned_abs c.args.b = search rules in
    let x : fraction c.whole.result ≡ whole c.args.a = search rules in
    let y : fraction c.whole-2.result ≡ whole c.args.b = search rules in
    let fits : FitsSigned w128 c.num.result = search rules in
    let is = whole_quotient c.args.a c.args.b (sym (ap₂ ◌%◌ a b) ∙ c.if-unsigned_abs-ne0.false) in
    ap (λ q. q *ℤ c.args.b) (to_z-of_z w128 c.num.result fits ∙ c.num.ensures)
    ∙ quotient_num c.args.a c.args.b c.whole.result c.whole-2.result c.in_ok-quotient.quotient x y c.requires c.in_ok-quotient.ensures.value (int_div c.args.a c.args.b) is
