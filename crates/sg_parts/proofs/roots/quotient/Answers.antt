use Rattle.std.proofs.Common.{◌≡◌, ◌∙◌, sym, ap, ap₂, ◌*ℤ◌, ◌%◌, unsigned_abs, rules, FitsSigned}
use Rattle.std.specs.Int.{w128}
use Rattle.std.proofs.lemmas.Int.{quot_is}
use Rattle.sg_num.proofs.WholeSteps.{whole_quotient, no_quotient}
use Rattle.sg_parts.proofs.Quotients.{quotient_fits}
use Rattle.sg_parts.proofs.roots.quotient.Goals as goal

pub returns-then-unsigned_abs-ne0-clause-none : goal.returns-then-unsigned_abs-ne0-clause-none
returns-then-unsigned_abs-ne0-clause-none c =
    let a : c.unsigned_abs.result ≡ unsigned_abs c.args.a = search rules in
    let b : c.unsigned_abs-2.result ≡ unsigned_abs c.args.b = search rules in
    no_quotient c.args.a c.args.b (λ e. c.if-unsigned_abs-ne0.true (ap₂ ◌%◌ a b ∙ e))

pub returns-clause-some : goal.returns-clause-some
returns-clause-some c =
    let a : c.unsigned_abs.result ≡ unsigned_abs c.args.a = search rules in
    let b : c.unsigned_abs-2.result ≡ unsigned_abs c.args.b = search rules in
    let fa : FitsSigned w128 c.args.a = search rules in
    let fb : FitsSigned w128 c.args.b = search rules in
    let rest = sym (ap₂ ◌%◌ a b) ∙ c.if-unsigned_abs-ne0.false in
    ap (λ q. q *ℤ c.args.b) (quot_is w128 c.args.a c.args.b fa fb (quotient_fits c.args.a c.args.b c.requires.some c.requires.small rest))
    ∙ whole_quotient c.args.a c.args.b rest
