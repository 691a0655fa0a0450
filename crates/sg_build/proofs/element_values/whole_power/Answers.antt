use Rattle.std.proofs.Common.{◌≡◌, pos, ◌≤ℤ◌, ◌<ℤ◌, unsigned_abs, ap, ◌∙◌, rules}
use Rattle.sg_algebra.proofs.Ring.{pow}
use Rattle.sg_algebra.proofs.Value.{zero_value}
use Rattle.sg_algebra.proofs.ValueField.{ValueR}
use Rattle.sg_build.proofs.FoundTerms.{power-inverse}
use Rattle.sg_build.proofs.TermParts.{power-natural, power-none}
use Rattle.sg_build.proofs.element_values.whole_power.Goals as goal

pub returns-clause-value : goal.returns-clause-value
returns-clause-value g c =
    let v = g.K.Field.val in
    let below : c.args.e.now <ℤ pos 0 = search rules in
    let some : ¬ (v c.args.v.now ≡ zero_value) = search rules in
    let size : c.unsigned_abs-2.result ≡ unsigned_abs c.args.e.now = search rules in
    power-inverse (v c.args.v.now) (v c.in_ok-one.one) (v c.in_ok-inverse.inverse) (v c.in_ok-r-2.r) c.args.e.now below some c.in_ok-one.ensures.value c.in_ok-inverse.ensures.value
    (c.in_ok-r-2.ensures.value ∙ ap (pow (ValueR g.K.Field.vars) (v c.in_ok-inverse.inverse)) size)

pub returns-then-n-ge0-clause-value : goal.returns-then-n-ge0-clause-value
returns-then-n-ge0-clause-value g c =
    let v = g.K.Field.val in
    let natural : pos 0 ≤ℤ c.args.e.now = search rules in
    let size : c.unsigned_abs.result ≡ unsigned_abs c.args.e.now = search rules in
    power-natural (v c.args.v.now) (v c.in_ok-r.r) c.args.e.now natural (c.in_ok-r.ensures.value ∙ ap (pow (ValueR g.K.Field.vars) (v c.args.v.now)) size)

pub returns-then-is_zero-clause-value : goal.returns-then-is_zero-clause-value
returns-then-is_zero-clause-value g c =
    let v = g.K.Field.val in
    let below : c.args.e.now <ℤ pos 0 = search rules in
    let none : v c.args.v.now ≡ zero_value = search rules in
    power-none (v c.args.v.now) c.args.e.now below none
