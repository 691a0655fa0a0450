use Rattle.std.proofs.Common.{◌≡◌, All, sym, ◌∙◌, subst}
use Rattle.std.proofs.lemmas.List.{take_all}
use Rattle.std.proofs.lemmas.List.Elements.{All-more}
use Rattle.sg_algebra.specs.Divisor.{gcd}
use Rattle.sg_relations.proofs.numbers.meeting.Goals as goal

pub loop-j-preserved : goal.loop-j-preserved
loop-j-preserved c = All-more (λ x. gcd c.args.w x.base ≡ 1) c.args.standing.now c.loop-j.j c.index-standing-j.result c.loop-j-test.true c.loop-j.invariant (sym c.gcd_of.ensures.value ∙ c.if-gcd_of-ne1.false)

pub returns-clause-none : goal.returns-clause-none
returns-clause-none c = λ e. subst (λ xs. All (λ x. gcd c.args.w x.base ≡ 1) xs) (take_all c.loop-j.j c.args.standing.now c.loop-j-test.false) c.loop-j.invariant
