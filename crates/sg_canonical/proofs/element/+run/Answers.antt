use Rattle.std.proofs.Common.{List, subst, sym, ◌∙◌, arith, ◌+◌}
use Rattle.sg_canonical.specs.Parts.{IsRun}
use Rattle.sg_canonical.specs.declared.element.Part.{Part}
use Rattle.sg_canonical.proofs.Runs.{power-at, size-first, run-none, run-more, run-other}
use Rattle.sg_canonical.proofs.element.+run.Goals as goal

pub returns-in-None-clause-run : goal.returns-in-None-clause-run
returns-in-None-clause-run t c = run-none c.args.i c.args.e c.args.parts.now c.in-None.ensures.cases

pub returns-then-get-e-clause-run : goal.returns-then-get-e-clause-run
returns-then-get-e-clause-run t c =
    let power = power-at c.args.i c.in-Some.p.now.powers c.get.result.now (size-first c.args.i c.args.parts.now c.in-Some.rest.now c.in-Some.p.now c.in-Some.ensures.cases.0 c.requires) c.get.ensures in
    run-more c.args.i c.args.e c.run.result (1 + c.run.result) c.in-Some.p.now c.in-Some.rest.now c.args.parts.now c.in-Some.ensures.cases.0 (omega arith) (power ∙ c.if-get-e.true) c.run.ensures.run

pub returns-else-get-e-clause-run : goal.returns-else-get-e-clause-run
returns-else-get-e-clause-run t c =
    let power = power-at c.args.i c.in-Some.p.now.powers c.get.result.now (size-first c.args.i c.args.parts.now c.in-Some.rest.now c.in-Some.p.now c.in-Some.ensures.cases.0 c.requires) c.get.ensures in
    subst (λ (l : List Part). IsRun c.args.i c.args.e l 0) (sym c.in-Some.ensures.cases.0)
    (run-other c.args.i c.args.e c.in-Some.p.now c.in-Some.rest.now (λ h. c.if-get-e.false (sym power ∙ h)))
