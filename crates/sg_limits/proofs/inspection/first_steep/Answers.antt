use Rattle.std.proofs.Common.{◌∙◌, sym, arith}
use Rattle.sg_spec.specs.Limits.{keeps_degrees}
use Rattle.sg_limits.proofs.Stepping.{first-found, first-passed, first-none}
use Rattle.sg_limits.proofs.inspection.first_steep.Goals as goal

pub returns-then-not-keeps_degrees : goal.returns-then-not-keeps_degrees
returns-then-not-keeps_degrees c =
    sym (first-found keeps_degrees c.loop-e.item c.args.items.now c.loop-e.e-index c.e-item.result c.loop-e-test.true c.e-item.is (sym c.keeps_degrees.ensures ∙ c.if-not-keeps_degrees.true))
    ∙ c.loop-e.invariant.1

pub loop-e-preserved : goal.loop-e-preserved
loop-e-preserved c = (
  omega arith,
  sym (first-passed keeps_degrees c.loop-e.item c.args.items.now c.loop-e.e-index c.e-item.result c.loop-e-test.true c.e-item.is (sym c.keeps_degrees.ensures ∙ c.if-not-keeps_degrees.false))
      ∙ c.loop-e.invariant.1,
)

pub returns : goal.returns
returns c = sym (first-none keeps_degrees c.loop-e.item c.args.items.now c.loop-e.e-index c.loop-e-test.false) ∙ c.loop-e.invariant.1
