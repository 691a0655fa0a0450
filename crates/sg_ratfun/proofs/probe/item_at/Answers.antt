use Rattle.std.proofs.Common.{◌∙◌, ap₂}
use Rattle.sg_algebra.proofs.Value.{◌/ᵛ◌}
use Rattle.sg_ratfun.proofs.Probing.{not_zero, not_zero_number}
use Rattle.sg_ratfun.proofs.probe.item_at.Goals as goal

pub over-requires : goal.over-requires
over-requires c = not_zero c.is_zero.result c.in_ok-below.below c.if-is_zero.false c.is_zero.ensures.value

pub returns-then-zero-clause-defined : goal.returns-then-zero-clause-defined
returns-then-zero-clause-defined c z = not_zero_number c.is_zero.result c.in_ok-below.below c.if-is_zero.false c.is_zero.ensures.as_number (c.in_ok-below.ensures.value ∙ z)

pub returns-then-zero-clause-value : goal.returns-then-zero-clause-value
returns-then-zero-clause-value c = c.in_ok-v.ensures.as_number ∙ ap₂ (λ x y. x /ᵛ y) c.in_ok-horner.ensures.value c.in_ok-below.ensures.value

pub returns-clause-defined : goal.returns-clause-defined
returns-clause-defined c z = not_zero_number c.is_zero.result c.in_ok-below.below c.if-is_zero.false c.is_zero.ensures.as_number (c.in_ok-below.ensures.value ∙ z)

pub returns-clause-value : goal.returns-clause-value
returns-clause-value c = c.in_ok-v.ensures.as_number ∙ ap₂ (λ x y. x /ᵛ y) c.in_ok-horner.ensures.value c.in_ok-below.ensures.value

pub returns-clause-nonzero : goal.returns-clause-nonzero
returns-clause-nonzero c e z = not_zero_number c.is_zero-2.result c.in_ok-v.v c.if-is_zero-2.false c.is_zero-2.ensures.as_number z
