use Rattle.std.proofs.Common.{◌-◌, ◌%◌, map, length, sym, ap, ap₂, ◌∙◌, arith}
use Rattle.sg_algebra.proofs.Value.{◌+ᵛ◌, ◌*ᵛ◌, neg_value}
use Rattle.sg_algebra.proofs.ValueField.{ValueR}
use Rattle.sg_algebra.proofs.Polynomial.{coefficient}
use Rattle.sg_num.specs.Value.{number}
use Rattle.sg_dispersion_theory.proofs.StepRow.{Parts, step_at_by}
use Rattle.sg_spread.proofs.Rows.{last_line}
use Rattle.sg_spread.proofs.step.item_after.Goals as goal

pub returns-clause-value : goal.returns-clause-value
returns-clause-value c =
    c.in_ok-r.ensures.value
    ∙ ap₂ (λ x y. number c.item_above-up.result +ᵛ neg_value (x *ᵛ number c.item-low.result) +ᵛ neg_value (number c.item_left-left.result) +ᵛ y *ᵛ number c.item-last.result) c.item.ensures c.item-2.ensures
    ∙ sym (step_at_by (ValueR 0) (length c.args.a.now - 1) (length c.args.b.now - 1) (map number c.args.a.now) (map number c.args.b.now) (map number c.args.row.now) c.args.p
    (number c.item_above-up.result) (number c.item-low.result) (number c.item_left-left.result) (number c.item-last.result) (omega (arith, c.requires.within, c.requires.size)) parts)
  where
    parts : Parts (ValueR 0) (length c.args.a.now - 1) (length c.args.b.now - 1) (map number c.args.row.now) c.args.p (number c.item_above-up.result) (number c.item-low.result) (number c.item_left-left.result) (number c.item-last.result)
    parts = record {
      up_none = c.item_above-up.ensures.none;
      up_some = c.item_above-up.ensures.some;
      low_is = c.item-low.ensures ∙ ap (coefficient (map number c.args.row.now)) (last_line (length c.args.row.now) (length c.args.a.now - 1) (length c.args.b.now - 1) (c.args.p % (length c.args.a.now - 1)) c.requires.size);
      left_none = c.item_left-left.ensures.none;
      left_some = c.item_left-left.ensures.some;
      last_is = c.item-last.ensures;
    }
