use Rattle.std.proofs.Common.{◌≡◌, ◌∙◌, ap, subst, ℕ, map, length, arith}
use Rattle.sg_matrix.specs.Systems.{System}
use Rattle.sg_rational.specs.Systems.{IsFilled}
use Rattle.sg_rational.proofs.Filling.{filled_start}
use Rattle.sg_rational.proofs.system.filled.Goals as goal

pub loop-t-init : goal.loop-t-init
loop-t-init g c = record {
  width = ap (λ (s : System g.row.F.Denot). s.width) c.new-system.ensures.value;
  form = c.new-system.ensures.form;
  value = rw (c.new-system.ensures.value) (filled_start g.F.Field.val (map (map g.F.Field.val) c.args.columns.now) (length c.args.columns.now));
}

pub loop-t-preserved : goal.loop-t-preserved
loop-t-preserved g c = record {
  width = c.in_ok-add_at.ensures.width ∙ c.loop-t.invariant.width;
  form = c.in_ok-add_at.ensures.form;
  value = c.in_ok-add_at.ensures.value;
}

pub returns-clause-value : goal.returns-clause-value
returns-clause-value g c =
    let e : c.loop-t.t ≡ c.args.size = omega arith in
    subst (λ (n : ℕ). IsFilled g.F.Field.val (map (map g.F.Field.val) c.args.columns.now) (length c.args.columns.now) n c.loop-t.system.rows) e c.loop-t.invariant.value
