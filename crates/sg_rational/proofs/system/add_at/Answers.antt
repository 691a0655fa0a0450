use Rattle.std.proofs.Common.{◌∙◌, sym, subst, ℕ, map, length}
use Rattle.sg_matrix.specs.Systems.{IsSystem}
use Rattle.sg_rational.proofs.Filling.{filled_full, filled_more}
use Rattle.sg_rational.proofs.system.add_at.Goals as goal

pub returns-then-rank-columns-clause-value : goal.returns-then-rank-columns-clause-value
returns-then-rank-columns-clause-value g c = filled_full g.F.Field.val (map (map g.F.Field.val) c.args.columns.now) (length c.args.columns.now) c.args.t c.args.system.now.rows (sym c.rank.ensures ∙ c.if-rank-columns.true) c.requires.value

pub returns-clause-value : goal.returns-clause-value
returns-clause-value g c =
    let v = g.F.Field.val in
    filled_more v (map (map v) c.args.columns.now) (length c.args.columns.now) c.args.t c.args.system.now.rows c.add_row.new.self.rows c.in_ok-row.row
    (subst (λ (w : ℕ). IsSystem v w c.args.system.now.rows) c.requires.width c.requires.form)
    (subst (λ (w : ℕ). IsSystem v w c.add_row.new.self.rows) (c.in_ok-_fresh.ensures.width ∙ c.requires.width) c.in_ok-_fresh.ensures.form)
    c.in_ok-row.ensures.size c.in_ok-row.ensures.value c.in_ok-_fresh.ensures.span (λ h. c.if-rank-columns.false (c.rank.ensures ∙ h)) c.requires.value
