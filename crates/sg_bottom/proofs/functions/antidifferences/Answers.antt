use Rattle.std.proofs.Common.{suc, sym, ◌∙◌}
use Rattle.sg_algebra.proofs.ValueField.{value_one_ne}
use Rattle.sg_bottom.proofs.Solving.{bottom_sound, bottom_complete}
use Rattle.sg_bottom.proofs.functions.antidifferences.Goals as goal

pub solve_first-requires : goal.solve_first-requires
solve_first-requires g c z = value_one_ne (suc g.F.Field.vars) (sym c.in_ok-one.ensures.value ∙ z)

pub returns-clause-sound : goal.returns-clause-sound
returns-clause-sound g c = bottom_sound g.F.Field.val _ c.in_ok-one.ensures.value c.args.fs.now c.in_ok-functions.functions c.in_ok-rows.rows c.in_ok-elements.elements
    c.in_ok-functions.ensures.value c.in_ok-elements.ensures.value c.in_ok-rows.ensures.basis

pub returns-clause-complete : goal.returns-clause-complete
returns-clause-complete g c = bottom_complete g.F.Field.val _ c.in_ok-one.ensures.value c.args.fs.now c.in_ok-functions.functions c.in_ok-rows.rows c.in_ok-elements.elements
    c.in_ok-functions.ensures.value c.in_ok-elements.ensures.value c.in_ok-rows.ensures.basis
