use Rattle.std.proofs.Common.{w64, SFits}
use Rattle.std.proofs.lemmas.Int.{to_z-of_z}
use Rattle.sg_spec.specs.Steps.{steps}
use Rattle.sg_expr.specs.Tree.{tree_of}
use Rattle.sg_value.specs.Answer.{step_of}
use Rattle.sg_value.proofs.Fitting.{not_both}
use Rattle.sg_value.proofs.value.value_at.Goals as goal

pub returns-in-TooWide-clause-exact : goal.returns-in-TooWide-clause-exact
returns-in-TooWide-clause-exact c =
    let fits_n : SFits w64 c.args.n = c.ranges.n in
    let fits_k : SFits w64 c.args.k = c.ranges.k in (
      λ e. cc,
      λ h. absurd (not_both (steps (tree_of c.args.e.now) c.args.n c.args.k) (step_of c.in-TooWide.wide) h (simp to_z-of_z at c.in-TooWide.ensures)),
    )
