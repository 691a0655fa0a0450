use Rattle.std.proofs.Common.{◌≡◌, ◌∙◌, suc, ◌-◌, arith}
use Rattle.sg_matrix.proofs.Places.{skip_low, skip_high}
use Rattle.sg_matrix.proofs.echelon.stood.Goals as goal

pub returns-then-i-place-clause-old : goal.returns-then-i-place-clause-old
returns-then-i-place-clause-old c = skip_low c.args.place c.args.i (omega arith)

pub returns-else-i-place-clause-old : goal.returns-else-i-place-clause-old
returns-else-i-place-clause-old c =
    let e : c.args.i ≡ suc (c.args.i - 1) = omega arith in
    e ∙ skip_high c.args.place (c.args.i - 1) (omega arith)
