use Rattle.std.proofs.Common.{◌∙◌, ap, refl, List, ℤ, pos, negsuc, ◌+ℤ◌, ◌*ℤ◌}
use Rattle.sg_parts.specs.Planes.{coefficient}
use Rattle.sg_parts.proofs.Fractions.{opposite_is}
use Rattle.sg_parts.proofs.ratios.opposite.Goals as goal

pub returns : goal.returns
returns c = record {
  over = opposite_is c.in_ok-over.over c.args.x.over (λ i j. c.in_ok-over.ensures i j ∙ ap (λ (p : List (List ℤ)). pos 0 +ℤ negsuc 0 *ℤ coefficient p i j) c.as_slice.ensures);
  under = λ i j. refl;
}
