use Rattle.std.proofs.Common.{◌∷◌, [], refl, map, ap, ◌∙◌}
use Rattle.sg_algebra.proofs.Value.{one_value, ◌+ᵛ◌}
use Rattle.sg_algebra.proofs.Polynomial.{poly, coefficient, polynomial_one_ne}
use Rattle.sg_reduction_theory.proofs.Moves.{sum_at}
use Rattle.sg_constant.specs.Shares.{shares}
use Rattle.sg_constant.proofs.Functions.{over_whole, whole_over_one}
use Rattle.sg_constant.proofs.solving.solution.Goals as goal

pub returns-clause-known : goal.returns-clause-known
returns-clause-known g c =
    let v = g.F.Field.val in
    record {
      y = poly (map v c.in_ok-y.y);
      is = c.in_ok-r.ensures.value ∙ ap (λ x. x +ᵛ sum_at (coefficient (map v c.args.c.now)) (shares v c.args.moved.now))
          (c.in_ok-first.ensures.value ∙ over_whole (map v c.in_ok-y.y) (one_value ∷ []) polynomial_one_ne ∙ whole_over_one (poly (map v c.in_ok-y.y)) (poly (one_value ∷ [])) refl);
      solves = c.in_ok-y.ensures.value ∙ c.in_ok-p.ensures.value;
    }
