use Rattle.std.proofs.Common.{◌≡◌, refl, sym, [], ◌∷◌, to_z, of_z}
use Rattle.std.specs.Int.{w64}
use Rattle.std.proofs.lemmas.Int.{to_z-of_z}
use Rattle.sg_expr.specs.Tree.{tree_of}
use Rattle.sg_limits.specs.Walks.{at_place}
use Rattle.sg_limits.proofs.Walking.{found_kept, found_first}
use Rattle.sg_limits.proofs.walk.first.Goals as goal

pub returns-in-Some : goal.returns-in-Some
returns-in-Some c = λ r front known least. found_kept r front (at_place c.args.place r (tree_of c.args.e.now) ∷ []) c.in-Some.f (rw c.in-Some.is at known)

pub returns-in_ok-part-in-None : goal.returns-in_ok-part-in-None
returns-in_ok-part-in-None c =
    let at : to_z w64 (of_z w64 c.args.at) ≡ c.args.at = to_z-of_z w64 c.args.at c.ranges.at in
    λ r front known least. rw at (found_first r front (at_place c.args.place r (tree_of c.args.e.now)) (record { place = c.args.place; at = c.args.at; part = c.in_ok-part-in-None.part }) (rw c.in-None.is at known) least.zero least.least refl
    (sym c.in_ok-part-in-None.ensures) refl)
