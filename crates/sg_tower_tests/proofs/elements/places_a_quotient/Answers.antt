use Rattle.std.proofs.Common.{refl}
use Rattle.sg_tower_tests.proofs.PlaceableQuotient.{quotient-placeable}
use Rattle.sg_tower_tests.proofs.elements.places_a_quotient.Goals as goal

pub expressed_again-requires-clause-no_products : goal.expressed_again-requires-clause-no_products
expressed_again-requires-clause-no_products g c = rw c.none-tower.ensures refl

pub expressed_again-requires-clause-placeable : goal.expressed_again-requires-clause-placeable
expressed_again-requires-clause-placeable g c = rw c.in_ok-e.ensures (quotient-placeable _)
