use Rattle.std.proofs.Common.{refl}
use Rattle.sg_tower_tests.proofs.elements.expresses_a_function.Goals as goal

pub is_expressed-requires-clause-no_products : goal.is_expressed-requires-clause-no_products
is_expressed-requires-clause-no_products g c = rw c.none-tower.ensures refl
