use Rattle.std.proofs.Common.{refl}
use Rattle.sg_tower_tests.proofs.elements.evaluates_an_element.Goals as goal

pub value_at-requires : goal.value_at-requires
value_at-requires g c = rw c.none-tower.ensures refl

pub value_at-requires-2 : goal.value_at-requires-2
value_at-requires-2 g c = rw c.none-tower.ensures refl
