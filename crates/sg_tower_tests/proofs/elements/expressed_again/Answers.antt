use Rattle.sg_tower_tests.proofs.elements.expressed_again.Goals as goal

pub place-requires-clause-somewhere : goal.place-requires-clause-somewhere
place-requires-clause-somewhere g c = rw (c.as_slice.ensures, c.new-known.ensures) c.requires.placeable.somewhere
