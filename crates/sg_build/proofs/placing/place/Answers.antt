use Rattle.sg_build.proofs.placing.place.Goals as goal

pub element_of-requires : goal.element_of-requires
element_of-requires g c = record { built = c.requires.built; no_letter = c.requires.no_letter; units = c.requires.units; somewhere = c.requires.somewhere }
