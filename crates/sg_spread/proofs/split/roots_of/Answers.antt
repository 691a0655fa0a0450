use Rattle.sg_spread.proofs.split.roots_of.Goals as goal

pub whole_roots-requires : goal.whole_roots-requires
whole_roots-requires c = rw c.coeffs.ensures.value c.requires
