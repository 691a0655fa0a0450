use Rattle.sg_build.proofs.numbers.+natural_power.Given as goal

abbrev pub decreases-natural_power : goal.decreases-natural_power
decreases-natural_power g l = l.e
