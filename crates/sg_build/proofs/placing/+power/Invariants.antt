use Rattle.sg_build.proofs.placing.+power.Given as goal

abbrev pub decreases-power : goal.decreases-power
decreases-power g l = l.e
