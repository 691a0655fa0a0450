use Rattle.sg_plain.proofs.reading.+power.Given as goal

abbrev pub decreases-power : goal.decreases-power
decreases-power l = l.n
