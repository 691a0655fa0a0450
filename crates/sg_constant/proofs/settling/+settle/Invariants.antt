use Rattle.std.proofs.Common.{map}
use Rattle.sg_constant.specs.Shares.{size}
use Rattle.sg_constant.proofs.settling.+settle.Given as goal

abbrev pub decreases-settle : goal.decreases-settle
decreases-settle g l = size (map g.F.Field.val l.s.lower)
