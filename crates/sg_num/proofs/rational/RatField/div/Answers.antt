use Rattle.sg_num.proofs.Numbers.{number-zero}
use Rattle.sg_num.proofs.rational.RatField.div.Goals as goal

pub over-requires : goal.over-requires
over-requires c e = c.requires (number-zero c.args.other.now e)
