use Rattle.sg_relations.proofs.Signs.{numbers_some}
use Rattle.sg_relations.proofs.consts.RatConsts.exponents.Goals as goal

pub exponents-requires : goal.exponents-requires
exponents-requires c = numbers_some c.args.list.now c.requires
