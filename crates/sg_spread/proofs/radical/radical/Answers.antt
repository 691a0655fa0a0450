use Rattle.std.proofs.Common.{map}
use Rattle.sg_num.specs.Value.{number}
use Rattle.sg_spread.proofs.Radicals.{itself}
use Rattle.sg_spread.proofs.radical.radical.Goals as goal

pub returns-in_ok-same-in-Err-Wide-clause-radical : goal.returns-in_ok-same-in-Err-Wide-clause-radical
returns-in_ok-same-in-Err-Wide-clause-radical c = itself (map number c.args.p.now) (map number c.in_ok-same-in-Err-Wide.same) c.in_ok-same-in-Err-Wide.ensures.value
