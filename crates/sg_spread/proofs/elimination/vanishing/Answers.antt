use Rattle.std.proofs.Common.{map, arith}
use Rattle.sg_num.specs.Value.{number}
use Rattle.sg_spread.proofs.Vanishing.{list_nonzero, vanishing_roots}
use Rattle.sg_spread.proofs.elimination.vanishing.Goals as goal

pub returns-clause-some : goal.returns-clause-some
returns-clause-some c = list_nonzero (map number c.in_ok-p.p) (map number c.in_ok-list.list) c.in_ok-list.ensures.some c.in_ok-p.ensures.value

pub returns-clause-roots : goal.returns-clause-roots
returns-clause-roots c =
    vanishing_roots c.args.values.now c.split_at.result.0.now c.split_at.result.1.now c.in_ok-list.list c.in_ok-p.p c.args.n
    c.split_at.ensures.front c.split_at.ensures.back c.split_at.ensures.front_len (omega (arith, c.split_at.ensures.back_len)) c.in_ok-list.ensures.certificate c.in_ok-p.ensures.value
