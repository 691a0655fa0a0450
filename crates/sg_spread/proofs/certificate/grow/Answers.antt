use Rattle.std.proofs.Common.{◌-◌, map, length, arith}
use Rattle.sg_algebra.proofs.Tables.{row_read}
use Rattle.sg_num.specs.Value.{number}
use Rattle.sg_spread.proofs.Powers.{powers_more}
use Rattle.sg_spread.proofs.certificate.grow.Goals as goal

pub returns-clause-powers : goal.returns-clause-powers
returns-clause-powers c =
    powers_more (length c.args.a.now - 1) (length c.args.b.now - 1) (map number c.args.a.now) (map number c.args.b.now) c.args.rows.now c.push.new.self c.get.result.now c.in_ok-next.next
    c.requires.begun (let e = c.len.ensures in rw e at (row_read c.args.rows.now (c.len.result - 1) c.get.result.now (omega (arith, c.requires.begun)) c.get.ensures)) c.requires.powers (rw c.as_slice.ensures at c.in_ok-next.ensures.built) c.in_ok-push.ensures.ok
