use Rattle.std.proofs.Common.{arith}
use Rattle.std.specs.Bool.{IsTrue}
use Rattle.sg_laurent.proofs.Gathering.{insert_value, insert_normal, nothing_more}
use Rattle.sg_laurent.proofs.terms.placed.Goals as goal

pub returns-then-is_zero-clause-value : goal.returns-then-is_zero-clause-value
returns-then-is_zero-clause-value g c =
    let t : IsTrue c.is_zero.result = grind (arith, c.if-is_zero.true) in
    nothing_more g.K.Field.val c.args.n c.args.terms c.args.t c.requires.fit (c.is_zero.ensures.0 t)

pub returns-clause-value : goal.returns-clause-value
returns-clause-value g c = insert_value g.K.Field.val c.args.n c.args.terms c.insert.new.self c.args.p c.args.t c.in_ok-insert.ensures.ok

pub returns-clause-normal : goal.returns-clause-normal
returns-clause-normal g c = insert_normal g.K.Field.val c.args.n c.args.terms c.insert.new.self c.args.p c.args.t c.in_ok-insert.ensures.ok c.requires.normal c.requires.fit
    (λ z. let t : IsTrue c.is_zero.result = c.is_zero.ensures.1 z in grind (arith, t, c.if-is_zero.false)) c.requires.before c.requires.after
