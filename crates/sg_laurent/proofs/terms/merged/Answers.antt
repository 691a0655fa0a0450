use Rattle.std.proofs.Common.{◌∙◌, refl, arith}
use Rattle.std.specs.Bool.{IsTrue}
use Rattle.std.proofs.lemmas.List.{set_split}
use Rattle.sg_laurent.proofs.Gathering.{replace_value, replace_normal, remove_value, remove_normal}
use Rattle.sg_laurent.proofs.terms.merged.Goals as goal

pub returns-then-is_zero-clause-value : goal.returns-then-is_zero-clause-value
returns-then-is_zero-clause-value g c =
    let t : IsTrue c.is_zero.result = grind (arith, c.if-is_zero.true) in
    remove_value g.K.Field.val c.args.n c.args.terms c.args.p c.get.result.now c.args.t c.requires.inside c.get.ensures (c.requires.same c.get.result.now c.get.ensures) c.requires.normal
    c.remove.new.self (g.K.Field.val c.in_ok-coeff.coeff) c.in_ok-coeff.ensures.value (c.is_zero.ensures.0 t) c.remove.ensures.new

pub returns-then-is_zero-clause-normal : goal.returns-then-is_zero-clause-normal
returns-then-is_zero-clause-normal g c =
    remove_normal g.K.Field.val c.args.n c.args.terms c.args.p c.get.result.now c.args.t c.requires.inside c.get.ensures (c.requires.same c.get.result.now c.get.ensures) c.requires.normal
    c.remove.new.self c.remove.ensures.new

pub returns-clause-value : goal.returns-clause-value
returns-clause-value g c =
    replace_value g.K.Field.val c.args.n c.args.terms c.args.p c.get.result.now c.args.t c.requires.inside c.get.ensures (c.requires.same c.get.result.now c.get.ensures) c.requires.normal
    (record { exps = c.args.t.exps; coeff = c.in_ok-coeff.coeff }) c.set.new.self refl c.in_ok-coeff.ensures.value (c.set.ensures ∙ set_split c.args.terms c.args.p (record { exps = c.args.t.exps; coeff = c.in_ok-coeff.coeff }) c.requires.inside)

pub returns-clause-normal : goal.returns-clause-normal
returns-clause-normal g c =
    replace_normal g.K.Field.val c.args.n c.args.terms c.args.p c.get.result.now c.args.t c.requires.inside c.get.ensures (c.requires.same c.get.result.now c.get.ensures) c.requires.normal
    (record { exps = c.args.t.exps; coeff = c.in_ok-coeff.coeff }) c.set.new.self refl
    (λ z. let t : IsTrue c.is_zero.result = c.is_zero.ensures.1 z in grind (arith, t, c.if-is_zero.false)) (c.set.ensures ∙ set_split c.args.terms c.args.p (record { exps = c.args.t.exps; coeff = c.in_ok-coeff.coeff }) c.requires.inside)
