use Rattle.std.proofs.Common.{◌∙◌, sym, arith}
use Rattle.std.specs.Bool.{IsTrue}
use Rattle.std.proofs.lemmas.List.{take_all}
use Rattle.sg_laurent.proofs.Coefficients.{found, not_found}
use Rattle.sg_laurent.proofs.laurent.coefficient_in.Goals as goal

pub returns-then-are_same-clause-value : goal.returns-then-are_same-clause-value
returns-then-are_same-clause-value g c =
    let t : IsTrue c.are_same.result = grind (arith, c.if-are_same.true) in
    found g.K.Field.val c.args.n c.args.terms.now c.loop-i.i c.index-terms-i.result c.args.exps.now (g.K.Field.val c.in_ok-c.c) c.loop-i-test.true c.index-terms-i.is c.requires (sym c.as_slice.ensures ∙ c.are_same.ensures.0 t) c.in_ok-c.ensures.value

pub returns-clause-value : goal.returns-clause-value
returns-clause-value g c = not_found g.K.Field.val c.args.n c.args.terms.now c.args.exps.now (g.K.Field.val c.in_ok-zero.zero) c.requires (rw (take_all c.loop-i.i c.args.terms.now c.loop-i-test.false) at c.loop-i.invariant) c.in_ok-zero.ensures.value
